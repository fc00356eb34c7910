-- A line asks for the same with the names that later lines bring.
use Rattle.std.proofs.Common.{◌≡◌, ℕ, ◌+◌, ◌<◌, Bool, true, false, not, List, [], ◌∷◌, ◌++◌, length, Option, Some, None, Result, Ok, Err, if◌then◌else◌, cond, nat_lt, refl, sym, ap, ◌∙◌, subst, append_assoc, length-append, add-zero, arith}
use Rattle.std.proofs.lemmas.Bool.{cond-true, cond-false, lt-ltb, ne_eqb, eq-eqb, or_left, or_right}
use Rattle.std.proofs.lemmas.List.Folds.{prefix_len-append, position_or_len_push, list_any-append}
use Rattle.std.proofs.lemmas.List.Quantifiers.{position-Some}
use Rattle.std.proofs.lemmas.Slice.Eq.{bytes_eq-Decides}
use Rattle.std.specs.List.{list_any, position_or_len}
use Rattle.std.specs.Str.{bytes_eq}
use Rattle.hx_ids.proofs.Places.{found_place}
use Rattle.hx_ids.specs.Names.{place_of, place_after, interned}
use Rattle.hx_text.specs.Spellings.{is_name}
use Rattle.hx_cluster.specs.declared.description.Spec.{Spec}
use Rattle.hx_script.specs.declared.What.{What}
use Rattle.hx_script.specs.declared.What.TheVariants as asks
use Rattle.hx_script.specs.declared.verbs.Verb.{Verb}
use Rattle.hx_script.specs.declared.verbs.Verb.TheVariants as verbs
use Rattle.hx_script.specs.declared.faults.ScriptKind.{ScriptKind}
use Rattle.hx_script.specs.declared.faults.ScriptKind.TheVariants as kinds
use Rattle.hx_script.specs.Grammar.{map_ok, then_ok, or_fault, one_word, three_words, two_and_more, instance_word, resource_word, name_word, part_words, add_line, drop_line, list_line, map_line, reset_line, route_line, what_of, is_add, with_second, spec_with}
use Rattle.hx_script.proofs.Scripts.{adds_with}
use Rattle.hx_script.proofs.WordsAgain.{or_fault_from, any_within, none_first}
use Rattle.hx_script.proofs.LineParts.{add_split}

abbrev pub with_names : Spec → List (List ℕ) → Spec
with_names spec names = record spec { resource_names = names }

-- a name stands at the same place in a longer list
longer_first : (p : List ℕ → Bool) (xs ys : List (List ℕ)) → position_or_len p xs < length xs → position_or_len p (xs ++ ys) ≡ position_or_len p xs
longer_first p xs ys within =
    prefix_len-append (λ x. not (p x)) xs ys ∙ cond-false _ _ _ (ne_eqb (position_or_len p xs) (length xs) (λ e. omega arith))

longer_place : (names more : List (List ℕ)) (w : List ℕ) (n : ℕ) → place_of names w ≡ Some n → place_of (names ++ more) w ≡ Some n
longer_place names more w n e =
    let within = (position-Some (bytes_eq w) names n [] e).0 in
    let at = found_place (bytes_eq w) names n e in
    let first = longer_first (bytes_eq w) names more (omega (arith, at, within)) in
    cond-true (nat_lt (position_or_len (bytes_eq w) (names ++ more)) (length (names ++ more))) (Some (position_or_len (bytes_eq w) (names ++ more))) None
    (lt-ltb _ _ (omega (arith, first, at, within, length-append names more)))
    ∙ ap (λ k. Some k) (first ∙ sym at)

-- a step after the same words, and after a part that stays
same_then : {A B E : Type 0} (r : Result A E) (f g : A → Result B E) (y : B) → ((x : A) → f x ≡ Ok y → g x ≡ Ok y) → then_ok r f ≡ Ok y → then_ok r g ≡ Ok y
same_then (Ok x) f g y same e = same x e
same_then (Err k) f g y same e = cc

later_then : {A B E : Type 0} (r s : Result A E) (f : A → Result B E) (y : B) → ((x : A) → r ≡ Ok x → s ≡ Ok x) → then_ok r f ≡ Ok y → then_ok s f ≡ Ok y
later_then (Ok x) s f y later e = ap (λ q. then_ok q f) (later x refl) ∙ e
later_then (Err k) s f y later e = cc

later_map : {A B E : Type 0} (f : A → B) (r s : Result A E) (y : B) → ((x : A) → r ≡ Ok x → s ≡ Ok x) → map_ok f r ≡ Ok y → map_ok f s ≡ Ok y
later_map f (Ok x) s y later e = ap (map_ok f) (later x refl) ∙ e
later_map f (Err k) s y later e = cc

module _ (spec : Spec) (more : List (List ℕ)) where
  abbrev later : Spec
  later = with_names spec (spec.resource_names ++ more)

  resource_later : (w : List ℕ) (n : ℕ) → resource_word spec w ≡ Ok n → resource_word later w ≡ Ok n
  resource_later w n e = ap (or_fault _) (longer_place spec.resource_names more w n (or_fault_from _ _ n e))

  part_later : (r p : List ℕ) (part : ℕ × ℕ) → part_words spec r p ≡ Ok part → part_words later r p ≡ Ok part
  part_later r p part e = later_then (resource_word spec r) (resource_word later r) _ part (resource_later r) e

  drop_later : (ws : List (List ℕ)) (what : What) → drop_line spec ws ≡ Ok what → drop_line later ws ≡ Ok what
  drop_later ws what e = same_then (one_word ws) _ _ what (λ r. later_map asks.Drop (resource_word spec r) (resource_word later r) what (resource_later r)) e

  list_later : (ws : List (List ℕ)) (what : What) → list_line spec ws ≡ Ok what → list_line later ws ≡ Ok what
  list_later ws what e = same_then (two_and_more ws) _ _ what (λ t. later_then (part_words spec t.0 t.1) (part_words later t.0 t.1) _ what (part_later t.0 t.1)) e

  map_later : (ws : List (List ℕ)) (what : What) → map_line spec ws ≡ Ok what → map_line later ws ≡ Ok what
  map_later ws what e = same_then (two_and_more ws) _ _ what (λ t. later_then (part_words spec t.0 t.1) (part_words later t.0 t.1) _ what (part_later t.0 t.1)) e

  reset_later : (ws : List (List ℕ)) (what : What) → reset_line spec ws ≡ Ok what → reset_line later ws ≡ Ok what
  reset_later ws what e =
      same_then (three_words ws) _ _ what (λ t. same_then (instance_word spec t.0) _ _ what (λ i. later_map (λ (p : ℕ × ℕ). asks.Reset i p.0 p.1) (part_words spec t.1 t.2) (part_words later t.1 t.2) what (part_later t.1 t.2))) e

  route_later : (ws : List (List ℕ)) (what : What) → route_line spec ws ≡ Ok what → route_line later ws ≡ Ok what
  route_later ws what e = same_then (three_words ws) _ _ what (λ t. later_then (part_words spec t.0 t.1) (part_words later t.0 t.1) _ what (part_later t.0 t.1)) e

-- the place of a new name is its place once it is there
place_interned : (names more : List (List ℕ)) (w : List ℕ) → place_after (interned names w ++ more) w ≡ place_after names w
place_interned names more w = one (list_any (bytes_eq w) names) refl
  where
    one : (b : Bool) → list_any (bytes_eq w) names ≡ b → place_after ((if b then names else names ++ w ∷ []) ++ more) w ≡ place_after names w
    one true is = longer_first (bytes_eq w) names more (any_within (bytes_eq w) names is)
    one false is =
        let none = none_first (bytes_eq w) names is in
        let own : position_or_len (bytes_eq w) (names ++ w ∷ []) ≡ length names =
        position_or_len_push (bytes_eq w) names w ∙ cond-true _ _ _ (eq-eqb _ _ none) ∙ ap (λ b. length names + cond b 0 1) ((bytes_eq-Decides w w).1 refl) ∙ add-zero (length names) in
        longer_first (bytes_eq w) (names ++ w ∷ []) more (omega (arith, own, length-append names (w ∷ []))) ∙ own ∙ sym none

stands_interned : (names more : List (List ℕ)) (w : List ℕ) → interned (interned names w ++ more) w ≡ interned names w ++ more
stands_interned names more w = cond-true (list_any (bytes_eq w) (interned names w ++ more)) _ _ (one (list_any (bytes_eq w) names) refl)
  where
    one : (b : Bool) → list_any (bytes_eq w) names ≡ b → list_any (bytes_eq w) ((if b then names else names ++ w ∷ []) ++ more) ≡ true
    one true is = list_any-append (bytes_eq w) names more ∙ or_left _ _ is
    one false is =
        list_any-append (bytes_eq w) (names ++ w ∷ []) more
        ∙ or_left _ _ (list_any-append (bytes_eq w) names (w ∷ []) ∙ or_right _ _ (or_left _ _ ((bytes_eq-Decides w w).1 refl)))

name_later : (spec : Spec) (more : List (List ℕ)) (w : List ℕ) (n : ℕ) → name_word spec w ≡ Ok n → name_word (with_names spec (interned spec.resource_names w ++ more)) w ≡ Ok n
name_later spec more w n e = ap (λ k. if is_name w then Ok k else Err kinds.BadName) (place_interned spec.resource_names more w) ∙ e

-- the description after a line, and with the names of later lines
abbrev pub later_with : Spec → List (List ℕ) → Option What → List (List ℕ) → Spec
later_with spec words what more = with_names spec ((spec_with spec words (Ok what)).resource_names ++ more)

-- only an `add` line adds
pub add_is_add : (spec : Spec) (ws : List (List ℕ)) (what : What) → add_line spec ws ≡ Ok what → is_add (Some what) ≡ true
add_is_add spec ws what e = ap (λ x. is_add (Some x)) (sym (add_split spec ws what e).asked)

add_later : (spec : Spec) (more : List (List ℕ)) (first : List ℕ) (ws : List (List ℕ)) (what : What) → add_line spec ws ≡ Ok what → add_line (later_with spec (first ∷ ws) (Some what) more) ws ≡ Ok what
add_later spec more first [] what e = cc
add_later spec more first (x ∷ []) what e = cc
add_later spec more first (x ∷ y ∷ []) what e = cc
add_later spec more first (x ∷ y ∷ z ∷ []) what e = cc
add_later spec more first (x ∷ y ∷ z ∷ u ∷ []) what e = cc
add_later spec more first (x ∷ y ∷ z ∷ u ∷ v ∷ []) what e =
    rw (add_is_add spec (x ∷ y ∷ z ∷ u ∷ v ∷ []) what e) (later_then (name_word spec x) (name_word (with_names spec (interned spec.resource_names x ++ more)) x) _ what (name_later spec more x) e)
add_later spec more first (x ∷ y ∷ z ∷ u ∷ v ∷ w ∷ ws) what e = cc

-- all lines have the names that stood before
names_longer : (spec : Spec) (words : List (List ℕ)) (what : Option What) (more : List (List ℕ)) → (all : List (List ℕ)) × (with_names spec (spec.resource_names ++ all) ≡ later_with spec words what more)
names_longer spec words what more =
    let kept = (adds_with spec words (Ok what)).kept in
    (kept.names.0 ++ more, ap (with_names spec) (sym (append_assoc spec.resource_names kept.names.0 more) ∙ ap (λ ns. ns ++ more) (sym kept.names.1)))

-- so each line asks for the same
pub what_later : (spec : Spec) (more : List (List ℕ)) (verb : Verb) (first : List ℕ) (ws : List (List ℕ)) (what : What) → what_of spec verb ws ≡ Ok what → what_of (later_with spec (first ∷ ws) (Some what) more) verb ws ≡ Ok what
what_later spec more verbs.Join first ws what e = e
what_later spec more verbs.Beat first ws what e = e
what_later spec more verbs.Drain first ws what e = e
what_later spec more verbs.Undrain first ws what e = e
what_later spec more verbs.Tick first ws what e = e
what_later spec more verbs.Expire first ws what e = e
what_later spec more verbs.Die first ws what e = e
what_later spec more verbs.Add first ws what e = add_later spec more first ws what e
what_later spec more verbs.Drop first ws what e = let all = names_longer spec (first ∷ ws) (Some what) more in subst (λ s. drop_line s ws ≡ Ok what) all.1 (drop_later spec all.0 ws what e)
what_later spec more verbs.List first ws what e = let all = names_longer spec (first ∷ ws) (Some what) more in subst (λ s. list_line s ws ≡ Ok what) all.1 (list_later spec all.0 ws what e)
what_later spec more verbs.Map first ws what e = let all = names_longer spec (first ∷ ws) (Some what) more in subst (λ s. map_line s ws ≡ Ok what) all.1 (map_later spec all.0 ws what e)
what_later spec more verbs.Reset first ws what e = let all = names_longer spec (first ∷ ws) (Some what) more in subst (λ s. reset_line s ws ≡ Ok what) all.1 (reset_later spec all.0 ws what e)
what_later spec more verbs.Lead first ws what e = e
what_later spec more verbs.Stop first ws what e = e
what_later spec more verbs.Start first ws what e = e
what_later spec more verbs.Begin first ws what e = e
what_later spec more verbs.Read first ws what e = e
what_later spec more verbs.Send first ws what e = e
what_later spec more verbs.Post first ws what e = e
what_later spec more verbs.Pass first ws what e = e
what_later spec more verbs.Fetch first ws what e = e
what_later spec more verbs.Deliver first ws what e = e
what_later spec more verbs.Take first ws what e = e
what_later spec more verbs.Write first ws what e = e
what_later spec more verbs.Ack first ws what e = e
what_later spec more verbs.Work first ws what e = e
what_later spec more verbs.Settle first ws what e = e
what_later spec more verbs.View first ws what e = e
what_later spec more verbs.Route first ws what e = let all = names_longer spec (first ∷ ws) (Some what) more in subst (λ s. route_line s ws ≡ Ok what) all.1 (route_later spec all.0 ws what e)
what_later spec more verbs.Summary first ws what e = e

-- and no later line brings its name again
pub stands_later : (spec : Spec) (words : List (List ℕ)) (what : Option What) (more : List (List ℕ)) → spec_with (later_with spec words what more) words (Ok what) ≡ later_with spec words what more
stands_later spec words what more = one (is_add what) refl
  where
    one : (b : Bool) → is_add what ≡ b → spec_with (later_with spec words what more) words (Ok what) ≡ later_with spec words what more
    one true is = rw is (second (two_and_more words))
      where
        second : (t : Result (List ℕ × List ℕ × List (List ℕ)) ScriptKind) → with_second (with_names spec ((with_second spec t).resource_names ++ more)) t ≡ with_names spec ((with_second spec t).resource_names ++ more)
        second (Err kind) = refl
        second (Ok t) = ap (with_names spec) (stands_interned spec.resource_names more t.1)
    one false is = rw is refl
