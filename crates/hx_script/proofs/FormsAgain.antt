-- What the words of a line ask for, written again, is the words.
use Rattle.std.proofs.Common.{◌≡◌, ℕ, ◌-◌, ◌<◌, ◌^◌, Bool, true, false, List, [], ◌∷◌, ◌++◌, length, map, Some, Result, Ok, Err, if◌then◌else◌, refl, sym, ap, ◌∙◌, length-append, arith}
use Rattle.std.specs.Fmt.{decimal}
use Rattle.std.specs.List.{list_any, position_or_len}
use Rattle.std.specs.Prelude.{find}
use Rattle.std.specs.Str.{bytes_eq}
use Rattle.hx_ids.specs.Names.{interned, place_after}
use Rattle.hx_ids.specs.declared.InstanceId.{InstanceId}
use Rattle.hx_ids.specs.declared.MsgId.{MsgId}
use Rattle.hx_text.specs.Spellings.{is_name}
use Rattle.hx_cluster.specs.declared.description.Spec.{Spec}
use Rattle.hx_print.specs.Texts.{name_at, instance_name, state_name, model_name, controller_name, message_name, mapped_name}
use Rattle.hx_script.specs.declared.What.{What}
use Rattle.hx_script.specs.declared.What.TheVariants as asks
use Rattle.hx_script.specs.declared.verbs.Verb.{Verb}
use Rattle.hx_script.specs.declared.verbs.Verb.TheVariants as verbs
use Rattle.hx_script.specs.declared.faults.ScriptKind.{ScriptKind}
use Rattle.hx_script.specs.declared.faults.ScriptKind.TheVariants as kinds
use Rattle.hx_script.specs.Grammar.{map_ok, then_ok, one_word, two_words, three_words, two_and_more, instance_word, resource_word, state_word, name_word, number_word, part_words, controller_word, read_kind_word, pair_word, all_words, instance_and_message, tick_line, add_line, drop_line, reset_line, read_line, route_line, bare_line, what_of, verb_name, verb_of, all_verbs, spec_with}
use Rattle.hx_script.specs.LineTexts.{mode_text, read_kind_text, what_words}
use Rattle.hx_script.proofs.WordsAgain.{map_ok_from, then_ok_from, or_fault_from, same_bytes, any_within, first_at, instance_again, state_again, model_again, resource_again, number_again, controller_again, message_again, mode_again, read_kind_again, pair_again, all_again}
use Rattle.hx_script.proofs.LineParts.{one_from, two_from, three_from}
use Rattle.hx_script.proofs.LineParts.IsLine.{OfInstance, OfController, OfMessage, OfNone, OfTick, OfAdd, OfDrop, OfList, OfMap, OfReset, OfRead, OfRoute}
use Rattle.hx_script.proofs.LineParts.{IsLine, line_form, more_from, part_split, part_line, message_line, add_split, add_known}

-- a verb with one word; with an instance and a message; alone
of_one : {A : Type 0} (spec : Spec) (word : List ℕ → Result A ScriptKind) (text : A → List ℕ) → ((w : List ℕ) (x : A) → word w ≡ Ok x → text x ≡ w) → (ask : A → What) (verb : Verb)
    → ((x : A) → what_words spec (ask x) ≡ verb_name verb ∷ text x ∷ []) → (ws : List (List ℕ)) (what : What) → map_ok ask (then_ok (one_word ws) word) ≡ Ok what → what_words spec what ≡ verb_name verb ∷ ws
of_one spec word text again ask verb form ws what e =
    let x = map_ok_from ask (then_ok (one_word ws) word) what e in
    let w = then_ok_from (one_word ws) word x.0 x.1 in
    ap (what_words spec) (sym x.2) ∙ form x.0 ∙ ap (λ t. verb_name verb ∷ t ∷ []) (again w.0 x.0 w.2) ∙ ap (λ l. verb_name verb ∷ l) (sym (one_from ws w.0 w.1))

of_message : (spec : Spec) (ask : InstanceId × MsgId → What) (verb : Verb) (ws : List (List ℕ)) (what : What)
    → ((e : InstanceId × MsgId) → what_words spec (ask e) ≡ verb_name verb ∷ instance_name spec e.0 ∷ message_name e.1 ∷ [])
    → map_ok ask (instance_and_message spec ws) ≡ Ok what → what_words spec what ≡ verb_name verb ∷ ws
of_message spec ask verb ws what form e =
    let line = message_line spec ask ws what e in
    ap (what_words spec) (sym line.asked) ∙ form (line.instance, line.message)
    ∙ ap (λ x. verb_name verb ∷ x ∷ message_name line.message ∷ []) (instance_again spec line.texts.0 line.instance line.names)
    ∙ ap (λ x. verb_name verb ∷ line.texts.0 ∷ x ∷ []) (message_again line.texts.1 line.message line.numbers)
    ∙ ap (λ l. verb_name verb ∷ l) (sym (two_from ws line.texts line.taken))

of_none : (spec : Spec) (verb : Verb) (bare : What) (ws : List (List ℕ)) (what : What) → what_words spec bare ≡ verb_name verb ∷ [] → bare_line bare ws ≡ Ok what → what_words spec what ≡ verb_name verb ∷ ws
of_none spec verb bare [] what form e = let same : bare ≡ what = cc in ap (what_words spec) (sym same) ∙ form
of_none spec verb bare (w ∷ ws) what form e = cc

-- a resource's name and a partition's number
part_again : (spec : Spec) (r p : List ℕ) (part : ℕ × ℕ) → part_words spec r p ≡ Ok part → (name_at spec.resource_names part.0 ≡ r) × (decimal part.1 ≡ p)
part_again spec r p part e =
    let split = part_split spec r p part e in (
      ap (λ (both : ℕ × ℕ). name_at spec.resource_names both.0) (sym split.both) ∙ resource_again spec r split.name split.names,
      ap (λ (both : ℕ × ℕ). decimal both.1) (sym split.both) ∙ number_again 0 (2 ^ 32 - 1) p split.index split.numbers,
    )

-- a verb with a part and any number of words
of_list : {A : Type 0} (spec : Spec) (ask : ℕ → ℕ → List A → What) (verb : Verb) (word : List ℕ → Result A ScriptKind) (text : A → List ℕ) (ws : List (List ℕ)) (what : What)
    → ((w : List ℕ) (x : A) → word w ≡ Ok x → text x ≡ w)
    → ((name index : ℕ) (xs : List A) → what_words spec (ask name index xs) ≡ verb_name verb ∷ name_at spec.resource_names name ∷ decimal index ∷ map text xs)
    → then_ok (two_and_more ws) (λ t. then_ok (part_words spec t.0 t.1) (λ p. map_ok (ask p.0 p.1) (all_words word t.2))) ≡ Ok what → what_words spec what ≡ verb_name verb ∷ ws
of_list spec ask verb word text ws what again form e =
    let line = part_line two_and_more spec ask (all_words word) ws what e in
    let part = part_again spec line.texts.0 line.texts.1 line.part line.parts in
    ap (what_words spec) (sym line.asked) ∙ form line.part.0 line.part.1 line.rest
    ∙ ap (λ x. verb_name verb ∷ x ∷ decimal line.part.1 ∷ map text line.rest) part.0
    ∙ ap (λ x. verb_name verb ∷ line.texts.0 ∷ x ∷ map text line.rest) part.1
    ∙ ap (λ l. verb_name verb ∷ line.texts.0 ∷ line.texts.1 ∷ l) (all_again word text again line.texts.2 line.rest line.rests)
    ∙ ap (λ l. verb_name verb ∷ l) (sym (more_from ws line.texts line.taken))

-- the other forms
tick_again : (spec : Spec) (ws : List (List ℕ)) (what : What) → tick_line ws ≡ Ok what → what_words spec what ≡ verb_name verbs.Tick ∷ ws
tick_again spec ws what e =
    let w = then_ok_from (one_word ws) _ what e in
    let n = map_ok_from asks.Tick (number_word 0 (2 ^ 64 - 1) w.0) what w.2 in
    ap (what_words spec) (sym n.2) ∙ ap (λ x. verb_name verbs.Tick ∷ x ∷ []) (number_again 0 (2 ^ 64 - 1) w.0 n.0 n.1) ∙ ap (λ l. verb_name verbs.Tick ∷ l) (sym (one_from ws w.0 w.1))

drop_again : (spec : Spec) (ws : List (List ℕ)) (what : What) → drop_line spec ws ≡ Ok what → what_words spec what ≡ verb_name verbs.Drop ∷ ws
drop_again spec ws what e =
    let w = then_ok_from (one_word ws) _ what e in
    let n = map_ok_from asks.Drop (resource_word spec w.0) what w.2 in
    ap (what_words spec) (sym n.2) ∙ ap (λ x. verb_name verbs.Drop ∷ x ∷ []) (resource_again spec w.0 n.0 n.1) ∙ ap (λ l. verb_name verbs.Drop ∷ l) (sym (one_from ws w.0 w.1))

reset_again : (spec : Spec) (ws : List (List ℕ)) (what : What) → reset_line spec ws ≡ Ok what → what_words spec what ≡ verb_name verbs.Reset ∷ ws
reset_again spec ws what e =
    let t = then_ok_from (three_words ws) _ what e in
    let i = then_ok_from (instance_word spec t.0.0) _ what t.2 in
    let p = map_ok_from (λ (p : ℕ × ℕ). asks.Reset i.0 p.0 p.1) (part_words spec t.0.1 t.0.2) what i.2 in
    let part = part_again spec t.0.1 t.0.2 p.0 p.1 in
    ap (what_words spec) (sym p.2)
    ∙ ap (λ x. verb_name verbs.Reset ∷ x ∷ name_at spec.resource_names p.0.0 ∷ decimal p.0.1 ∷ []) (instance_again spec t.0.0 i.0 i.1)
    ∙ ap (λ x. verb_name verbs.Reset ∷ t.0.0 ∷ x ∷ decimal p.0.1 ∷ []) part.0
    ∙ ap (λ x. verb_name verbs.Reset ∷ t.0.0 ∷ t.0.1 ∷ x ∷ []) part.1
    ∙ ap (λ l. verb_name verbs.Reset ∷ l) (sym (three_from ws t.0 t.1))

read_again : (spec : Spec) (ws : List (List ℕ)) (what : What) → read_line spec ws ≡ Ok what → what_words spec what ≡ verb_name verbs.Read ∷ ws
read_again spec ws what e =
    let t = then_ok_from (two_words ws) _ what e in
    let k = then_ok_from (controller_word spec t.0.0) _ what t.2 in
    let kind = map_ok_from (asks.Read k.0) (read_kind_word t.0.1) what k.2 in
    ap (what_words spec) (sym kind.2)
    ∙ ap (λ x. verb_name verbs.Read ∷ x ∷ read_kind_text kind.0 ∷ []) (controller_again spec t.0.0 k.0 k.1)
    ∙ ap (λ x. verb_name verbs.Read ∷ t.0.0 ∷ x ∷ []) (read_kind_again t.0.1 kind.0 kind.1)
    ∙ ap (λ l. verb_name verbs.Read ∷ l) (sym (two_from ws t.0 t.1))

route_again : (spec : Spec) (ws : List (List ℕ)) (what : What) → route_line spec ws ≡ Ok what → what_words spec what ≡ verb_name verbs.Route ∷ ws
route_again spec ws what e =
    let line = part_line three_words spec asks.Route (state_word spec) ws what e in
    let part = part_again spec line.texts.0 line.texts.1 line.part line.parts in
    ap (what_words spec) (sym line.asked)
    ∙ ap (λ x. verb_name verbs.Route ∷ x ∷ decimal line.part.1 ∷ state_name spec line.rest ∷ []) part.0
    ∙ ap (λ x. verb_name verbs.Route ∷ line.texts.0 ∷ x ∷ state_name spec line.rest ∷ []) part.1
    ∙ ap (λ x. verb_name verbs.Route ∷ line.texts.0 ∷ line.texts.1 ∷ x ∷ []) (state_again spec line.texts.2 line.rest line.rests)
    ∙ ap (λ l. verb_name verbs.Route ∷ l) (sym (three_from ws line.texts line.taken))

-- a new name that the description has
pub interned_within : (names : List (List ℕ)) (w : List ℕ) → interned names w ≡ names → position_or_len (bytes_eq w) names < length names
interned_within names w e = one (list_any (bytes_eq w) names) refl e
  where
    one : (b : Bool) → list_any (bytes_eq w) names ≡ b → (if b then names else names ++ w ∷ []) ≡ names → position_or_len (bytes_eq w) names < length names
    one true is e = any_within (bytes_eq w) names is
    one false is e = absurd (omega (arith, ap length e, length-append names (w ∷ [])))

new_name_again : (spec : Spec) (w : List ℕ) (n : ℕ) → interned spec.resource_names w ≡ spec.resource_names → name_word spec w ≡ Ok n → name_at spec.resource_names n ≡ w
new_name_again spec w n known e = one (is_name w) e
  where
    one : (b : Bool) → (if b then Ok (place_after spec.resource_names w) else Err kinds.BadName) ≡ Ok n → name_at spec.resource_names n ≡ w
    one true e = let at : place_after spec.resource_names w ≡ n = cc in ap (name_at spec.resource_names) (sym at) ∙ first_at spec.resource_names w (interned_within spec.resource_names w known)
    one false e = cc

add_again : (spec : Spec) (first : List ℕ) (ws : List (List ℕ)) (what : What) → spec_with spec (first ∷ ws) (Ok (Some what)) ≡ spec → add_line spec ws ≡ Ok what → what_words spec what ≡ verb_name verbs.Add ∷ ws
add_again spec first ws what known e =
    let add = add_split spec ws what e in
    let t = add.texts in
    ap (what_words spec) (sym add.asked)
    ∙ ap (λ x. verb_name verbs.Add ∷ x ∷ model_name spec add.model.0 ∷ decimal add.replicas.0 ∷ decimal add.parts.0 ∷ mode_text add.mode.0 ∷ []) (new_name_again spec t.0 add.name.0 (add_known spec first ws what add known) add.name.1)
    ∙ ap (λ x. verb_name verbs.Add ∷ t.0 ∷ x ∷ decimal add.replicas.0 ∷ decimal add.parts.0 ∷ mode_text add.mode.0 ∷ []) (model_again spec t.1 add.model.0 add.model.1)
    ∙ ap (λ x. verb_name verbs.Add ∷ t.0 ∷ t.1 ∷ x ∷ decimal add.parts.0 ∷ mode_text add.mode.0 ∷ []) (number_again 1 64 t.2 add.replicas.0 add.replicas.1)
    ∙ ap (λ x. verb_name verbs.Add ∷ t.0 ∷ t.1 ∷ t.2 ∷ x ∷ mode_text add.mode.0 ∷ []) (number_again 1 1024 t.3 add.parts.0 add.parts.1)
    ∙ ap (λ x. verb_name verbs.Add ∷ t.0 ∷ t.1 ∷ t.2 ∷ t.3 ∷ x ∷ []) (mode_again t.4 add.mode.0 add.mode.1)
    ∙ ap (λ l. verb_name verbs.Add ∷ l) (sym add.whole)

-- each form
form_again : (spec : Spec) (verb : Verb) (first : List ℕ) (ws : List (List ℕ)) (what : What) → spec_with spec (first ∷ ws) (Ok (Some what)) ≡ spec → IsLine spec verb ws what → what_words spec what ≡ verb_name verb ∷ ws
form_again spec verb first ws what known (OfInstance ask words range e) = of_one spec (instance_word spec) (instance_name spec) (instance_again spec) ask verb words ws what e
form_again spec verb first ws what known (OfController ask words range e) = of_one spec (controller_word spec) controller_name (controller_again spec) ask verb words ws what e
form_again spec verb first ws what known (OfMessage ask words range e) = of_message spec ask verb ws what words e
form_again spec verb first ws what known (OfNone bare words range e) = of_none spec verb bare ws what words e
form_again spec verb first ws what known (OfTick is e) = rw is (tick_again spec ws what e)
form_again spec verb first ws what known (OfAdd is e) = rw is (add_again spec first ws what known e)
form_again spec verb first ws what known (OfDrop is e) = rw is (drop_again spec ws what e)
form_again spec verb first ws what known (OfList is e) = rw is (of_list spec asks.List verbs.List (instance_word spec) (instance_name spec) ws what (instance_again spec) (λ name index list. refl) e)
form_again spec verb first ws what known (OfMap is e) = rw is (of_list spec asks.Map verbs.Map (pair_word spec) (mapped_name spec) ws what (pair_again spec) (λ name index entries. refl) e)
form_again spec verb first ws what known (OfReset is e) = rw is (reset_again spec ws what e)
form_again spec verb first ws what known (OfRead is e) = rw is (read_again spec ws what e)
form_again spec verb first ws what known (OfRoute is e) = rw is (route_again spec ws what e)

pub verb_words_again : (spec : Spec) (verb : Verb) (first : List ℕ) (ws : List (List ℕ)) (what : What) → spec_with spec (first ∷ ws) (Ok (Some what)) ≡ spec → what_of spec verb ws ≡ Ok what
    → what_words spec what ≡ verb_name verb ∷ ws
verb_words_again spec verb first ws what known e = form_again spec verb first ws what known (line_form spec verb ws what e)

-- the word that something is found by is its name
pub named_so : {V : Type 0} (name : V → List ℕ) (w : List ℕ) (vs : List V) (v : V) → find (λ x. bytes_eq (name x) w) vs ≡ Some v → name v ≡ w
named_so name w [] v e = cc
named_so name w (x ∷ vs) v e = one (bytes_eq (name x) w) refl (named_so name w vs v) e
  where
    one : (b : Bool) → bytes_eq (name x) w ≡ b → (find (λ y. bytes_eq (name y) w) vs ≡ Some v → name v ≡ w) → (if b then Some x else find (λ y. bytes_eq (name y) w) vs) ≡ Some v → name v ≡ w
    one true is rest e = let same : x ≡ v = cc in ap name (sym same) ∙ same_bytes (name x) w is
    one false is rest e = rest e

pub verb_again : (w : List ℕ) (v : Verb) → verb_of w ≡ Ok v → verb_name v ≡ w
verb_again w v e = named_so verb_name w all_verbs v (or_fault_from _ _ v e)
