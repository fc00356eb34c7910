-- Where all are visited that have a target, the targets of the visits are those of the part.
use Rattle.std.proofs.Common.{◌≡◌, ℕ, zero, suc, ◌+◌, ◌<◌, ◌≤◌, ◌==◌, ◌&&◌, ◌||◌, not, Bool, true, false, List, [], ◌∷◌, ◌++◌, length, take, get_or, Option, Some, None, refl, sym, ap, ◌∙◌, subst, arith, add-zero, zero-add}
use Rattle.std.specs.Prelude.{if◌then◌else◌, nat_lt}
use Rattle.std.specs.List.{list_any, filter_map, cons_option}
use Rattle.std.specs.Option.{option_or, is_some}
use Rattle.std.proofs.lemmas.Bool.Decides.{nat_tests}
use Rattle.std.proofs.lemmas.List.{take_all}
use Rattle.hx_ids.specs.declared.SessionId.{SessionId}
use Rattle.hx_ids.specs.declared.InstanceId.{InstanceId}
use Rattle.hx_ids.specs.declared.PartId.{PartId}
use Rattle.hx_cluster.specs.declared.planning.Target.{Target}
use Rattle.hx_cluster.specs.declared.state.Row.{Row}
use Rattle.hx_cluster.specs.Ends.{part_eq, row_of}
use Rattle.hx_parts.specs.Parts.{items_at}
use Rattle.hx_best.specs.declared.marks.Mark.{Mark}
use Rattle.hx_best.specs.declared.visits.Visit.{Visit}
use Rattle.hx_best.specs.Wants.{is_wanted, place_in}
use Rattle.hx_best.specs.Goals.{wanted_goal}
use Rattle.hx_best.specs.Targets.{is_target, target, targets_at}
use Rattle.hx_best.specs.Places.{Placing, model_in, wants_at, rows_at, order_of, IsMarked, AreVisits, target_at}
use Rattle.hx_best.specs.Visits.{rises, is_visited, mark_at, Adds}
use Rattle.hx_best.proofs.Found.{found_all}
use Rattle.hx_best.proofs.Visiting.{both, or_none, not_visited, no_mark, above_first}

is_same : (a : ℕ) → (a == a) ≡ true
is_same a = grind (arith, nat_tests)

-- a visit has its own mark, and its session is visited
pub own_mark : (first : ℕ) (vs : List Visit) (j : ℕ) (d : Visit) → rises first vs ≡ true → j < length vs → mark_at vs (get_or vs j d).number ≡ (get_or vs j d).mark
own_mark first [] j d up lt = absurd (omega (arith, lt))
own_mark first (v ∷ vs) zero d up lt = rw (is_same v.number) refl
own_mark first (v ∷ vs) (suc j) d up lt =
    let rest = (both (not (nat_lt v.number first)) (rises (v.number + 1) vs) up).1 in
    let above = above_first (v.number + 1) vs j d rest (omega (arith, lt)) in
    let other : (v.number == (get_or vs j d).number) ≡ false = grind (arith, nat_tests, above) in
    rw other (own_mark (v.number + 1) vs j d rest (omega (arith, lt)))

pub own_visited : (vs : List Visit) (j : ℕ) (d : Visit) → j < length vs → is_visited vs (get_or vs j d).number ≡ true
own_visited [] j d lt = absurd (omega (arith, lt))
own_visited (v ∷ vs) zero d lt = rw (is_same v.number) refl
own_visited (v ∷ vs) (suc j) d lt = grind (arith, own_visited vs j d (omega (arith, lt)))

-- what all have, where those that aren't visited have nothing
gathered : {X Y : Type 0} (f : X → Option Y) (g : ℕ → Option Y) (d : X) (xs : List X) (first : ℕ) (vs : List Visit) → rises first vs ≡ true
    → ((k : ℕ) → is_visited vs k ≡ true → k < first + length xs) → ((k : ℕ) → k < length xs → g (first + k) ≡ f (get_or xs k d))
    → ((k : ℕ) → k < length xs → is_visited vs (first + k) ≡ false → f (get_or xs k d) ≡ None) → filter_map (λ v. g v.number) vs ≡ filter_map f xs
gathered f g d [] first [] up inside same none = refl
gathered f g d [] first (v ∷ vs) up inside same none =
    let parts = both (not (nat_lt v.number first)) (rises (v.number + 1) vs) up in
    let low = inside v.number (grind (arith, is_same v.number)) in
    absurd (grind (arith, nat_tests, parts.0, low))
gathered f g d (x ∷ xs) first [] up inside same none =
    let here : f x ≡ None = none 0 (omega arith) refl in
    let rest : [] ≡ filter_map f xs =
    gathered f g d xs (first + 1) [] up (λ k e. cc)
    (λ k lt. let next : first + suc k ≡ first + 1 + k = omega arith in ap g (sym next) ∙ same (suc k) (omega (arith, lt))) (λ k lt e. none (suc k) (omega (arith, lt)) refl) in
    rest ∙ ap (λ (o : Option _). cons_option o (filter_map f xs)) (sym here)
gathered {X} {Y} f g d (x ∷ xs) first (v ∷ vs) up inside same none =
    one (v.number == first) refl (gathered f g d xs (first + 1) vs) (gathered f g d xs (first + 1) (v ∷ vs))
  where
    parts : (not (nat_lt v.number first) ≡ true) × (rises (v.number + 1) vs ≡ true)
    parts = both (not (nat_lt v.number first)) (rises (v.number + 1) vs) up

    next : (k : ℕ) → first + suc k ≡ first + 1 + k
    next k = omega arith

    long : first + length (x ∷ xs) ≡ first + 1 + length xs
    long = next (length xs)

    same_next : (k : ℕ) → k < length xs → g (first + 1 + k) ≡ f (get_or xs k d)
    same_next k lt = ap g (sym (next k)) ∙ same (suc k) (omega (arith, lt))

    More : List Visit → Type 0
    More ws = rises (first + 1) ws ≡ true → ((k : ℕ) → is_visited ws k ≡ true → k < first + 1 + length xs) → ((k : ℕ) → k < length xs → g (first + 1 + k) ≡ f (get_or xs k d))
        → ((k : ℕ) → k < length xs → is_visited ws (first + 1 + k) ≡ false → f (get_or xs k d) ≡ None) → filter_map (λ v. g v.number) ws ≡ filter_map f xs

    one : (b : Bool) → (v.number == first) ≡ b → More vs → More (v ∷ vs) → filter_map (λ v. g v.number) (v ∷ vs) ≡ filter_map f (x ∷ xs)
    one true at behind all =
        let at : v.number ≡ first = grind (arith, nat_tests, at) in
        let here : g v.number ≡ f x = ap g (at ∙ sym (add-zero first)) ∙ same 0 (omega arith) in
        let rest = behind (subst (λ (n : ℕ). rises (n + 1) vs ≡ true) at parts.1) (λ k e. subst (λ (n : ℕ). k < n) long (inside k (grind (arith, e)))) same_next
        (λ k lt e. none (suc k) (omega (arith, lt)) (let other : (v.number == first + 1 + k) ≡ false = grind (arith, nat_tests, at) in subst (λ (n : ℕ). is_visited (v ∷ vs) n ≡ false) (sym (next k)) (rw other e))) in
        ap (λ (o : Option Y). cons_option o (filter_map (λ v. g v.number) vs)) here ∙ ap (cons_option (f x)) rest
    one false at behind all =
        let high : first + 1 ≤ v.number = grind (arith, nat_tests, parts.0, at) in
        let up : rises (first + 1) (v ∷ vs) ≡ true = grind (arith, nat_tests, high, parts.1) in
        let here : f x ≡ None = none 0 (omega arith) (subst (λ (n : ℕ). is_visited (v ∷ vs) n ≡ false) (sym (add-zero first)) (not_visited (first + 1) (v ∷ vs) first up (omega arith))) in
        let rest = all up (λ k e. subst (λ (n : ℕ). k < n) long (inside k e)) same_next (λ k lt e. none (suc k) (omega (arith, lt)) (subst (λ (n : ℕ). is_visited (v ∷ vs) n ≡ false) (sym (next k)) e)) in
        rest ∙ ap (λ (o : Option Y). cons_option o (filter_map f xs)) (sym here)

-- a session that has a row of a part is the session of one of the part's rows
session_met : (rows : List Row) (s : SessionId) (p : PartId) → is_some (row_of rows s p) ≡ true → list_any (λ r. s.0 == r.session.0) (items_at (λ r. r.part) p rows) ≡ true
session_met [] s p e = cc
session_met (r ∷ rows) s p e = one (r.session.0 == s.0) refl (part_eq r.part p) refl e (session_met rows s p)
  where
    rest : List Row
    rest = items_at (λ r. r.part) p rows

    one : (a : Bool) → (r.session.0 == s.0) ≡ a → (b : Bool) → part_eq r.part p ≡ b → is_some (if a && b then Some r else row_of rows s p) ≡ true
        → (is_some (row_of rows s p) ≡ true → list_any (λ r. s.0 == r.session.0) rest ≡ true) → list_any (λ r. s.0 == r.session.0) (if b then r ∷ rest else rest) ≡ true
    one true is true of e more = grind (arith, nat_tests, is)
    one true is false of e more = more e
    one false is true of e more = grind (arith, more e)
    one false is false of e more = more e

module _ (x : Placing) (p : PartId) where
  -- visits of where the part is wanted, and of the sessions that have a row of it
  pub all_visited : (old new : List Visit) (past : ℕ) → IsMarked x p (wants_at x p) old past
      → ((d : SessionId × InstanceId) → Adds (length (order_of x)) (λ k. list_any (λ r. (get_or (order_of x) k d).0.0 == r.session.0) (rows_at x p)) None old new) → AreVisits x p new past
  all_visited old new past marked adds = record {
    marked = record {
      each = λ k d lt. (adds d).marks k lt ∙ none_more (list_any (λ r. (get_or (order_of x) k d).0.0 == r.session.0) (rows_at x p)) (mark_at old k) ∙ marked.each k d lt;
      within = (adds (record { 0 = 0 }, record { 0 = 0 })).within marked.within;
      behind = marked.behind;
    };
    each = λ k d lt is. one k d lt (is_some (row_of x.view.rows (get_or (order_of x) k d).0 p)) refl (is_wanted (wants_at x p) (get_or (order_of x) k d).1) refl is;
  }
    where
      none_more : (b : Bool) (o : Option Mark) → option_or o (if b then None else None) ≡ o
      none_more true o = or_none o
      none_more false o = or_none o

      one : (k : ℕ) (d : SessionId × InstanceId) → k < length (order_of x) → (a : Bool) → is_some (row_of x.view.rows (get_or (order_of x) k d).0 p) ≡ a
          → (b : Bool) → is_wanted (wants_at x p) (get_or (order_of x) k d).1 ≡ b → (a || b) ≡ true → is_visited new k ≡ true
      one k d lt true row b wanted is =
          (adds d).visited k lt ∙ ap (λ (c : Bool). is_visited old k || c) (session_met x.view.rows (get_or (order_of x) k d).0 p row) ∙ grind arith
      one k d lt false row true wanted is = two (is_visited old k) refl
        where
          two : (c : Bool) → is_visited old k ≡ c → is_visited new k ≡ true
          two true there = (adds d).visited k lt ∙ rw there refl
          two false there =
              let i = (get_or (order_of x) k d).1 in
              let mark : Mark = record { place = place_in (wants_at x p) i; goal = wanted_goal (model_in x) x.view x.resource p (wants_at x p) i } in
              let some : None ≡ Some mark = sym (no_mark old k there) ∙ marked.each k d lt ∙ ap (λ (b : Bool). if b then Some mark else None) wanted in
              cc
      one k d lt false row false wanted is = cc

  pub found_done : (visits : List Visit) (past : ℕ) (old now : List Target) (k : ℕ) (d : SessionId × InstanceId) → AreVisits x p visits past → rises 0 visits ≡ true → length visits ≤ k
      → now ≡ old ++ filter_map (λ v. target_at x p (get_or (order_of x) v.number d)) (take k visits) → now ≡ old ++ targets_at x.models x.view x.resource p
  found_done visits past old now k d are up le so =
      so ∙ ap (λ (ts : List Target). old ++ ts)
      (ap (filter_map (λ v. target_at x p (get_or (order_of x) v.number d))) (take_all k visits le)
      ∙ gathered (target_at x p) (λ k. target_at x p (get_or (order_of x) k d)) d (order_of x) 0 visits up (λ k e. omega (arith, are.marked.within k e))
      (λ k lt. ap (λ (n : ℕ). target_at x p (get_or (order_of x) n d)) (zero-add k)) (λ k lt e. none k lt (subst (λ (n : ℕ). is_visited visits n ≡ false) (zero-add k) e))
      ∙ found_all x p (order_of x))
    where
      none : (k : ℕ) → k < length (order_of x) → is_visited visits k ≡ false → target_at x p (get_or (order_of x) k d) ≡ None
      none k lt e = one (is_target x.view x.resource p (get_or (order_of x) k d)) refl
        where
          one : (b : Bool) → is_target x.view x.resource p (get_or (order_of x) k d) ≡ b → (if b then Some (target x.models x.view x.resource p (get_or (order_of x) k d)) else None) ≡ None
          one true is = cc (are.each k d lt is, e)
          one false is = refl
