-- The first row of a session, and its place among those that were noted.
use Rattle.std.proofs.Common.{◌≡◌, ℕ, ◌+◌, ◌<◌, ◌≤◌, ◌==◌, ◌&&◌, ◌||◌, Bool, true, false, List, [], ◌∷◌, length, drop, get_or, find, Option, Some, None, refl, sym, ap, ◌∙◌, subst, arith}
use Rattle.std.specs.Prelude.{if◌then◌else◌, option_map}
use Rattle.std.specs.Option.{option_map_or}
use Rattle.std.proofs.lemmas.Bool.Decides.{nat_tests}
use Rattle.std.proofs.lemmas.List.{at_drop_more, get_or_default}
use Rattle.std.proofs.Math.ListN.{drop_of_length-le}
use Rattle.hx_ids.specs.declared.InstanceId.{InstanceId}
use Rattle.hx_ids.specs.declared.SessionId.{SessionId}
use Rattle.hx_ids.specs.declared.PartId.{PartId}
use Rattle.hx_cluster.specs.declared.state.Row.{Row}
use Rattle.hx_cluster.specs.Ends.{part_eq, row_of, state_of, session_in}
use Rattle.hx_parts.specs.Parts.{items_at}
use Rattle.hx_parts.proofs.Narrow.{state-at}
use Rattle.hx_best.specs.Places.{Placing, rows_at}
use Rattle.hx_best.specs.Numbers.{has_number, IsNoted}
use Rattle.hx_best.specs.Still.{is_on}

module _ {X : Type 0} (q : X → Bool) (xs : List X) (k : ℕ) (d : X) where
  split : k < length xs → find q (drop k xs) ≡ (if q (get_or xs k d) then Some (get_or xs k d) else find q (drop (k + 1) xs))
  split lt = at_drop_more (find q) xs k d lt

  pub find_here : k < length xs → find q xs ≡ find q (drop k xs) → q (get_or xs k d) ≡ true → find q xs ≡ Some (get_or xs k d)
  find_here lt so is = so ∙ split lt ∙ rw is refl

  pub find_next : k < length xs → find q xs ≡ find q (drop k xs) → q (get_or xs k d) ≡ false → find q xs ≡ find q (drop (k + 1) xs)
  find_next lt so is = so ∙ split lt ∙ rw is refl

  pub find_none : length xs ≤ k → find q xs ≡ find q (drop k xs) → find q xs ≡ None
  find_none le so = so ∙ ap (find q) (drop_of_length-le xs le)

-- a place of such a row more
pub noted_here : (q : Row → Bool) (rows : List Row) (old new place : ℕ) (d : Row) → ((k : ℕ) → has_number new k ≡ (has_number old k || (k == place))) → place < length rows → q (get_or rows place d) ≡ true
    → IsNoted q rows old new
noted_here q rows old new place d is lt passes k e has = one (k == place) refl (sym (is k) ∙ has)
  where
    one : (b : Bool) → (k == place) ≡ b → (has_number old k || b) ≡ true → (has_number old k || q (get_or rows k e)) ≡ true
    one true at _ =
        let same : k ≡ place = grind (arith, nat_tests, at) in
        let here : q (get_or rows k e) ≡ true = ap (λ (j : ℕ). q (get_or rows j e)) same ∙ ap q (get_or_default rows place e d lt) ∙ passes in
        grind (arith, here)
    one false at there = grind (arith, there)

pub none_noted : (q : Row → Bool) (rows : List Row) (old new : ℕ) → new ≡ old → IsNoted q rows old new
none_noted q rows old new is k d has =
    let there : has_number old k ≡ true = ap (λ (set : ℕ). has_number set k) (sym is) ∙ has in
    grind (arith, there)

-- among the rows of a part the first of a session is its row of the part
of_part : (s : SessionId) (p : PartId) (rows : List Row) → find (λ r. r.session.0 == s.0) (items_at (λ r. r.part) p rows) ≡ row_of (items_at (λ r. r.part) p rows) s p
of_part s p [] = refl
of_part s p (r ∷ rows) = one (part_eq r.part p) refl (of_part s p rows)
  where
    rest : List Row
    rest = items_at (λ r. r.part) p rows

    one : (b : Bool) → part_eq r.part p ≡ b → find (λ r. r.session.0 == s.0) rest ≡ row_of rest s p
        → find (λ r. r.session.0 == s.0) (if b then r ∷ rest else rest) ≡ row_of (if b then r ∷ rest else rest) s p
    one true of more = two (r.session.0 == s.0)
      where
        two : (a : Bool) → (if a then Some r else find (λ r. r.session.0 == s.0) rest) ≡ (if a && part_eq r.part p then Some r else row_of rest s p)
        two true = rw of refl
        two false = more
    one false of more = more

pub state_met : (x : Placing) (p : PartId) (s : SessionId) (rows : List Row) → rows ≡ rows_at x p
    → option_map (λ r. r.state) (find (λ r. r.session.0 == s.0) rows) ≡ state_of x.view.rows s p
state_met x p s rows is =
    ap (λ (rs : List Row). option_map (λ r. r.state) (find (λ r. r.session.0 == s.0) rs)) is
    ∙ ap (option_map (λ r. r.state)) (of_part s p x.view.rows) ∙ state-at x.view.rows s p

-- rows of the session that is shown on an instance are rows on it
pub noted_on : (live : List (SessionId × InstanceId)) (i : InstanceId) (s : SessionId) (rows : List Row) (old new : ℕ) → Some s ≡ session_in live i
    → IsNoted (λ r. r.session.0 == s.0) rows old new → IsNoted (is_on live i) rows old new
noted_on live i s rows old new is noted k d has =
    subst (λ (o : Option SessionId). (has_number old k || option_map_or (λ t. (get_or rows k d).session.0 == t.0) o false) ≡ true) is (noted k d has)
