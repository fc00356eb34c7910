-- Candidates that may be left: none where each was accepted.
use Rattle.std.proofs.Common.{◌≡◌, ◌∙◌, ◌+◌, ◌≤◌, Bool, true, false, List, [], ◌∷◌, ◌++◌, length, append_assoc, append-nil, length-append, refl, sym, ap, arith}
use Rattle.std.specs.Prelude.{if◌then◌else◌}
use Rattle.std.specs.List.{fold}
use Rattle.std.proofs.lemmas.Bool.Decides.{nat_tests}
use Rattle.hx_lists.specs.Choices.{with_chosen, chosen_of}
use Rattle.hx_ids.specs.declared.PartId.{PartId}
use Rattle.hx_cluster.specs.declared.planning.Candidate.{Candidate}
use Rattle.hx_cluster.specs.Ends.{part_eq}
use Rattle.hx_parts.specs.Parts.{items_at, IsByPart}
use Rattle.hx_pass.specs.Waiting.{HasWaiting}

-- where as many items are chosen as there are, all are
module _ {X : Type 0} (takes : List X → X → Bool) where
  taken_one : (chosen : List X) (x : X) → takes chosen x ≡ true → with_chosen takes chosen x ≡ chosen ++ x ∷ []
  taken_one chosen x is = ap (λ (b : Bool). chosen ++ (if b then x ∷ [] else [])) is

  taken_none : (chosen : List X) (x : X) → takes chosen x ≡ false → with_chosen takes chosen x ≡ chosen
  taken_none chosen x is = ap (λ (b : Bool). chosen ++ (if b then x ∷ [] else [])) is ∙ append-nil chosen

  longer : (chosen : List X) (x : X) → length (chosen ++ x ∷ []) ≡ length chosen + 1
  longer chosen x = length-append chosen (x ∷ [])

  one_more : (chosen : List X) (x : X) → length (with_chosen takes chosen x) ≤ length chosen + 1
  one_more chosen x = one (takes chosen x) refl
    where
      one : (b : Bool) → takes chosen x ≡ b → length (with_chosen takes chosen x) ≤ length chosen + 1
      one true is = let more = ap length (taken_one chosen x is) ∙ longer chosen x in omega (arith, more)
      one false is = let same = ap length (taken_none chosen x is) in omega (arith, same)

  no_more : (chosen xs : List X) → length (fold (with_chosen takes) chosen xs) ≤ length chosen + length xs
  no_more chosen [] = omega arith
  no_more chosen (x ∷ xs) =
      let rest = no_more (with_chosen takes chosen x) xs in
      let first = one_more chosen x in
      omega (arith, rest, first)

  all_from : (chosen xs : List X) → length (fold (with_chosen takes) chosen xs) ≡ length chosen + length xs → fold (with_chosen takes) chosen xs ≡ chosen ++ xs
  all_from chosen [] as_many = sym (append-nil chosen)
  all_from chosen (x ∷ xs) as_many = one (takes chosen x) refl (all_from (with_chosen takes chosen x) xs)
    where
      rest : List X
      rest = fold (with_chosen takes) (with_chosen takes chosen x) xs

      one : (b : Bool) → takes chosen x ≡ b → (length rest ≡ length (with_chosen takes chosen x) + length xs → rest ≡ with_chosen takes chosen x ++ xs) → rest ≡ chosen ++ x ∷ xs
      one true is more =
          let now = ap length (taken_one chosen x is) ∙ longer chosen x in
          more (omega (arith, as_many, now)) ∙ ap (λ (ys : List X). ys ++ xs) (taken_one chosen x is) ∙ append_assoc chosen (x ∷ []) xs
      one false is more =
          let now = ap length (taken_none chosen x is) in
          let few = no_more (with_chosen takes chosen x) xs in
          absurd (omega (arith, as_many, now, few))

  pub all_chosen : (xs : List X) → length (chosen_of takes xs) ≡ length xs → chosen_of takes xs ≡ xs
  all_chosen xs as_many = all_from [] xs (omega (arith, as_many))

-- so none need wait then
none_sorted : IsByPart {X = Candidate} (λ c. c.part) []
none_sorted k d ge long = absurd (omega (arith, long))

pub none_waits : (candidates accepted : List Candidate) → accepted ≡ candidates → HasWaiting candidates accepted []
none_waits candidates accepted all = record {
  by_part = none_sorted;
  none = λ p taken none. ap (items_at (λ c. c.part) p) (sym all) ∙ taken;
}

-- and all may wait
pub all_wait : (candidates accepted : List Candidate) → IsByPart (λ c. c.part) candidates → HasWaiting candidates accepted candidates
all_wait candidates accepted by_part = record { by_part = by_part; none = λ p taken none. none }

-- where none was accepted and none waits there are none
own : (p : PartId) → part_eq p p ≡ true
own p = grind (arith, nat_tests)

pub none_left : (candidates accepted waiting : List Candidate) → HasWaiting candidates accepted waiting → accepted ≡ [] → waiting ≡ [] → candidates ≡ []
none_left [] accepted waiting has taken none = refl
none_left (c ∷ cs) accepted waiting has taken none =
    let there : items_at (λ c. c.part) c.part (c ∷ cs) ≡ [] = has.none c.part (ap (items_at (λ c. c.part) c.part) taken) (ap (items_at (λ c. c.part) c.part) none) in
    absurd (grind (arith, own c.part, there))
