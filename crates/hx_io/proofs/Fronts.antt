-- Fronts of lists.
use Rattle.std.proofs.Common.{◌≡◌, ℕ, ◌+◌, ◌-◌, ◌≤◌, List, ◌++◌, length, take, drop, ap, sym, ◌∙◌, take-append-drop, length-drop, arith}
use Rattle.std.proofs.lemmas.List.{length-take-le, take_all}
use Rattle.std.proofs.Math.Seq.{take-append-add}

-- a front is a shorter front and a front of the rest
pub take-plus : (xs : List ℕ) (s n : ℕ) → s ≤ length xs → take (s + n) xs ≡ take s xs ++ take n (drop s xs)
take-plus xs s n le =
    ap (λ (ys : List ℕ). take (s + n) ys) (sym (take-append-drop s xs))
    ∙ ap (λ (k : ℕ). take (k + n) (take s xs ++ drop s xs)) (sym (length-take-le s xs le))
    ∙ take-append-add (take s xs) (drop s xs) n

-- the rest whole
pub take-drop_all : (xs : List ℕ) (s : ℕ) → take (length xs - s) (drop s xs) ≡ drop s xs
take-drop_all xs s = take_all (length xs - s) (drop s xs) (omega (arith, length-drop s xs))
