-- An empty list has no item.
use Rattle.std.proofs.Common.{◌≡◌, ◌==◌, List, [], ◌∷◌, length, refl, arith}
use Rattle.std.proofs.lemmas.Bool.Decides.{nat_tests}
use Rattle.hx_cluster.specs.Steps.{is_empty_list}

pub empty_is_zero : {X : Type 0} (xs : List X) → (length xs == 0) ≡ is_empty_list xs
empty_is_zero [] = refl
empty_is_zero (x ∷ xs) = grind (arith, nat_tests)
