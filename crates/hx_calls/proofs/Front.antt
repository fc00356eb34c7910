-- The front of a list that one item more is added to.
use Rattle.std.proofs.Common.{◌≡◌, ℕ, zero, suc, ◌+◌, List, [], ◌∷◌, ◌++◌, Some, arith}
use Rattle.std.specs.Prelude.{take, slice_get}

pub take-get : {X : Type 0} (xs : List X) (k : ℕ) (x : X) → slice_get xs k ≡ Some x → take (k + 1) xs ≡ take k xs ++ x ∷ []
take-get [] k x e = cc
take-get (y ∷ xs) zero x e = grind (arith, e)
take-get (y ∷ xs) (suc k) x e = grind (arith, take-get xs k x e)
