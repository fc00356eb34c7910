-- What goes over the numbers below a bound.
use Rattle.std.proofs.Common.{◌≡◌, ℕ, zero, suc, ◌+◌, [], ◌∷◌, ◌++◌, map, arith}
use Rattle.hx_lists.specs.Lists.{numbers_from, numbers_below}

map-numbers_from-suc : {X : Type 0} (f : ℕ → X) (a n : ℕ) → map f (numbers_from a (suc n)) ≡ map f (numbers_from a n) ++ f (a + n) ∷ []
map-numbers_from-suc f a zero = grind arith
map-numbers_from-suc f a (suc n) = grind (arith, map-numbers_from-suc f (a + 1) n)

-- one number more
pub map-numbers_below_more : {X : Type 0} (f : ℕ → X) (n : ℕ) → map f (numbers_below (n + 1)) ≡ map f (numbers_below n) ++ f n ∷ []
map-numbers_below_more f n = grind (arith, map-numbers_from-suc f 0 n)
