-- Both parts of a condition, and conditions on lists that are filtered.
use Rattle.std.proofs.Common.{◌≡◌, ◌&&◌, Bool, true, false, List, [], ◌∷◌, filter, refl, arith}
use Rattle.std.specs.List.{list_all}

pub and-first : (a b : Bool) → (a && b) ≡ true → a ≡ true
and-first true b e = refl
and-first false b e = cc

pub and-second : (a b : Bool) → (a && b) ≡ true → b ≡ true
and-second true b e = e
and-second false b e = cc

pub and-both : (a b : Bool) → a ≡ true → b ≡ true → (a && b) ≡ true
and-both true true e w = refl
and-both true false e w = cc
and-both false b e w = cc

-- what each item passes, each that is left passes
pub all-filter : {X : Type 0} (p k : X → Bool) (xs : List X) → list_all p xs ≡ true → list_all p (filter k xs) ≡ true
all-filter p k [] e = refl
all-filter p k (x ∷ xs) e = grind (arith, e, all-filter p k xs)
