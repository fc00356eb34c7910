-- Names that are taken one by one.
use Rattle.std.proofs.Common.{◌≡◌, ℕ, zero, suc, ◌+◌, Bool, true, false, List, [], ◌∷◌, ◌++◌, Some, refl, sym, ◌∙◌, subst, arith}
use Rattle.std.specs.Prelude.{if◌then◌else◌, take, slice_get}
use Rattle.std.specs.List.{list_any, IsDistinct, AllByRecursion}
use Rattle.std.specs.Str.{bytes_eq}
use Rattle.std.proofs.lemmas.Bool.Decides.{nat_tests}
use Rattle.hx_ids.specs.Names.{interned}
use Rattle.hx_calls.proofs.Front.{take-get}

names-same : (xs ys : List ℕ) → bytes_eq xs ys ≡ bytes_eq ys xs
names-same [] [] = refl
names-same [] (y ∷ ys) = refl
names-same (x ∷ xs) [] = refl
names-same (x ∷ xs) (y ∷ ys) = grind (arith, nat_tests, names-same xs ys)

all-get : {X : Type 0} (P : X → Type 0) (xs : List X) (k : ℕ) (x : X) → AllByRecursion P xs → slice_get xs k ≡ Some x → P x
all-get P [] k x all e = cc
all-get P (y ∷ xs) zero x all e = subst P (same e) all.0
  where
    same : Some y ≡ Some x → y ≡ x
    same f = cc
all-get P (y ∷ xs) (suc k) x all e = all-get P xs k x all.1 e

any-before : (xs : List (List ℕ)) (k : ℕ) (x : List ℕ) → IsDistinct bytes_eq xs → slice_get xs k ≡ Some x → list_any (bytes_eq x) (take k xs) ≡ false
unfolding IsDistinct
any-before [] k x d e = cc
any-before (y ∷ xs) zero x d e = refl
any-before (y ∷ xs) (suc k) x d e =
    let other : bytes_eq x y ≡ false = names-same x y ∙ all-get (λ z. bytes_eq y z ≡ false) xs k x d.0 e in
    grind (arith, other, any-before xs k x d.1 e)

pub interned-next : (xs : List (List ℕ)) (k : ℕ) (x : List ℕ) → IsDistinct bytes_eq xs → slice_get xs k ≡ Some x → interned (take k xs) x ≡ take (k + 1) xs
interned-next xs k x d e = one (list_any (bytes_eq x) (take k xs)) (any-before xs k x d e)
  where
    one : (b : Bool) → b ≡ false → (if b then take k xs else take k xs ++ x ∷ []) ≡ take (k + 1) xs
    one true is = cc
    one false is = sym (take-get xs k x e)
