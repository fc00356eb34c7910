-- Lists that begin like others.
use Rattle.std.proofs.Common.{◌≡◌, ℕ, zero, suc, Bool, true, List, [], ◌∷◌, ◌++◌, Some, refl, sym, subst, arith}
use Rattle.std.specs.Prelude.{slice_get, slice_set}
use Rattle.std.proofs.lemmas.Bool.Decides.{nat_tests}
use Rattle.hx_cluster.specs.declared.description.Resource.{Resource}
use Rattle.hx_safe.proofs.Ends.{same-self}
use Rattle.hx_safe.specs.Onward.{is_front, is_same_kind, has_same_replicas}

pub front-self : {X : Type 0} (like : X → X → Bool) → ((x : X) → like x x ≡ true) → (xs : List X) → is_front like xs xs ≡ true
front-self like self [] = refl
front-self like self (x ∷ xs) = grind (arith, self x, front-self like self xs)

pub front-append : {X : Type 0} (like : X → X → Bool) → ((x : X) → like x x ≡ true) → (xs ys : List X) → is_front like xs (xs ++ ys) ≡ true
front-append like self [] ys = refl
front-append like self (x ∷ xs) ys = grind (arith, self x, front-append like self xs ys)

pub front-put : {X : Type 0} (like : X → X → Bool) → ((x : X) → like x x ≡ true) → (xs : List X) (n : ℕ) (x y : X) → slice_get xs n ≡ Some x → like x y ≡ true
    → is_front like xs (slice_set xs n y) ≡ true
front-put like self [] n x y is e = refl
front-put like self (z ∷ xs) zero x y is e =
    let here : like z y ≡ true = let same : z ≡ x = grind (arith, is) in subst (λ v. like v y ≡ true) (sym same) e in
    grind (arith, here, front-self like self xs)
front-put like self (z ∷ xs) (suc n) x y is e = grind (arith, self z, front-put like self xs n x y is e)

pub front-both : {X : Type 0} (like : X → X → Bool) → ((x y z : X) → like x y ≡ true → like y z ≡ true → like x z ≡ true) → (xs ys zs : List X)
    → is_front like xs ys ≡ true → is_front like ys zs ≡ true → is_front like xs zs ≡ true
front-both like trans [] ys zs one two = refl
front-both like trans (x ∷ xs) [] zs one two = cc
front-both like trans (x ∷ xs) (y ∷ ys) [] one two = cc
front-both like trans (x ∷ xs) (y ∷ ys) (z ∷ zs) one two =
    let here : like x z ≡ true = trans x y z (grind (arith, one)) (grind (arith, two)) in
    let rest : is_front like xs zs ≡ true = front-both like trans xs ys zs (grind (arith, one)) (grind (arith, two)) in
    grind (arith, here, rest)

-- what is at a place in the first list has one like it there in the second
pub front-get : {X : Type 0} (like : X → X → Bool) (xs ys : List X) (n : ℕ) (x : X) → is_front like xs ys ≡ true → slice_get xs n ≡ Some x
    → (y : X) × (slice_get ys n ≡ Some y) × (like x y ≡ true)
front-get like [] ys n x e is = cc
front-get like (z ∷ xs) [] n x e is = cc
front-get like (z ∷ xs) (y ∷ ys) zero x e is =
    let same : z ≡ x = grind (arith, is) in
    let here : like z y ≡ true = grind (arith, e) in
    (y, refl, subst (λ v. like v y ≡ true) same here)
front-get like (z ∷ xs) (y ∷ ys) (suc n) x e is = front-get like xs ys n x (grind (arith, e)) is

-- kinds and replicas
pub kind-self : (x : Resource) → is_same_kind x x ≡ true
kind-self x = grind (arith, same-self x.name, same-self x.model.0, same-self x.ideal.parts)

pub kind-both : (x y z : Resource) → is_same_kind x y ≡ true → is_same_kind y z ≡ true → is_same_kind x z ≡ true
kind-both x y z one two = grind (arith, nat_tests, one, two)

pub replicas-self : (x : Resource) → has_same_replicas x x ≡ true
replicas-self x = same-self x.ideal.replicas

pub replicas-both : (x y z : Resource) → has_same_replicas x y ≡ true → has_same_replicas y z ≡ true → has_same_replicas x z ≡ true
replicas-both x y z one two = grind (arith, nat_tests, one, two)
