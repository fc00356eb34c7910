-- What holds of each item of a list, and participants at their places.
use Rattle.std.proofs.Common.{◌≡◌, ℕ, zero, suc, ◌+◌, ◌<◌, ◌||◌, ◌==◌, Bool, true, false, List, [], ◌∷◌, ◌++◌, filter, map, length, ◌⊎◌, inl, inr, refl, ap, subst, arith}
use Rattle.std.specs.Prelude.{slice_set, slice_index_or}
use Rattle.std.specs.List.{list_any, list_all, All}
use Rattle.std.proofs.lemmas.Bool.Decides.{nat_tests}
use Rattle.std.proofs.lemmas.List.Elements.{All-cons, All-nil}
use Rattle.hx_replicas.specs.Participants.{Participant, new_participant}
use Rattle.hx_worlds.specs.Agree.{Stationed, stationed_from}
use Rattle.hx_safe.proofs.Counting.{and-both}
use Rattle.hx_agreed.specs.InStep.{Each}

pub each-le : {X : Type 0} (P Q : X → Type 0) → ((x : X) → P x → Q x) → (xs : List X) → Each P xs → Each Q xs
each-le P Q h [] e = tt
each-le P Q h (x ∷ xs) e = (h x e.0, each-le P Q h xs e.1)

pub each-all : {X : Type 0} (P : X → Type 0) (xs : List X) → Each P xs → All P xs
each-all P [] e = All-nil P
each-all P (x ∷ xs) e = All-cons P x xs e.0 (each-all P xs e.1)

pub each-append : {X : Type 0} (P : X → Type 0) (xs : List X) (x : X) → Each P xs → P x → Each P (xs ++ x ∷ [])
each-append P [] x e here = (here, tt)
each-append P (y ∷ xs) x e here = (e.0, each-append P xs x e.1 here)

pub each-map : {X : Type 0} (P Q : X → Type 0) (f : X → X) → ((x : X) → P x → Q (f x)) → (xs : List X) → Each P xs → Each Q (map f xs)
each-map P Q f h [] e = tt
each-map P Q f h (x ∷ xs) e = (h x e.0, each-map P Q f h xs e.1)

pub each-filter : {X : Type 0} (P Q : X → Type 0) (k : X → Bool) → ((x : X) → k x ≡ true → P x → Q x) → (xs : List X) → Each P xs → Each Q (filter k xs)
each-filter P Q k h [] e = tt
each-filter P Q k h (x ∷ xs) e = one (k x) refl (each-filter P Q k h xs e.1)
  where
    one : (b : Bool) → k x ≡ b → Each Q (filter k xs) → Each Q (filter k (x ∷ xs))
    one true is rest = rw is (h x is e.0, rest)
    one false is rest = rw is rest

pub or-first : (a b : Bool) → a ≡ true → (a || b) ≡ true
or-first true b e = refl
or-first false b e = cc

pub or-second : (a b : Bool) → b ≡ true → (a || b) ≡ true
or-second true b e = refl
or-second false b e = e

-- participants
pub all_stationed : (P : Stationed → Type 0) (n : ℕ) (ws : List Participant)
    → ((k j : ℕ) → j ≡ n + k → P (record { instance = record { 0 = j }; plain = slice_index_or ws k new_participant })) → All P (stationed_from n ws)
all_stationed P n [] h = All-nil P
all_stationed P n (w ∷ ws) h =
    All-cons P (record { instance = record { 0 = n }; plain = w }) (stationed_from (n + 1) ws) (h zero n (omega arith)) (all_stationed P (n + 1) ws (λ k j e. h (suc k) j (omega arith)))

pub all_stationed_pass : (p : Stationed → Bool) (n : ℕ) (ws : List Participant)
    → ((k j : ℕ) → j ≡ n + k → p (record { instance = record { 0 = j }; plain = slice_index_or ws k new_participant }) ≡ true) → list_all p (stationed_from n ws) ≡ true
all_stationed_pass p n [] h = refl
all_stationed_pass p n (w ∷ ws) h =
    and-both _ _ (h zero n (omega arith)) (all_stationed_pass p (n + 1) ws (λ k j e. h (suc k) j (omega arith)))

pub any_stationed : (p : Stationed → Bool) (n : ℕ) (ws : List Participant) (k j : ℕ) → j ≡ n + k → k < length ws
    → p (record { instance = record { 0 = j }; plain = slice_index_or ws k new_participant }) ≡ true → list_any p (stationed_from n ws) ≡ true
any_stationed p n [] k j e lt is = absurd (omega arith)
any_stationed p n (w ∷ ws) zero j e lt is =
    let same : j ≡ n = omega arith in
    or-first _ _ (subst (λ (i : ℕ). p (record { instance = record { 0 = i }; plain = w }) ≡ true) same is)
any_stationed p n (w ∷ ws) (suc k) j e lt is = or-second _ _ (any_stationed p (n + 1) ws k j (omega arith) (omega arith) is)

pub many_stationed : (n : ℕ) (ws : List Participant) → length (stationed_from n ws) ≡ length ws
many_stationed n [] = refl
many_stationed n (w ∷ ws) = ap suc (many_stationed (n + 1) ws)

pub in_range : (ws : List Participant) (n : ℕ) → (n < length ws) ⊎ (slice_index_or ws n new_participant ≡ new_participant)
in_range [] n = inr refl
in_range (w ∷ ws) zero = inl (omega arith)
in_range (w ∷ ws) (suc n) = one (in_range ws n)
  where
    one : (n < length ws) ⊎ (slice_index_or ws n new_participant ≡ new_participant) → (suc n < length (w ∷ ws)) ⊎ (slice_index_or (w ∷ ws) (suc n) new_participant ≡ new_participant)
    one (inl lt) = inl (omega arith)
    one (inr e) = inr e

-- one that was put
pub put_here : {X : Type 0} (xs : List X) (n : ℕ) (y d : X) → n < length xs → slice_index_or (slice_set xs n y) n d ≡ y
put_here [] n y d lt = absurd (omega arith)
put_here (x ∷ xs) zero y d lt = refl
put_here (x ∷ xs) (suc n) y d lt = put_here xs n y d (omega arith)

pub put_other : {X : Type 0} (xs : List X) (n j : ℕ) (y d : X) → (n == j) ≡ false → slice_index_or (slice_set xs n y) j d ≡ slice_index_or xs j d
put_other [] n j y d other = refl
put_other (x ∷ xs) zero zero y d other = cc
put_other (x ∷ xs) zero (suc j) y d other = refl
put_other (x ∷ xs) (suc n) zero y d other = refl
put_other (x ∷ xs) (suc n) (suc j) y d other = put_other xs n j y d (grind (arith, nat_tests, other))
