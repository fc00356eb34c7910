-- Numbers that rise are distinct, also in another order.
use Rattle.std.proofs.Common.{◌≡◌, ℕ, ◌+◌, ◌-◌, ◌<◌, ◌≤◌, ◌==◌, Bool, true, false, List, length, map, get_or, refl, subst, arith}
use Rattle.std.specs.Prelude.{nat_lt}
use Rattle.std.specs.Ordering.{nat_cmp, eq_by_cmp}
use Rattle.std.specs.List.{IsDistinct}
use Rattle.std.specs.List.Sorted.{IsPermutation, IsStrictlyIncreasing}
use Rattle.std.proofs.lemmas.Bool.Decides.{nat_tests}
use Rattle.std.proofs.lemmas.List.{get_or-map, length-map}
use Rattle.std.proofs.lemmas.List.Sorted.{IsPermutation-sym}
use Rattle.std.proofs.lemmas.Map.Keys.{sorted_from_strictly_increasing, IsDistinct-from_sorted, IsDistinct-IsPermutation}
use Rattle.hx_ids.specs.declared.SessionId.{SessionId}
use Rattle.hx_ids.specs.declared.InstanceId.{InstanceId}

pub rises_more : (xs : List ℕ) (n : ℕ) → 1 ≤ n → ((k : ℕ) → k + 1 < n → get_or xs k 0 < get_or xs (k + 1) 0) → get_or xs (n - 1) 0 < get_or xs n 0
    → (k : ℕ) → k + 1 < n + 1 → get_or xs k 0 < get_or xs (k + 1) 0
rises_more xs n some before here k lt = one (nat_lt (k + 1) n) refl
  where
    one : (b : Bool) → nat_lt (k + 1) n ≡ b → get_or xs k 0 < get_or xs (k + 1) 0
    one true e = before k (grind (arith, nat_tests, e))
    one false e =
        let last : n ≡ k + 1 = grind (arith, nat_tests, e, lt) in
        let front : n - 1 ≡ k = omega (arith, last) in
        subst (λ (j : ℕ). get_or xs j 0 < get_or xs (k + 1) 0) front (subst (λ (j : ℕ). get_or xs (n - 1) 0 < get_or xs j 0) last here)

same_test : (a b : ℕ) → eq_by_cmp nat_cmp a b ≡ (a == b)
same_test a b = grind (arith, nat_tests)

turned : (a b : ℕ) → (a == b) ≡ (b == a)
turned a b = grind (arith, nat_tests)

once_rising : (ys : List ℕ) → IsStrictlyIncreasing ys → IsDistinct (λ a b. a == b) ys
once_rising ys rises =
    let tests : eq_by_cmp nat_cmp ≡ (λ (a b : ℕ). a == b) = (λ j. λ a b. same_test a b j) in
    subst (λ (e : ℕ → ℕ → Bool). IsDistinct e ys) tests (IsDistinct-from_sorted nat_cmp ys (sorted_from_strictly_increasing ys rises))

pub once_sorted : (xs ys : List ℕ) → IsPermutation xs ys → IsStrictlyIncreasing ys → IsDistinct (λ a b. a == b) xs
once_sorted xs ys moved rises = IsDistinct-IsPermutation (λ a b. a == b) turned ys xs (IsPermutation-sym xs ys moved) (once_rising ys rises)

-- sessions that rise are shown once
pub once_shown : (live : List (SessionId × InstanceId))
    → ((k : ℕ) (e : SessionId × InstanceId) → k + 1 < length live → (get_or live k e).0.0 < (get_or live (k + 1) e).0.0) → IsDistinct (λ a b. a == b) (map (λ e. e.0.0) live)
once_shown live rises =
    once_rising (map (λ e. e.0.0) live)
    (λ k lt.
    let many : length (map (λ (e : SessionId × InstanceId). e.0.0) live) ≡ length live = length-map live (λ (e : SessionId × InstanceId). e.0.0) in
    let more : k + 1 < length live = omega (arith, lt, many) in
    let low = get_or-map (λ (e : SessionId × InstanceId). e.0.0) live k no_session 0 (omega (arith, more)) in
    let high = get_or-map (λ (e : SessionId × InstanceId). e.0.0) live (k + 1) no_session 0 more in
    omega (arith, low, high, rises k no_session more))
  where
    no_session : SessionId × InstanceId
    no_session = (record { 0 = 0 }, record { 0 = 0 })
