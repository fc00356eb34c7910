-- How much a settle may still have to do is less than the rounds that are enough for it, and falls in each round.
use Rattle.std.proofs.Common.{◌≡◌, ℕ, ◌+◌, ◌*◌, ◌<◌, ◌≤◌, true, false, List, [], ◌∷◌, length, ◌⊎◌, inl, inr, refl, sym, ap, ◌∙◌, subst, arith}
use Rattle.std.specs.Prelude.{max, nat_le}
use Rattle.std.specs.List.{list_all, list_any}
use Rattle.std.proofs.Math.Nat.{mul-le-mul_right, mul-le-mul_left}
use Rattle.std.proofs.lemmas.Bool.Decides.{nat_tests}
use Rattle.hx_model.specs.declared.ModelParts.{ModelParts}
use Rattle.hx_cluster.specs.declared.state.Cluster.{Cluster}
use Rattle.hx_cluster.specs.Safe.{IsSafe}
use Rattle.hx_cluster.specs.Ranged.{IsRanged}
use Rattle.hx_pass.specs.Left.{left_of}
use Rattle.hx_worlds.specs.Settles.{most_states, enough_rounds}
use Rattle.hx_safe.proofs.Counting.{and-both, all-le}
use Rattle.hx_settled.specs.Places.{tries_left}
use Rattle.hx_settled.proofs.Placed.{left_most, tries_most}
use Rattle.hx_bounded.specs.Measure.{all_replicas, all_walks, work_left}
use Rattle.hx_bounded.specs.Falling.{is_to_write, IsOnTheWay, IsFalling}

-- no model has more states than the most
first_most : (a b : ℕ) → nat_le a (max a b) ≡ true
first_most a b = let low : a ≤ max a b = omega arith in grind (arith, nat_tests, low)

still_most : (n a b : ℕ) → nat_le n b ≡ true → nat_le n (max a b) ≡ true
still_most n a b e = let low : b ≤ max a b = omega arith in grind (arith, nat_tests, low, e)

most_of : (ms : List ModelParts) → list_all (λ m. nat_le (length m.states) (most_states ms)) ms ≡ true
most_of [] = refl
most_of (m ∷ ms) =
    and-both (nat_le (length m.states) (max (length m.states) (most_states ms))) (list_all (λ x. nat_le (length x.states) (max (length m.states) (most_states ms))) ms)
    (first_most (length m.states) (most_states ms))
    (all-le (λ x. nat_le (length x.states) (most_states ms)) (λ x. nat_le (length x.states) (max (length m.states) (most_states ms)))
    (λ x e. still_most (length x.states) (length m.states) (most_states ms) e) ms (most_of ms))

-- products
more_rounds : (x k : ℕ) → x * (k + 1) + k + 2 ≤ (x + 2) * (k + 2)
more_rounds x k = omega arith

in_rounds : (tries left v most : ℕ) → tries ≤ 2 * v → left ≤ v * (most + 1) → tries * (v * (most + 2) + 1) + left + 2 ≤ (2 * v + 2) * (v * (most + 2) + 2)
in_rounds tries left v most few low =
    let one : tries * (v * (most + 2) + 1) ≤ (2 * v) * (v * (most + 2) + 1) = mul-le-mul_right (v * (most + 2) + 1) few in
    let two : v * (most + 1) ≤ v * (most + 2) = mul-le-mul_left v (omega arith) in
    let three = more_rounds (2 * v) (v * (most + 2)) in
    omega (arith, one, two, three, low)

below_walks : (left v most : ℕ) → left ≤ v * (most + 1) → left < v * (most + 2) + 1
below_walks left v most low = let two : v * (most + 1) ≤ v * (most + 2) = mul-le-mul_left v (omega arith) in omega (arith, low, two)

fewer_tries : (a b walks l n : ℕ) → b < a → l < walks → b * walks + l < a * walks + n
fewer_tries a b walks l n less low =
    let one : (b + 1) * walks ≤ a * walks = mul-le-mul_right walks (omega (arith, less)) in
    let two : (b + 1) * walks ≡ b * walks + walks = omega arith in
    omega (arith, one, two, low)

-- what may be left at a time
left_below : (c : Cluster) → IsSafe c → IsRanged c → left_of c < all_walks c
left_below c safe ranged = below_walks (left_of c) (all_replicas c) (most_states c.models) (left_most c (most_states c.models) safe ranged (most_of c.models))

pub work_bounded : (c : Cluster) → IsSafe c → IsRanged c → work_left c + 2 ≤ enough_rounds c
work_bounded c safe ranged =
    in_rounds (tries_left c) (left_of c) (all_replicas c) (most_states c.models) (tries_most c) (left_most c (most_states c.models) safe ranged (most_of c.models))

-- a round in which fewer tries are left, or fewer transitions, and then no message is to come
fallen : (t l w t' l' w' : ℕ) → l' < w' → w' ≡ w → (t' < t) ⊎ ((t' ≡ t) × (l' < l)) → t' * w' + l' < t * w + l
fallen t l w t' l' w' low same (inl less) = subst (λ (n : ℕ). t' * n + l' < t * w + l) (sym same) (fewer_tries t t' w l' l less (subst (λ (n : ℕ). l' < n) same low))
fallen t l w t' l' w' low same (inr both) =
    subst (λ (n : ℕ). t' * n + l' < t * w + l) (sym same)
    (subst (λ (n : ℕ). n * w + l' < t * w + l) (sym both.0) (let less = both.1 in omega (arith, less)))

pub work_falls : (w t l : ℕ) (d : Cluster) → IsSafe d → IsRanged d → d.mail ≡ [] → IsFalling w t l d → work_left d < t * w + l
work_falls w t l d safe ranged none f = fallen t l w (tries_left d) (left_of d) (all_walks d) (left_below d safe ranged) f.size (one f.falls)
  where
    less : (left_of d < l) ⊎ ((left_of d ≡ l) × (list_any is_to_write d.mail ≡ true)) → left_of d < l
    less (inl few) = few
    less (inr to_come) = absurd (let no : false ≡ true = sym (ap (list_any is_to_write) none) ∙ to_come.1 in cc)

    one : (tries_left d < t) ⊎ IsOnTheWay t l d → (tries_left d < t) ⊎ ((tries_left d ≡ t) × (left_of d < l))
    one (inl few) = inl few
    one (inr way) = inr (way.tries_same, less way.fewer)
