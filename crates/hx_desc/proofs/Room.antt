-- There is room for the names of all resources, and one version.
use Rattle.std.proofs.Common.{◌≡◌, ℕ, ◌+◌, ◌<◌, ◌≤◌, arith}

pub few_names : (names more : ℕ) → names + (more + 1) ≤ 256 → names < 4294967295
few_names names more few = omega (arith, few)

pub one_more_name : (names after more : ℕ) → after ≡ names + 1 → names + (more + 1) ≤ 256 → after + more ≤ 256
one_more_name names after more one few = omega (arith, one, few)

pub few_along : (names resources : ℕ) → names ≡ resources → resources ≤ 256 → names ≤ 256
few_along names resources same few = omega (arith, same, few)

pub only_one : (n : ℕ) → 1 ≤ n → n ≤ 1 → n ≡ 1
only_one n low high = omega (arith, low, high)
