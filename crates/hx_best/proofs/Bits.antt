-- The bits of a number as a set, with a number more, and with all below one.
use Rattle.std.proofs.Common.{◌≡◌, ℕ, ◌-◌, ◌*◌, ◌^◌, ◌%◌, ◌<◌, ◌==◌, ◌||◌, Bool, true, false, refl, sym, ap, ◌∙◌, arith, bit_or, w64}
use Rattle.std.specs.Int.{bit_at}
use Rattle.std.proofs.Math.Nat.{mod-eq_of_lt}
use Rattle.std.proofs.Math.Pow.{pow-lt}
use Rattle.std.proofs.lemmas.Bool.Decides.{nat_tests}
use Rattle.std.proofs.lemmas.Nat.Bits.{bit_at_set_same, bit_at_set_other, bit_at_ones}
use Rattle.hx_best.specs.Numbers.{has_number}

or_true : (a : Bool) → (a || true) ≡ true
or_true true = refl
or_true false = refl

or_false : (a : Bool) → (a || false) ≡ a
or_false true = refl
or_false false = refl

pub with_number : (set n : ℕ) → n < 64 → (k : ℕ) → has_number (bit_or set (1 * 2 ^ n % 18446744073709551616)) k ≡ (has_number set k || (k == n))
with_number set n lt k = one (k == n) refl
  where
    new : ℕ
    new = bit_or set (1 * 2 ^ n % 18446744073709551616)

    one : (b : Bool) → (k == n) ≡ b → has_number new k ≡ (has_number set k || b)
    one true e =
        let same : k ≡ n = grind (arith, nat_tests, e) in
        ap (λ (i : ℕ). bit_at new i == 1) same ∙ ap (λ (m : ℕ). m == 1) (bit_at_set_same w64 set n lt) ∙ sym (or_true (has_number set k))
    one false e =
        ap (λ (m : ℕ). m == 1) (bit_at_set_other w64 set n lt k (grind (arith, nat_tests, e))) ∙ sym (or_false (has_number set k))

pub all_numbers : (set n : ℕ) → n < 64 → (set == (1 * 2 ^ n % 18446744073709551616 - 1)) ≡ true → (k : ℕ) → k < n → has_number set k ≡ true
all_numbers set n lt e k below =
    let small : 2 ^ n < 18446744073709551616 = pow-lt {i = n} {j = 64} lt in
    let one : 1 * 2 ^ n ≡ 2 ^ n = omega arith in
    let power : 1 * 2 ^ n % 18446744073709551616 ≡ 2 ^ n = ap (λ (m : ℕ). m % 18446744073709551616) one ∙ mod-eq_of_lt small in
    let same : set ≡ 1 * 2 ^ n % 18446744073709551616 - 1 = grind (arith, nat_tests, e) in
    ap (λ (m : ℕ). bit_at m k == 1) (same ∙ ap (λ (m : ℕ). m - 1) power) ∙ ap (λ (m : ℕ). m == 1) (bit_at_ones n k below)
