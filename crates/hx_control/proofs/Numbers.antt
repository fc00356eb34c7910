-- A test of numbers in order, one at a time.
use Rattle.std.proofs.Common.{◌≡◌, ℕ, ◌+◌, ◌-◌, ◌<◌, ◌≤◌, ◌&&◌, Bool, true, suc, ap, arith}
use Rattle.std.specs.List.{list_all}
use Rattle.hx_lists.specs.Lists.{numbers_from}

pub first_number : (p : ℕ → Bool) (n last : ℕ) → n < last
    → list_all p (numbers_from n (last - n)) ≡ (p n && list_all p (numbers_from (n + 1) (last - (n + 1))))
first_number p n last less =
    let one : last - n ≡ suc (last - (n + 1)) = omega arith in
    ap (λ (k : ℕ). list_all p (numbers_from n k)) one

pub no_number : (p : ℕ → Bool) (n last : ℕ) → last ≤ n → list_all p (numbers_from n (last - n)) ≡ true
no_number p n last le = let none : last - n ≡ 0 = omega arith in ap (λ (k : ℕ). list_all p (numbers_from n k)) none
