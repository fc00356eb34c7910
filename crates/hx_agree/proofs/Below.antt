-- Tests of the numbers below another one.
use Rattle.std.proofs.Common.{◌≡◌, ℕ, zero, suc, ◌+◌, ◌-◌, ◌<◌, ◌≤◌, ◌||◌, Bool, true, false, refl, ap, subst, arith}
use Rattle.std.specs.List.{list_any, list_all}
use Rattle.hx_lists.specs.Lists.{numbers_from, numbers_below}
use Rattle.hx_safe.proofs.Counting.{and-first, and-second, and-both}

-- all of them pass
all_from : (p : ℕ → Bool) (a n : ℕ) → list_all p (numbers_from a n) ≡ true → (k j : ℕ) → j ≡ a + k → k < n → p j ≡ true
all_from p a zero e k j is lt = absurd (omega arith)
all_from p a (suc n) e zero j is lt =
    let same : a ≡ j = omega arith in
    subst (λ (m : ℕ). p m ≡ true) same (and-first (p a) (list_all p (numbers_from (a + 1) n)) e)
all_from p a (suc n) e (suc k) j is lt = all_from p (a + 1) n (and-second (p a) (list_all p (numbers_from (a + 1) n)) e) k j (omega arith) (omega arith)

from_all : (p : ℕ → Bool) (a n : ℕ) → ((k j : ℕ) → j ≡ a + k → k < n → p j ≡ true) → list_all p (numbers_from a n) ≡ true
from_all p a zero h = refl
from_all p a (suc n) h =
    and-both (p a) (list_all p (numbers_from (a + 1) n)) (h zero a (omega arith) (omega arith))
    (from_all p (a + 1) n (λ k j e lt. h (suc k) j (omega arith) (omega arith)))

pub all_below : (p : ℕ → Bool) (n : ℕ) → list_all p (numbers_below n) ≡ true → (k : ℕ) → k < n → p k ≡ true
all_below p n e k lt = all_from p 0 n e k k (omega arith) lt

pub below_all : (p : ℕ → Bool) (n : ℕ) → ((k : ℕ) → k < n → p k ≡ true) → list_all p (numbers_below n) ≡ true
below_all p n h = from_all p 0 n (λ k j e lt. h j (omega arith))

-- one of them passes
or-left : (a b : Bool) → a ≡ true → (a || b) ≡ true
or-left true b e = refl
or-left false b e = cc

or-right : (a b : Bool) → b ≡ true → (a || b) ≡ true
or-right true b e = refl
or-right false b e = e

any_from : (p : ℕ → Bool) (a n k j : ℕ) → j ≡ a + k → k < n → p j ≡ true → list_any p (numbers_from a n) ≡ true
any_from p a zero k j is lt e = absurd (omega arith)
any_from p a (suc n) zero j is lt e =
    let same : j ≡ a = omega arith in
    or-left (p a) (list_any p (numbers_from (a + 1) n)) (subst (λ (m : ℕ). p m ≡ true) same e)
any_from p a (suc n) (suc k) j is lt e = or-right (p a) (list_any p (numbers_from (a + 1) n)) (any_from p (a + 1) n k j (omega arith) (omega arith) e)

pub any_below : (p : ℕ → Bool) (n k : ℕ) → k < n → p k ≡ true → list_any p (numbers_below n) ≡ true
any_below p n k lt e = any_from p 0 n k k (omega arith) lt e

first-or : (p : ℕ → Bool) (a : ℕ) (b rest : Bool) → p a ≡ b → (b || rest) ≡ true → (rest ≡ true → (k : ℕ) × (p k ≡ true)) → (k : ℕ) × (p k ≡ true)
first-or p a true rest is e h = (a, is)
first-or p a false rest is e h = h e

from_any : (p : ℕ → Bool) (a n : ℕ) → list_any p (numbers_from a n) ≡ true → (k : ℕ) × (p k ≡ true)
from_any p a zero e = absurd (let never : false ≡ true = e in cc)
from_any p a (suc n) e = first-or p a (p a) (list_any p (numbers_from (a + 1) n)) refl e (from_any p (a + 1) n)

pub below_any : (p : ℕ → Bool) (n : ℕ) → list_any p (numbers_below n) ≡ true → (k : ℕ) × (p k ≡ true)
below_any p n e = from_any p 0 n e

-- those from a number on: the first of them or the rest, or none
pub first_any : (p : ℕ → Bool) (n last : ℕ) → n < last
    → list_any p (numbers_from n (last - n)) ≡ (p n || list_any p (numbers_from (n + 1) (last - (n + 1))))
first_any p n last less =
    let one : last - n ≡ suc (last - (n + 1)) = omega arith in
    ap (λ (k : ℕ). list_any p (numbers_from n k)) one

pub none_any : (p : ℕ → Bool) (n last : ℕ) → last ≤ n → list_any p (numbers_from n (last - n)) ≡ false
none_any p n last le = let none : last - n ≡ 0 = omega arith in ap (λ (k : ℕ). list_any p (numbers_from n k)) none
