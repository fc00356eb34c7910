-- Marks that are filled up with zeros.
use Rattle.std.proofs.Common.{◌≡◌, ℕ, zero, suc, ◌+◌, ◌-◌, ◌≤◌, List, [], ◌∷◌, ◌++◌, length, set, replicate, refl, sym, ap, ◌∙◌, append-nil, append_assoc, arith}
use Rattle.hx_check.specs.Standing.{with_mark}

none_set : (s next : ℕ) → set (replicate (suc s) 0) s next ≡ with_mark [] s next
none_set zero next = refl
none_set (suc s) next = ap (λ l. 0 ∷ l) (none_set s next)

replicate-at : (m n : ℕ) → m ≡ n → replicate {A = ℕ} m 0 ≡ replicate {A = ℕ} n 0
replicate-at m n e = ap (λ k. replicate {A = ℕ} k 0) e

pub padded_set : (marks : List ℕ) (s next : ℕ) → set (marks ++ replicate (s + 1 - length marks) 0) s next ≡ with_mark marks s next
padded_set [] s next = ap (λ l. set l s next) (replicate-at (s + 1 - 0) (suc s) (omega arith)) ∙ none_set s next
padded_set (x ∷ xs) zero next = ap (λ l. next ∷ xs ++ l) (replicate-at (0 + 1 - suc (length xs)) 0 (omega arith)) ∙ ap (λ l. next ∷ l) (append-nil xs)
padded_set (x ∷ xs) (suc s) next =
    ap (λ l. x ∷ set (xs ++ l) s next) (replicate-at (suc s + 1 - suc (length xs)) (s + 1 - length xs) (omega arith)) ∙ ap (λ l. x ∷ l) (padded_set xs s next)

-- one more zero
replicate-more : (n : ℕ) → replicate {A = ℕ} (suc n) 0 ≡ replicate {A = ℕ} n 0 ++ 0 ∷ []
replicate-more zero = refl
replicate-more (suc n) = ap (λ l. 0 ∷ l) (replicate-more n)

pub padded_more : (marks now new : List ℕ) (i : ℕ) → length marks ≤ i → now ≡ marks ++ replicate (i - length marks) 0 → new ≡ now ++ 0 ∷ []
    → new ≡ marks ++ replicate (i + 1 - length marks) 0
padded_more marks now new i low is more =
    more
    ∙ ap (λ l. l ++ 0 ∷ []) is
    ∙ append_assoc marks (replicate (i - length marks) 0) (0 ∷ [])
    ∙ ap (λ l. marks ++ l) (sym (replicate-more (i - length marks)) ∙ replicate-at (suc (i - length marks)) (i + 1 - length marks) (omega (arith, low)))

pub padded_none : (marks : List ℕ) (i : ℕ) → i ≤ length marks → marks ≡ marks ++ replicate (i - length marks) 0
padded_none marks i few = sym (ap (λ l. marks ++ l) (replicate-at (i - length marks) 0 (omega (arith, few))) ∙ append-nil marks)
