-- Words that a pattern took apart, as the list of their texts.
use Rattle.std.proofs.Common.{◌≡◌, ℕ, ◌<◌, ◌≤◌, List, [], ◌∷◌, Bor, length, map, get_or, drop, Err, ◌⊎◌, inl, inr, refl, arith}
use Rattle.hx_script.specs.declared.faults.ScriptKind.TheVariants.{WordCount}
use Rattle.hx_script.specs.Grammar.{two_words, three_words, five_words}

-- the text at a place, and the empty one past the end
abbrev pub text_at : List (Bor (List ℕ)) → ℕ → List ℕ
text_at ws n = (get_or ws n (record { ref_ptr = (0, 0); now = [] })).now

pub words_1 : (ws : List (Bor (List ℕ))) → 1 ≤ length ws → length ws < 2 → map (λ w. w.now) ws ≡ text_at ws 0 ∷ []
words_1 [] least below = absurd (omega arith)
words_1 (a ∷ []) least below = refl
words_1 (a ∷ b ∷ ws) least below = absurd (omega arith)

pub words_2 : (ws : List (Bor (List ℕ))) → 2 ≤ length ws → length ws < 3 → map (λ w. w.now) ws ≡ text_at ws 0 ∷ text_at ws 1 ∷ []
words_2 [] least below = absurd (omega arith)
words_2 (a ∷ []) least below = absurd (omega arith)
words_2 (a ∷ b ∷ []) least below = refl
words_2 (a ∷ b ∷ c ∷ ws) least below = absurd (omega arith)

pub words_3 : (ws : List (Bor (List ℕ))) → 3 ≤ length ws → length ws < 4 → map (λ w. w.now) ws ≡ text_at ws 0 ∷ text_at ws 1 ∷ text_at ws 2 ∷ []
words_3 [] least below = absurd (omega arith)
words_3 (a ∷ []) least below = absurd (omega arith)
words_3 (a ∷ b ∷ []) least below = absurd (omega arith)
words_3 (a ∷ b ∷ c ∷ []) least below = refl
words_3 (a ∷ b ∷ c ∷ d ∷ ws) least below = absurd (omega arith)

pub words_5 : (ws : List (Bor (List ℕ))) → 5 ≤ length ws → length ws < 6 → map (λ w. w.now) ws ≡ text_at ws 0 ∷ text_at ws 1 ∷ text_at ws 2 ∷ text_at ws 3 ∷ text_at ws 4 ∷ []
words_5 [] least below = absurd (omega arith)
words_5 (a ∷ []) least below = absurd (omega arith)
words_5 (a ∷ b ∷ []) least below = absurd (omega arith)
words_5 (a ∷ b ∷ c ∷ []) least below = absurd (omega arith)
words_5 (a ∷ b ∷ c ∷ d ∷ []) least below = absurd (omega arith)
words_5 (a ∷ b ∷ c ∷ d ∷ e ∷ []) least below = refl
words_5 (a ∷ b ∷ c ∷ d ∷ e ∷ f ∷ ws) least below = absurd (omega arith)

pub words_2_and_more : (ws : List (Bor (List ℕ))) → 2 ≤ length ws → map (λ w. w.now) ws ≡ text_at ws 0 ∷ text_at ws 1 ∷ map (λ w. w.now) (drop 2 ws)
words_2_and_more [] least = absurd (omega arith)
words_2_and_more (a ∷ []) least = absurd (omega arith)
words_2_and_more (a ∷ b ∷ ws) least = refl

-- fewer words than are asked for, or more
pub not_two : (ws : List (Bor (List ℕ))) → (length ws < 2) ⊎ (3 ≤ length ws) → two_words (map (λ w. w.now) ws) ≡ Err WordCount
not_two [] other = refl
not_two (a ∷ []) other = refl
not_two (a ∷ b ∷ []) other = absurd (elim other [ inl less ↦ omega arith | inr more ↦ omega arith ])
not_two (a ∷ b ∷ c ∷ ws) other = refl

pub not_three : (ws : List (Bor (List ℕ))) → (length ws < 3) ⊎ (4 ≤ length ws) → three_words (map (λ w. w.now) ws) ≡ Err WordCount
not_three [] other = refl
not_three (a ∷ []) other = refl
not_three (a ∷ b ∷ []) other = refl
not_three (a ∷ b ∷ c ∷ []) other = absurd (elim other [ inl less ↦ omega arith | inr more ↦ omega arith ])
not_three (a ∷ b ∷ c ∷ d ∷ ws) other = refl

pub not_five : (ws : List (Bor (List ℕ))) → (length ws < 5) ⊎ (6 ≤ length ws) → five_words (map (λ w. w.now) ws) ≡ Err WordCount
not_five [] other = refl
not_five (a ∷ []) other = refl
not_five (a ∷ b ∷ []) other = refl
not_five (a ∷ b ∷ c ∷ []) other = refl
not_five (a ∷ b ∷ c ∷ d ∷ []) other = refl
not_five (a ∷ b ∷ c ∷ d ∷ e ∷ []) other = absurd (elim other [ inl less ↦ omega arith | inr more ↦ omega arith ])
not_five (a ∷ b ∷ c ∷ d ∷ e ∷ f ∷ ws) other = refl
