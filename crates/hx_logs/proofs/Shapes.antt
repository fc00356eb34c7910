-- Words of a longer line that a pattern took apart, as the list of their texts.
use Rattle.std.proofs.Common.{◌≡◌, ◌≢◌, ℕ, ◌<◌, ◌≤◌, List, [], ◌∷◌, Bor, length, map, Err, refl, ap, arith}
use Rattle.hx_cluster.specs.declared.description.Spec.{Spec}
use Rattle.hx_script.specs.declared.faults.ScriptKind.TheVariants.{WordCount}
use Rattle.hx_script.specs.Logs.{move_words}
use Rattle.hx_script.proofs.Shapes.{text_at, words_5}

pub words_4 : (ws : List (Bor (List ℕ))) → 4 ≤ length ws → length ws < 5 → map (λ w. w.now) ws ≡ text_at ws 0 ∷ text_at ws 1 ∷ text_at ws 2 ∷ text_at ws 3 ∷ []
words_4 [] least below = absurd (omega arith)
words_4 (a ∷ []) least below = absurd (omega arith)
words_4 (a ∷ b ∷ []) least below = absurd (omega arith)
words_4 (a ∷ b ∷ c ∷ []) least below = absurd (omega arith)
words_4 (a ∷ b ∷ c ∷ d ∷ []) least below = refl
words_4 (a ∷ b ∷ c ∷ d ∷ e ∷ ws) least below = absurd (omega arith)

pub words_7 : (ws : List (Bor (List ℕ))) → 7 ≤ length ws → length ws < 8 → map (λ w. w.now) ws ≡ text_at ws 0 ∷ text_at ws 1 ∷ text_at ws 2 ∷ text_at ws 3 ∷ text_at ws 4 ∷ text_at ws 5 ∷ text_at ws 6 ∷ []
words_7 [] least below = absurd (omega arith)
words_7 (a ∷ []) least below = absurd (omega arith)
words_7 (a ∷ b ∷ []) least below = absurd (omega arith)
words_7 (a ∷ b ∷ c ∷ ws) least below = ap (λ ts. a.now ∷ b.now ∷ c.now ∷ ts) (words_4 ws (omega arith) (omega arith))

pub words_8 : (ws : List (Bor (List ℕ))) → 8 ≤ length ws → length ws < 9 → map (λ w. w.now) ws ≡ text_at ws 0 ∷ text_at ws 1 ∷ text_at ws 2 ∷ text_at ws 3 ∷ text_at ws 4 ∷ text_at ws 5 ∷ text_at ws 6 ∷ text_at ws 7 ∷ []
words_8 [] least below = absurd (omega arith)
words_8 (a ∷ []) least below = absurd (omega arith)
words_8 (a ∷ b ∷ []) least below = absurd (omega arith)
words_8 (a ∷ b ∷ c ∷ ws) least below = ap (λ ts. a.now ∷ b.now ∷ c.now ∷ ts) (words_5 ws (omega arith) (omega arith))

-- another number of words than those of an answer with its proposal
pub no_move : (spec : Spec) (ws : List (Bor (List ℕ))) → length ws ≢ 4 → length ws ≢ 5 → length ws ≢ 7 → length ws ≢ 8 → move_words spec (map (λ w. w.now) ws) ≡ Err WordCount
no_move spec [] four five seven eight = refl
no_move spec (a ∷ []) four five seven eight = refl
no_move spec (a ∷ b ∷ []) four five seven eight = refl
no_move spec (a ∷ b ∷ c ∷ []) four five seven eight = refl
no_move spec (a ∷ b ∷ c ∷ d ∷ []) four five seven eight = absurd (four (omega arith))
no_move spec (a ∷ b ∷ c ∷ d ∷ e ∷ []) four five seven eight = absurd (five (omega arith))
no_move spec (a ∷ b ∷ c ∷ d ∷ e ∷ f ∷ []) four five seven eight = refl
no_move spec (a ∷ b ∷ c ∷ d ∷ e ∷ f ∷ g ∷ []) four five seven eight = absurd (seven (omega arith))
no_move spec (a ∷ b ∷ c ∷ d ∷ e ∷ f ∷ g ∷ h ∷ []) four five seven eight = absurd (eight (omega arith))
no_move spec (a ∷ b ∷ c ∷ d ∷ e ∷ f ∷ g ∷ h ∷ i ∷ ws) four five seven eight = refl
