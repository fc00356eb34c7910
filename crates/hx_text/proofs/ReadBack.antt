-- Lines and words that are printed are read back.
use Rattle.std.proofs.Common.{◌≡◌, ℕ, ◌-◌, ◌<◌, ◌≢◌, false, not, eqb, List, [], ◌∷◌, ◌++◌, length, get_or, refl, ap, ◌∙◌, arith, All, filter}
use Rattle.std.proofs.lemmas.Bool.{cond-true, cond-false, ne_eqb}
use Rattle.std.proofs.lemmas.List.Splits.{slice_split_none, slice_split_at}
use Rattle.std.specs.List.{slice_split}
use Rattle.std.specs.Str.Lines.{lines_of_parts}
use Rattle.hx_text.specs.Lines.{is_line_feed, is_space, lines_of, words_of}
use Rattle.hx_text.proofs.FirstLine.{lines_step, some_parts}

-- a line with a line feed behind it, if no line feed stands in it and no carriage return at its end
pub lines_of-line : (line rest : List ℕ) → All (λ b. is_line_feed b ≡ false) line → get_or line (length line - 1) 0 ≢ 13 → lines_of (line ++ 10 ∷ rest) ≡ line ∷ lines_of rest
lines_of-line line rest plain end =
    ap lines_of_parts (slice_split_at is_line_feed line 10 rest plain refl)
    ∙ lines_step line (slice_split is_line_feed rest) (some_parts rest)
    ∙ ap (λ l. l ∷ lines_of rest) (cond-false _ _ _ (ne_eqb (get_or line (length line - 1) 0) 13 end))

-- a word with a space behind it, and one at the end
pub words_of-word : (word rest : List ℕ) → All (λ b. is_space b ≡ false) word → 0 < length word → words_of (word ++ 32 ∷ rest) ≡ word ∷ words_of rest
words_of-word word rest plain some =
    ap (filter (λ w. not (eqb (length w) 0))) (slice_split_at is_space word 32 rest plain refl)
    ∙ cond-true _ _ _ (ap not (ne_eqb (length word) 0 (λ e. omega arith)))

pub words_of-last : (word : List ℕ) → All (λ b. is_space b ≡ false) word → 0 < length word → words_of word ≡ word ∷ []
words_of-last word plain some =
    ap (filter (λ w. not (eqb (length w) 0))) (slice_split_none is_space word plain)
    ∙ cond-true _ _ _ (ap not (ne_eqb (length word) 0 (λ e. omega arith)))

pub words_of-space : (rest : List ℕ) → words_of (32 ∷ rest) ≡ words_of rest
words_of-space rest = refl
