-- The words of a text by its first space.
use Rattle.std.proofs.Common.{◌≡◌, ℕ, ◌<◌, ◌≤◌, Bool, not, eqb, List, [], ◌∷◌, ◌++◌, length, take, filter, sym, ap, ◌∙◌, append_assoc, append-nil, arith}
use Rattle.std.proofs.Math.Seq.{take-append_seam}
use Rattle.std.proofs.lemmas.List.Splits.{slice_split_none, slice_split_first}
use Rattle.std.proofs.lemmas.List.Sums.{fails_before_first}
use Rattle.std.proofs.lemmas.Bool.{cond-true, cond-false, eq-eqb, ne_eqb}
use Rattle.std.specs.List.{slice_split, position_or_len, before_first, after_first}
use Rattle.hx_text.specs.Lines.{is_space, words_of, IsFront}

abbrev is_word : List ℕ → Bool
is_word w = not (eqb (length w) 0)

filter_yes : (w : List ℕ) (ws : List (List ℕ)) → 0 < length w → filter is_word (w ∷ ws) ≡ w ∷ filter is_word ws
filter_yes w ws some = cond-true (is_word w) (w ∷ filter is_word ws) (filter is_word ws) (ap not (ne_eqb (length w) 0 (λ e. omega arith)))

filter_no : (w : List ℕ) (ws : List (List ℕ)) → length w ≡ 0 → filter is_word (w ∷ ws) ≡ filter is_word ws
filter_no w ws none = cond-false (is_word w) (w ∷ filter is_word ws) (filter is_word ws) (ap not (eq-eqb (length w) 0 none))

-- the words that were found, and those of the rest, are all words
pub record AreFound (line rest : List ℕ) (words : List (List ℕ)) : Type 0 where
  pub whole : words ++ words_of rest ≡ words_of line

-- a word before a space
pub found_word : (line rest word behind : List ℕ) (words more : List (List ℕ)) → AreFound line rest words → position_or_len is_space rest < length rest
    → word ≡ before_first is_space rest → behind ≡ after_first is_space rest → 0 < length word → more ≡ words ++ word ∷ [] → AreFound line behind more
found_word line rest word behind words more h within word_is behind_is some more_is =
    let split : words_of rest ≡ word ∷ words_of behind =
    rw (word_is, behind_is) (ap (filter is_word) (slice_split_first is_space rest 0 within) ∙ filter_yes (before_first is_space rest) (slice_split is_space (after_first is_space rest)) (rw word_is at some)) in
    record { whole = rw more_is (append_assoc words (word ∷ []) (words_of behind) ∙ ap (λ ws. words ++ ws) (sym split) ∙ h.whole) }

-- a space where no word ends
pub found_none : (line rest word behind : List ℕ) (words : List (List ℕ)) → AreFound line rest words → position_or_len is_space rest < length rest
    → word ≡ before_first is_space rest → behind ≡ after_first is_space rest → length word ≡ 0 → AreFound line behind words
found_none line rest word behind words h within word_is behind_is none =
    let split : words_of rest ≡ words_of behind =
    rw behind_is (ap (filter is_word) (slice_split_first is_space rest 0 within) ∙ filter_no (before_first is_space rest) (slice_split is_space (after_first is_space rest)) (rw word_is at none)) in
    record { whole = ap (λ ws. words ++ ws) (sym split) ∙ h.whole }

-- the last word, or none
pub found_last : (line rest : List ℕ) (words more : List (List ℕ)) → AreFound line rest words → length rest ≤ position_or_len is_space rest → 0 < length rest
    → more ≡ words ++ rest ∷ [] → more ≡ words_of line
found_last line rest words more h past some more_is =
    let split : words_of rest ≡ rest ∷ [] =
    ap (filter is_word) (slice_split_none is_space rest (λ k d lt. fails_before_first is_space rest k d (omega arith))) ∙ filter_yes rest [] some in
    more_is ∙ ap (λ ws. words ++ ws) (sym split) ∙ h.whole

pub found_all : (line rest : List ℕ) (words : List (List ℕ)) → AreFound line rest words → length rest ≡ 0 → words ≡ words_of line
found_all line [] words h none = sym (append-nil words) ∙ h.whole
found_all line (b ∷ rest) words h none = absurd (omega arith)

-- for want of memory the first words are there
pub found_front : (line rest : List ℕ) (words : List (List ℕ)) → AreFound line rest words → IsFront words (words_of line)
found_front line rest words h = (length words, sym (take-append_seam words (words_of rest)) ∙ ap (take (length words)) h.whole)
