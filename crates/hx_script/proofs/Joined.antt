-- Words with one space between them are taken apart again.
use Rattle.std.proofs.Common.{◌≡◌, ℕ, ◌<◌, Bool, true, false, not, ◌&&◌, List, [], ◌∷◌, ◌++◌, length, filter, All, ◌==◌, cond, refl, sym, ap, true≢false, ◌∙◌, append-nil, arith}
use Rattle.std.proofs.lemmas.Bool.{and_parts, and_from, not-true}
use Rattle.std.proofs.lemmas.List.Sums.{AllPass-from_list_all}
use Rattle.std.specs.List.{list_all, slice_split, onto_first}
use Rattle.hx_text.specs.Lines.{is_space, words_of}
use Rattle.hx_text.proofs.ReadBack.{words_of-word, words_of-last}
use Rattle.hx_print.specs.Texts.{spaced, line_of}

-- a word has letters, and no space is among them
abbrev pub is_no_space : ℕ → Bool
is_no_space b = not (is_space b)

abbrev pub is_some_word : List ℕ → Bool
is_some_word w = not (length w == 0)

abbrev pub is_word : List ℕ → Bool
is_word w = is_some_word w && list_all is_no_space w

-- a line without the line feed at its end
abbrev pub joined : List (List ℕ) → List ℕ
joined [] = []
joined (w ∷ ws) = w ++ spaced ws

pub line_of-joined : (w : List ℕ) (ws : List (List ℕ)) → line_of (w ∷ ws) ≡ joined (w ∷ ws) ++ 10 ∷ []
line_of-joined w ws = refl

spaceless : (w : List ℕ) → list_all is_no_space w ≡ true → All (λ b. is_space b ≡ false) w
spaceless w h k d lt = not-true _ (AllPass-from_list_all is_no_space w h k d lt)

some_letters : (w : List ℕ) → is_some_word w ≡ true → 0 < length w
some_letters [] e = absurd (true≢false (sym e))
some_letters (b ∷ bs) e = omega arith

pub words_of-joined : (ws : List (List ℕ)) → list_all is_word ws ≡ true → words_of (joined ws) ≡ ws
words_of-joined [] e = refl
words_of-joined (w ∷ []) e =
    let parts = and_parts (is_some_word w) (list_all is_no_space w) (and_parts (is_word w) _ e).0 in
    ap words_of (append-nil w) ∙ words_of-last w (spaceless w parts.1) (some_letters w parts.0)
words_of-joined (w ∷ x ∷ xs) e =
    let both = and_parts (is_word w) (list_all is_word (x ∷ xs)) e in
    let parts = and_parts (is_some_word w) (list_all is_no_space w) both.0 in
    words_of-word w (joined (x ∷ xs)) (spaceless w parts.1) (some_letters w parts.0) ∙ ap (λ l. w ∷ l) (words_of-joined (x ∷ xs) both.1)

-- what stands between spaces has none
onto_spaceless : (b : ℕ) (parts : List (List ℕ)) → is_space b ≡ false → list_all (list_all is_no_space) parts ≡ true → list_all (list_all is_no_space) (onto_first b parts) ≡ true
onto_spaceless b [] plain e = rw plain refl
onto_spaceless b (p ∷ ps) plain e = rw plain e

parts_spaceless : (line : List ℕ) → list_all (list_all is_no_space) (slice_split is_space line) ≡ true
parts_spaceless [] = refl
parts_spaceless (b ∷ bs) = one (is_space b) refl (parts_spaceless bs)
  where
    one : (s : Bool) → is_space b ≡ s → list_all (list_all is_no_space) (slice_split is_space bs) ≡ true → list_all (list_all is_no_space) (cond s ([] ∷ slice_split is_space bs) (onto_first b (slice_split is_space bs))) ≡ true
    one true is rest = rest
    one false is rest = onto_spaceless b (slice_split is_space bs) is rest

words_among : (parts : List (List ℕ)) → list_all (list_all is_no_space) parts ≡ true → list_all is_word (filter is_some_word parts) ≡ true
words_among [] e = refl
words_among (p ∷ ps) e =
    let both = and_parts (list_all is_no_space p) (list_all (list_all is_no_space) ps) e in
    one (is_some_word p) refl both.0 (words_among ps both.1)
  where
    one : (b : Bool) → is_some_word p ≡ b → list_all is_no_space p ≡ true → list_all is_word (filter is_some_word ps) ≡ true → list_all is_word (cond b (p ∷ filter is_some_word ps) (filter is_some_word ps)) ≡ true
    one true is plain rest = and_from (is_word p) _ (and_from _ _ is plain) rest
    one false is plain rest = rest

-- the words of a line are words
pub words_are_words : (line : List ℕ) → list_all is_word (words_of line) ≡ true
words_are_words line = words_among (slice_split is_space line) (parts_spaceless line)
