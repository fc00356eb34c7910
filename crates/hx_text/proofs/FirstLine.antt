-- A text by its first line and what stands behind it.
use Rattle.std.proofs.Common.{◌≡◌, ℕ, ◌+◌, ◌-◌, ◌<◌, ◌≤◌, true, false, cond, List, [], ◌∷◌, ◌++◌, length, get_or, take, Option, Some, None, refl, sym, ap, ◌∙◌, inl, inr, append_assoc, length-append, length-drop, length-take, eqb, arith}
use Rattle.std.proofs.lemmas.Bool.{cases_lt, cond-true, cond-false, lt-ltb, le-ltb, ne_eqb, eqb-true, cond_both}
use Rattle.std.proofs.lemmas.List.{drop_all, append-nil, take_at}
use Rattle.std.proofs.lemmas.List.Splits.{slice_split_none, slice_split_first, length-slice_split, join_with_byte-slice_split}
use Rattle.std.proofs.lemmas.List.Sums.{split_at_first, fails_before_first, passes_at_first}
use Rattle.std.specs.List.{slice_split, join_with_byte, position_or_len, before_first}
use Rattle.std.specs.Option.{option_map}
use Rattle.std.specs.Str.{bytes_eq}
use Rattle.std.specs.Str.Lines.{lines_of_parts, strip_carriage_return}
use Rattle.hx_text.specs.Lines.{is_line_feed, lines_of, first_line, after_line, separator, cut_parts, cut_of}

-- a text put before the first half
abbrev pub before : List ℕ → Option (List ℕ × List ℕ) → Option (List ℕ × List ℕ)
before seen halves = option_map (λ h. (seen ++ h.0, h.1)) halves

pub before-before : (s t : List ℕ) (o : Option (List ℕ × List ℕ)) → before s (before t o) ≡ before (s ++ t) o
before-before s t None = refl
before-before s t (Some h) = ap (λ x. Some (x, h.1)) (sym (append_assoc s t h.0))

before-part : (part : List ℕ) (o : Option (List ℕ × List ℕ)) → option_map (λ h. (part ++ 10 ∷ h.0, h.1)) o ≡ before (part ++ 10 ∷ []) o
before-part part None = refl
before-part part (Some h) = ap (λ x. Some (x, h.1)) (sym (append_assoc part (10 ∷ []) h.0))

pub length-after_line : (bs : List ℕ) → 0 < length bs → length (after_line bs) < length bs
length-after_line bs some = omega (arith, length-drop (position_or_len is_line_feed bs + 1) bs)

-- the parts of a text without a line feed, and of one with it
split_none : (bs : List ℕ) → length bs ≤ position_or_len is_line_feed bs → slice_split is_line_feed bs ≡ bs ∷ []
split_none bs past = slice_split_none is_line_feed bs (λ k d lt. fails_before_first is_line_feed bs k d (omega arith))

split_some : (bs : List ℕ) → position_or_len is_line_feed bs < length bs → slice_split is_line_feed bs ≡ before_first is_line_feed bs ∷ slice_split is_line_feed (after_line bs)
split_some bs within = slice_split_first is_line_feed bs 0 within

pub some_parts : (bs : List ℕ) → 0 < length (slice_split is_line_feed bs)
some_parts bs = omega (arith, length-slice_split is_line_feed bs)

pub lines_step : (part : List ℕ) (parts : List (List ℕ)) → 0 < length parts → lines_of_parts (part ∷ parts) ≡ strip_carriage_return part ∷ lines_of_parts parts
lines_step part [] some = absurd (omega arith)
lines_step part (x ∷ more) some = refl

cut_step : (part : List ℕ) (parts : List (List ℕ)) → 0 < length parts
    → cut_parts (part ∷ parts) ≡ cond (bytes_eq (strip_carriage_return part) separator) (Some ([], join_with_byte 10 parts)) (option_map (λ h. (part ++ 10 ∷ h.0, h.1)) (cut_parts parts))
cut_step part [] some = absurd (omega arith)
cut_step part (x ∷ more) some = refl

pub first_line_some : (bs : List ℕ) → position_or_len is_line_feed bs < length bs → first_line bs ≡ strip_carriage_return (before_first is_line_feed bs)
first_line_some bs within = cond-true _ _ _ (lt-ltb _ _ within)

pub first_line_none : (bs : List ℕ) → length bs ≤ position_or_len is_line_feed bs → first_line bs ≡ bs
first_line_none bs past = cond-false _ _ _ (le-ltb _ _ past)

pub after_line_none : (bs : List ℕ) → length bs ≤ position_or_len is_line_feed bs → after_line bs ≡ []
after_line_none bs past = drop_all _ bs (omega arith)

length-strip : (line : List ℕ) → length (strip_carriage_return line) ≤ length line
length-strip line =
    let P : List ℕ → Type 0 = λ l. length l ≤ length line in
    cond_both (eqb (get_or line (length line - 1) 0) 13) (take (length line - 1) line) line P (λ e. omega (arith, length-take (length line - 1) line)) (λ e. omega arith)

length_some : (bs : List ℕ) → position_or_len is_line_feed bs < length bs → length (first_line bs) + length (after_line bs) ≤ length bs
length_some bs within =
    omega (
      arith,
      ap length (first_line_some bs within),
      length-strip (before_first is_line_feed bs),
      length-take (position_or_len is_line_feed bs) bs,
      length-drop (position_or_len is_line_feed bs + 1) bs,
    )

length_none : (bs : List ℕ) → length bs ≤ position_or_len is_line_feed bs → length (first_line bs) + length (after_line bs) ≤ length bs
length_none bs past = omega (arith, ap length (first_line_none bs past), ap length (after_line_none bs past))

pub length-first_line : (bs : List ℕ) → length (first_line bs) + length (after_line bs) ≤ length bs
length-first_line bs = elim (cases_lt (position_or_len is_line_feed bs) (length bs)) [ inl within ↦ length_some bs within | inr past ↦ length_none bs past ]

one_line : (bs : List ℕ) → 0 < length bs → lines_of_parts (bs ∷ []) ≡ bs ∷ []
one_line bs some = cond-false _ _ _ (ne_eqb (length bs) 0 (λ e. omega arith))

first_some : (bs : List ℕ) → position_or_len is_line_feed bs < length bs → lines_of bs ≡ first_line bs ∷ lines_of (after_line bs)
first_some bs within =
    ap lines_of_parts (split_some bs within)
    ∙ lines_step (before_first is_line_feed bs) (slice_split is_line_feed (after_line bs)) (some_parts (after_line bs))
    ∙ ap (λ line. line ∷ lines_of (after_line bs)) (sym (first_line_some bs within))

first_none : (bs : List ℕ) → 0 < length bs → length bs ≤ position_or_len is_line_feed bs → lines_of bs ≡ first_line bs ∷ lines_of (after_line bs)
first_none bs some past =
    ap lines_of_parts (split_none bs past)
    ∙ one_line bs some
    ∙ ap (λ line. line ∷ lines_of []) (sym (first_line_none bs past))
    ∙ ap (λ rest. first_line bs ∷ lines_of rest) (sym (after_line_none bs past))

-- the lines of a text are its first line and those of the rest
pub lines_of-first : (bs : List ℕ) → 0 < length bs → lines_of bs ≡ first_line bs ∷ lines_of (after_line bs)
lines_of-first bs some = elim (cases_lt (position_or_len is_line_feed bs) (length bs)) [ inl within ↦ first_some bs within | inr past ↦ first_none bs some past ]

-- a text is cut at its first line, or as the rest is
pub record CutsAtFirst (bs : List ℕ) : Type 0 where
  pub taken : List ℕ
  pub whole : bs ≡ taken ++ after_line bs
  pub found : bytes_eq (first_line bs) separator ≡ true → cut_of bs ≡ Some ([], after_line bs)
  pub other : bytes_eq (first_line bs) separator ≡ false → cut_of bs ≡ before taken (cut_of (after_line bs))

cut_some : (bs : List ℕ) → position_or_len is_line_feed bs < length bs → CutsAtFirst bs
cut_some bs within =
    let part = before_first is_line_feed bs in
    let rest = after_line bs in
    let line_is = first_line_some bs within in
    let step = ap cut_parts (split_some bs within) ∙ cut_step part (slice_split is_line_feed rest) (some_parts rest) in
    record {
      taken = part ++ 10 ∷ [];
      whole = split_at_first is_line_feed bs 0 within ∙ ap (λ b. part ++ (b ∷ rest)) (eqb-true _ _ (passes_at_first is_line_feed bs 0 within)) ∙ sym (append_assoc part (10 ∷ []) rest);
      found = λ e. step ∙ cond-true _ _ _ (ap (λ line. bytes_eq line separator) (sym line_is) ∙ e) ∙ ap (λ bytes. Some ([], bytes)) (join_with_byte-slice_split 10 rest);
      other = λ e. step ∙ cond-false _ _ _ (ap (λ line. bytes_eq line separator) (sym line_is) ∙ e) ∙ before-part part (cut_of rest);
    }

cut_none : (bs : List ℕ) → length bs ≤ position_or_len is_line_feed bs → CutsAtFirst bs
cut_none bs past =
    let line_is = first_line_none bs past in
    let rest_is = after_line_none bs past in
    let one = ap cut_parts (split_none bs past) in
    record {
      taken = bs;
      whole = sym (append-nil bs) ∙ ap (λ rest. bs ++ rest) (sym rest_is);
      found = λ e. one ∙ cond-true _ _ _ (ap (λ line. bytes_eq line separator) (sym line_is) ∙ e) ∙ ap (λ rest. Some ([], rest)) (sym rest_is);
      other = λ e. one ∙ cond-false _ _ _ (ap (λ line. bytes_eq line separator) (sym line_is) ∙ e) ∙ ap (λ rest. before bs (cut_of rest)) (sym rest_is);
    }

pub cut_of-first : (bs : List ℕ) → CutsAtFirst bs
cut_of-first bs = elim (cases_lt (position_or_len is_line_feed bs) (length bs)) [ inl within ↦ cut_some bs within | inr past ↦ cut_none bs past ]

-- no line of what is seen of a text is a separator
pub record IsSeen (bytes rest : List ℕ) : Type 0 where
  pub seen : List ℕ
  pub whole : bytes ≡ seen ++ rest
  pub cut : cut_of bytes ≡ before seen (cut_of rest)

pub seen_more : (bytes rest line behind : List ℕ) → IsSeen bytes rest → line ≡ first_line rest → behind ≡ after_line rest → bytes_eq line separator ≡ false → IsSeen bytes behind
seen_more bytes rest line behind h line_is behind_is other =
    let c = cut_of-first rest in
    record {
      seen = h.seen ++ c.taken;
      whole = h.whole ∙ ap (λ r. h.seen ++ r) (c.whole ∙ ap (λ r. c.taken ++ r) (sym behind_is)) ∙ sym (append_assoc h.seen c.taken behind);
      cut = rw behind_is (h.cut ∙ ap (before h.seen) (c.other (ap (λ l. bytes_eq l separator) (sym line_is) ∙ other)) ∙ before-before h.seen c.taken (cut_of (after_line rest)));
    }

-- the cut where the first line of the rest is the separator
pub seen_cut : (bytes rest line behind : List ℕ) → IsSeen bytes rest → line ≡ first_line rest → behind ≡ after_line rest → bytes_eq line separator ≡ true
    → Some (take (length bytes - length rest) bytes, behind) ≡ cut_of bytes
seen_cut bytes rest line behind h line_is behind_is found =
    let c = cut_of-first rest in
    let front : take (length bytes - length rest) bytes ≡ h.seen = rw h.whole (take_at h.seen rest _ (omega (arith, length-append h.seen rest))) in
    let here : cut_of rest ≡ Some ([], after_line rest) = c.found (ap (λ l. bytes_eq l separator) (sym line_is) ∙ found) in
    rw (front, behind_is) (sym (h.cut ∙ ap (before h.seen) here ∙ ap (λ s. Some (s, after_line rest)) (append-nil h.seen)))
