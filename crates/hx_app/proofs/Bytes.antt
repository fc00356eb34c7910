-- Lines of ASCII that can be printed, and how an input of one such line is cut.
use Rattle.std.proofs.Common.{◌≡◌, ℕ, ◌+◌, ◌-◌, ◌%◌, ◌^◌, ◌<◌, Bool, true, false, cond, ◌&&◌, nat_lt, List, [], ◌∷◌, ◌++◌, length, get_or, take, All, Option, Some, codes, decimal, bytes_eq, refl, ap, ◌∙◌, arith}
use Rattle.std.specs.List.{list_all, slice_split, join_with_byte}
use Rattle.std.specs.Option.{option_map}
use Rattle.std.specs.Str.{is_utf8}
use Rattle.std.specs.Str.Lines.{strip_carriage_return}
use Rattle.std.proofs.lemmas.Bool.{and_from, and_parts, ne_eqb, lt-ltb, ltb-true}
use Rattle.std.proofs.lemmas.List.Folds.{list_all-append}
use Rattle.std.proofs.lemmas.List.Sums.{AllPass-from_list_all}
use Rattle.std.proofs.lemmas.List.Splits.{slice_split_at, length-slice_split, join_with_byte-slice_split}
use Rattle.std.proofs.lemmas.Fmt.{decimal_by_steps}
use Rattle.std.proofs.lemmas.Str.{is_utf8-from_IsUtf8}
use Rattle.json.proofs.Printed.Utf8.{are_ascii, IsUtf8-are_ascii}
use Rattle.hx_text.specs.Lines.{is_line_feed, separator, cut_parts, cut_of}

abbrev pub is_printed : ℕ → Bool
is_printed b = nat_lt 31 b && nat_lt b 127

abbrev pub are_printed : List ℕ → Bool
are_printed = list_all is_printed

above : (b : ℕ) → is_printed b ≡ true → 31 < b
above b h = ltb-true 31 b (and_parts _ _ h).0

below : (b : ℕ) → is_printed b ≡ true → b < 127
below b h = ltb-true b 127 (and_parts _ _ h).1

pub printed-append : (a b : List ℕ) → are_printed a ≡ true → are_printed b ≡ true → are_printed (a ++ b) ≡ true
printed-append a b first second = list_all-append is_printed a b ∙ and_from _ _ first second

digit_printed : (d : ℕ) → d < 10 → is_printed (48 + d) ≡ true
digit_printed d low = and_from _ _ (lt-ltb 31 (48 + d) (omega arith)) (lt-ltb (48 + d) 127 (omega arith))

pub printed-decimal : (n : ℕ) → n < 2 ^ 64 → are_printed (decimal n) ≡ true
printed-decimal =
    decimal_by_steps (λ m ds. are_printed ds ≡ true)
    (λ m low. and_from _ _ (digit_printed m low) refl)
    (λ m ds low h. printed-append ds ((48 + m % 10) ∷ []) h (and_from _ _ (digit_printed (m % 10) (omega arith)) refl))

pub printed-join : (items : List (List ℕ)) → list_all are_printed items ≡ true → are_printed (join_with_byte 44 items) ≡ true
printed-join [] h = refl
printed-join (item ∷ []) h = (and_parts _ _ h).0
printed-join (item ∷ next ∷ items) h =
    let p = and_parts _ _ h in printed-append item (44 ∷ join_with_byte 44 (next ∷ items)) p.0 (printed-join (next ∷ items) p.1)

-- ---- in UTF-8

ascii : (bs : List ℕ) → are_printed bs ≡ true → are_ascii (bs ++ 10 ∷ []) ≡ true
ascii [] h = refl
ascii (b ∷ bs) h = let p = and_parts (is_printed b) _ h in and_from _ _ (lt-ltb b 128 (omega (arith, below b p.0))) (ascii bs p.1)

pub utf8-line : (line : List ℕ) → are_printed line ≡ true → is_utf8 (line ++ 10 ∷ []) ≡ true
utf8-line line h = is_utf8-from_IsUtf8 (line ++ 10 ∷ []) (IsUtf8-are_ascii (line ++ 10 ∷ []) (ascii line h))

-- ---- the cut

no_line_feed : (line : List ℕ) → are_printed line ≡ true → All (λ b. is_line_feed b ≡ false) line
no_line_feed line h k d low =
    let b = get_or line k d in
    ne_eqb b 10 (λ e. omega (arith, above b (AllPass-from_list_all is_printed line h k d low)))

stripped : (line : List ℕ) → 0 < length line → are_printed line ≡ true → strip_carriage_return line ≡ line
stripped line some h =
    let n = length line - 1 in
    let last = get_or line n 0 in
    ap (λ b. cond b (take n line) line) (ne_eqb last 13 (λ e. omega (arith, above last (AllPass-from_list_all is_printed line h n 0 (omega arith)))))

cut_here : (parts : List (List ℕ)) → 0 < length parts → cut_parts (separator ∷ parts) ≡ Some ([], join_with_byte 10 parts)
cut_here [] some = absurd (omega arith)
cut_here (part ∷ parts) some = refl

-- a line that is no separator, and the separator behind it
pub cut-line : (line rest : List ℕ) → 0 < length line → are_printed line ≡ true → bytes_eq line separator ≡ false
    → cut_of (line ++ 10 ∷ (codes "---\n" ++ rest)) ≡ Some (line ++ 10 ∷ [], rest)
cut-line line rest some h other =
    let parts = slice_split is_line_feed rest in
    let is_other : bytes_eq (strip_carriage_return line) separator ≡ false = ap (λ l. bytes_eq l separator) (stripped line some h) ∙ other in
    let later : Bool → Option (List ℕ × List ℕ) = λ b. cond b (Some ([], join_with_byte 10 (separator ∷ parts))) (option_map (λ halves. (line ++ 10 ∷ halves.0, halves.1)) (cut_parts (separator ∷ parts))) in
    ap cut_parts (slice_split_at is_line_feed line 10 (codes "---\n" ++ rest) (no_line_feed line h) refl)
    ∙ ap later is_other
    ∙ ap (option_map (λ halves. (line ++ 10 ∷ halves.0, halves.1))) (cut_here parts (omega (arith, length-slice_split is_line_feed rest)))
    ∙ ap (λ t. Some (line ++ 10 ∷ [], t)) (join_with_byte-slice_split 10 rest)
