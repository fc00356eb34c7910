-- The script of an input is no longer than the input, and has no more lines than bytes.
use Rattle.std.proofs.Common.{◌≡◌, ℕ, ◌<◌, ◌≤◌, zero, suc, Bool, true, false, List, [], ◌∷◌, ◌++◌, length, length-append, Option, None, Some, sym, ap, subst, arith}
use Rattle.std.specs.Prelude.{IfSome, option_map, if◌then◌else◌}
use Rattle.std.specs.List.{slice_split, join_with_byte}
use Rattle.std.specs.Str.{bytes_eq}
use Rattle.std.specs.Str.Lines.{strip_carriage_return}
use Rattle.std.proofs.lemmas.List.Splits.{join_with_byte-slice_split}
use Rattle.hx_text.specs.Lines.{is_line_feed, lines_of, after_line, separator, cut_parts, cut_of}
use Rattle.hx_text.proofs.FirstLine.{lines_of-first, length-after_line}
use Rattle.hx_app.specs.Constants.{most_bytes}

abbrev IsShort : List (List ℕ) → Option (List ℕ × List ℕ) → Type 0
IsShort parts o = IfSome o (λ halves. length halves.1 ≤ length (join_with_byte 10 parts))

short_in : (parts : List (List ℕ)) → IsShort parts (cut_parts parts)
short_in [] = tt
short_in (part ∷ []) = one (bytes_eq part separator)
  where
    one : (b : Bool) → IsShort (part ∷ []) (if b then Some ([], []) else None)
    one true = omega arith
    one false = tt
short_in (part ∷ next ∷ more) = one (bytes_eq (strip_carriage_return part) separator) (cut_parts (next ∷ more)) (short_in (next ∷ more))
  where
    rest : List ℕ
    rest = join_with_byte 10 (next ∷ more)

    longer : length (join_with_byte 10 (next ∷ more)) ≤ length (join_with_byte 10 (part ∷ next ∷ more))
    longer = omega (arith, length-append part (10 ∷ join_with_byte 10 (next ∷ more)))

    one : (b : Bool) (o : Option (List ℕ × List ℕ)) → IsShort (next ∷ more) o
        → IsShort (part ∷ next ∷ more) (if b then Some ([], join_with_byte 10 (next ∷ more)) else option_map (λ halves. (part ++ 10 ∷ halves.0, halves.1)) o)
    one true o h = longer
    one false None h = tt
    one false (Some halves) h = omega (arith, h, longer)

pub script_short : (bytes : List ℕ) → IfSome (cut_of bytes) (λ halves. length halves.1 ≤ length bytes)
script_short bytes =
    let P : List ℕ → Type 0 = λ whole. IfSome (cut_of bytes) (λ halves. length halves.1 ≤ length whole) in
    subst P (join_with_byte-slice_split 10 bytes) (short_in (slice_split is_line_feed bytes))

few_up_to : (most : ℕ) (bytes : List ℕ) → length bytes ≤ most → length (lines_of bytes) ≤ length bytes
few_up_to most [] h = omega arith
few_up_to zero (b ∷ bs) h = absurd (omega (arith, h))
few_up_to (suc most) (b ∷ bs) h =
    let some : 0 < length (b ∷ bs) = omega arith in
    let shorter = length-after_line (b ∷ bs) some in
    let rest = few_up_to most (after_line (b ∷ bs)) (omega (arith, h, shorter)) in
    omega (arith, ap length (lines_of-first (b ∷ bs) some), rest, shorter)

pub few_lines : (bytes : List ℕ) → length (lines_of bytes) ≤ length bytes
few_lines bytes = few_up_to (length bytes) bytes (omega arith)

-- the parts of an input that isn't too long
pub script_fits : (bytes description script : List ℕ) → Some (description, script) ≡ cut_of bytes → length bytes ≤ most_bytes → length script ≤ most_bytes
script_fits bytes description script cut short =
    let P : Option (List ℕ × List ℕ) → Type 0 = λ o. IfSome o (λ halves. length halves.1 ≤ length bytes) in
    let within : length script ≤ length bytes = subst P (sym cut) (script_short bytes) in
    omega (arith, within, short)

pub lines_fit : (bytes description script : List ℕ) → Some (description, script) ≡ cut_of bytes → length bytes ≤ most_bytes → length (lines_of script) ≤ most_bytes
lines_fit bytes description script cut short =
    let P : Option (List ℕ × List ℕ) → Type 0 = λ o. IfSome o (λ halves. length halves.1 ≤ length bytes) in
    let within : length script ≤ length bytes = subst P (sym cut) (script_short bytes) in
    omega (arith, within, short, few_lines script)
