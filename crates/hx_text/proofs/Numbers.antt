-- Numbers as they are printed and read.
use Rattle.std.proofs.Common.{All, false, ◌≡◌, ℕ, ◌+◌, ◌/◌, ◌%◌, ◌^◌, ◌<◌, ◌≤◌, true, not, ◌&&◌, ◌||◌, eqb, ltb, List, [], ◌∷◌, ◌++◌, length, get_or, slice_get, Some, None, Result, Ok, Err, sym, ap, ◌∙◌, append_assoc, length-append, inl, inr, arith}
use Rattle.std.proofs.lemmas.Bool.{cases_eq, cases_Bool, or_cases, false_from_ne_true, not-true, eqb-true, eqb-false, and_parts, and_from, or_left, or_right, cond-true, cond-false, lt-ltb, ltb-true, eq-eqb, ne_eqb}
use Rattle.std.proofs.lemmas.Fmt.{digits_decimal, digits_value-decimal, decimal_nonempty, decimal_digit, decimal_step, first_decimal, decimal-digits_value, length-decimal-le}
use Rattle.std.proofs.lemmas.List.{get_or_default}
use Rattle.std.proofs.lemmas.Str.Parse.{IsNumeralModel, numerals_by_value, tells_all_ascii_digits, parse_plain, not_in_digits}
use Rattle.std.specs.Fmt.{decimal}
use Rattle.std.specs.Result.{result_ok}
use Rattle.std.specs.Str.{all_ascii_digits}
use Rattle.std.specs.Str.Parse.{digits_value, ParsesUnsigned}
use Rattle.hx_text.specs.Spellings.{is_numeral, number_of}

own : IsNumeralModel (λ ds. all_ascii_digits ds ≡ true) (digits_value 10)
own = numerals_by_value _ tells_all_ascii_digits

-- a zero stands first only where it stands alone
first_digit : (b n : ℕ) → (b ≡ 48 → n ≡ 0) → (not (eqb b 48) || eqb n 0) ≡ true
first_digit b n alone = elim (cases_eq b 48) [
  | inl e ↦ or_right _ _ (eq-eqb n 0 (alone e))
  | inr ne ↦ or_left _ _ (ap not (ne_eqb b 48 ne))
]

-- a numeral below 2^64 is read
number_of-numeral : (bs : List ℕ) → all_ascii_digits bs ≡ true → 0 < length bs → (get_or bs 0 0 ≡ 48 → length bs ≡ 1) → digits_value 10 bs < 2 ^ 64
    → number_of bs ≡ Some (digits_value 10 bs)
number_of-numeral [] digits some alone small = absurd (omega arith)
number_of-numeral (b ∷ bs) digits some alone small =
    cond-true (is_numeral (b ∷ bs) && ltb (digits_value 10 (b ∷ bs)) (2 ^ 64)) _ _
    (and_from _ _ (and_from _ _ digits (first_digit b (length bs) (λ e. let one = alone e in omega arith))) (lt-ltb _ _ small))

-- what the test of a numeral says
record IsDigits (bs : List ℕ) : Type 0 where
  digits : all_ascii_digits bs ≡ true
  some : 0 < length bs
  alone : get_or bs 0 0 ≡ 48 → length bs ≡ 1

only_digit : (b n : ℕ) → (not (eqb b 48) || eqb n 0) ≡ true → b ≡ 48 → n ≡ 0
only_digit b n t e = elim (or_cases (not (eqb b 48)) (eqb n 0) t) [
  | inl other ↦ absurd (eqb-false b 48 (not-true _ other) e)
  | inr none ↦ eqb-true n 0 none
]

digits_from_numeral : (bs : List ℕ) → is_numeral bs ≡ true → IsDigits bs
digits_from_numeral [] e = cc
digits_from_numeral (b ∷ bs) e =
    let parts = and_parts (all_ascii_digits (b ∷ bs)) (not (eqb b 48) || eqb (length bs) 0) e in
    record { digits = parts.0; some = omega arith; alone = λ zero_first. let none = only_digit b (length bs) parts.1 zero_first in omega arith }

-- the text of a number that is read
value_of-numeral : (bs : List ℕ) (n : ℕ) → number_of bs ≡ Some n → (is_numeral bs ≡ true) × (digits_value 10 bs < 2 ^ 64) × (n ≡ digits_value 10 bs)
value_of-numeral bs n e = elim (cases_Bool (is_numeral bs && ltb (digits_value 10 bs) (2 ^ 64))) [
  | inl fits ↦
      let parts = and_parts (is_numeral bs) (ltb (digits_value 10 bs) (2 ^ 64)) fits in
      let read : number_of bs ≡ Some (digits_value 10 bs) = cond-true _ _ _ fits in
      (parts.0, ltb-true _ _ parts.1, cc)
  | inr large ↦ let none : number_of bs ≡ None = cond-false _ _ _ large in cc
]

zero_alone : (n : ℕ) → n < 2 ^ 64 → get_or (decimal n) 0 0 ≡ 48 → length (decimal n) ≡ 1
zero_alone n h e = elim (cases_eq n 0) [
  | inl zero_is ↦ ap length (decimal_digit n (omega arith))
  | inr some ↦ omega (arith, first_decimal n (omega arith) h)
]

-- what is printed is read back
pub number_of-decimal : (n : ℕ) → n < 2 ^ 64 → number_of (decimal n) ≡ Some n
number_of-decimal n h =
    let value : digits_value 10 (decimal n) ≡ n = digits_value-decimal own n h in
    number_of-numeral (decimal n) (digits_decimal own n h) (decimal_nonempty n h) (zero_alone n h) (omega arith) ∙ ap (λ v. Some v) value

-- what is read is printed the same
pub decimal-number_of : (bs : List ℕ) (n : ℕ) → number_of bs ≡ Some n → (n < 2 ^ 64) × (decimal n ≡ bs)
decimal-number_of bs n e =
    let parts = value_of-numeral bs n e in
    let d = digits_from_numeral bs parts.0 in
    (omega arith, ap decimal parts.2 ∙ decimal-digits_value own bs d.digits d.some d.alone parts.1)

at_first : (bs : List ℕ) (b : ℕ) → Some b ≡ slice_get bs 0 → get_or bs 0 0 ≡ b
at_first [] b e = cc
at_first (x ∷ xs) b e = cc

-- a text that begins with another digit than 0 is read as `parse` reads it
pub number_of-parse : {E : Type 0} (bs : List ℕ) (r : Result ℕ E) (b : ℕ) → Some b ≡ slice_get bs 0 → 48 < b → ParsesUnsigned 64 10 bs r → result_ok r ≡ number_of bs
number_of-parse {E = E} bs (Ok x) b at nonzero h =
    let first = at_first bs b at in
    let p = parse_plain own {E = E} 64 bs (Ok x) h (omega arith) in
    ap (λ v. Some v) p.1 ∙ sym (number_of-numeral bs p.0.0 p.0.1 (λ e. omega arith) p.0.2)
number_of-parse {E = E} bs (Err e) b at nonzero h =
    let first = at_first bs b at in
    let p = parse_plain own {E = E} 64 bs (Err e) h (omega arith) in
    sym (cond-false (is_numeral bs && ltb (digits_value 10 bs) (2 ^ 64)) _ _ (false_from_ne_true _ (λ fits.
    let parts = and_parts (is_numeral bs) (ltb (digits_value 10 bs) (2 ^ 64)) fits in
    let d = digits_from_numeral bs parts.0 in
    p (d.digits, d.some, ltb-true _ _ parts.1))))

-- no byte below `0` stands in a number
pub decimal-without : (n c : ℕ) → n < 2 ^ 64 → c < 48 → All (λ b. eqb b c ≡ false) (decimal n)
decimal-without n c h low k d lt =
    ne_eqb _ c (λ e. not_in_digits own (decimal n) c (digits_decimal own n h) (λ digit. omega arith) k lt (sym (get_or_default (decimal n) k d 0 lt) ∙ e))

-- numbers by pairs of digits
abbrev pair : ℕ → List ℕ
pair p = (48 + p / 10) ∷ (48 + p % 10) ∷ []

pub decimal_two : (n : ℕ) → 10 ≤ n → n < 100 → decimal n ≡ pair n
decimal_two n low high = rw (decimal_step n low (omega arith), decimal_digit (n / 10) (omega arith))

pub decimal_pair : (n : ℕ) → 100 ≤ n → n < 2 ^ 64 → decimal n ≡ decimal (n / 100) ++ pair (n % 100)
decimal_pair n low high =
    let hundreds : n / 10 / 10 ≡ n / 100 = omega arith in
    let tens : n / 10 % 10 ≡ n % 100 / 10 = omega arith in
    let ones : n % 10 ≡ n % 100 % 10 = omega arith in
    rw (decimal_step n (omega arith) high, decimal_step (n / 10) (omega arith) (omega arith), append_assoc, hundreds, tens, ← ones)

pub length_pair : (n : ℕ) → 100 ≤ n → n < 2 ^ 64 → length (decimal n) ≡ length (decimal (n / 100)) + 2
length_pair n low high = ap length (decimal_pair n low high) ∙ length-append _ _

pub most_digits : (n : ℕ) → n < 2 ^ 64 → length (decimal n) ≤ 20
most_digits n low = length-decimal-le 20 n (omega arith) (omega arith) low
