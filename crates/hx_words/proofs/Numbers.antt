-- The number of an option.
use Rattle.std.proofs.Common.{◌≡◌, ℕ, ◌≤◌, Bool, true, false, List, Option, Some, None, Result, Ok, Err, if◌then◌else◌, refl, sym, ◌∙◌, subst, arith}
use Rattle.std.specs.Str.Parse.{ParsesUnsigned, digits_value, without_leading_plus}
use Rattle.std.proofs.lemmas.Bool.{cond-true}
use Rattle.clap.specs.Matches.{ReadsOne}
use Rattle.clap.specs.ValueTests.{is_unsigned_in}
use Rattle.clap.specs.declared.builder.value_parser.ValueParser.TheVariants as parsers
use Rattle.clap.proofs.ValueTestLemmas.{Accepts-accepts, accepts-Accepts}
use Rattle.hx_words.specs.Tasks.{number_in}

module _ {E : Type 0} (gives : List ℕ → Result ℕ E → Type 0) (reads : (t : List ℕ) (r : Result ℕ E) → gives t r → ParsesUnsigned 64 10 t r) (least most default : ℕ) where
  -- a text that is read as a number in the range
  number_read : (n : ℕ) (text : List ℕ) → gives text (Ok n) → least ≤ n → n ≤ most → n ≡ number_in least most default (Some text)
  number_read n text given low high =
      let read = reads text (Ok n) given in
      read.1 ∙ sym (cond-true _ _ _ (Accepts-accepts false (parsers.Unsigned least most) text (read.0.0, read.0.1, omega (arith, read.1), omega (arith, read.1))))

  -- any other text
  number_other : (text : List ℕ) (r : Result ℕ E) → ParsesUnsigned 64 10 text r → ((n : ℕ) → r ≡ Ok n → least ≤ n → n ≤ most → ⊥) → default ≡ number_in least most default (Some text)
  number_other text r read other = one (is_unsigned_in least most text) refl r read other
    where
      one : (b : Bool) → is_unsigned_in least most text ≡ b → (r : Result ℕ E) → ParsesUnsigned 64 10 text r → ((n : ℕ) → r ≡ Ok n → least ≤ n → n ≤ most → ⊥)
          → default ≡ (if b then digits_value 10 (without_leading_plus text) else default)
      one false is r read other = refl
      one true is (Ok n) read other =
          let passes = accepts-Accepts false (parsers.Unsigned least most) text is in
          absurd (other n refl (omega (arith, read.1, passes.2)) (omega (arith, read.1, passes.3)))
      one true is (Err e) read other =
          let passes = accepts-Accepts false (parsers.Unsigned least most) text is in
          absurd (read (passes.0, passes.1))

  pub found_number : (n : ℕ) (o : Option (List ℕ)) (r : Option ℕ) → (o ≡ None → r ≡ None) → ((t : List ℕ) → o ≡ Some t → ReadsOne gives t r) → r ≡ Some n → least ≤ n → n ≤ most → n ≡ number_in least most default o
  found_number n None r none value is low high = let not_found = none refl in cc
  found_number n (Some t) r none value is low high =
      let P : Option ℕ → Type 0 = λ q. ReadsOne gives t q in
      number_read n t (subst P is (value t refl)) low high

  pub no_number : (o : Option (List ℕ)) (r : Option ℕ) → ((t : List ℕ) → o ≡ Some t → ReadsOne gives t r) → r ≡ None → default ≡ number_in least most default o
  no_number None r value is = refl
  no_number (Some t) r value is =
      let P : Option ℕ → Type 0 = λ q. ReadsOne gives t q in
      let read = subst P is (value t refl) in
      number_other t (Err read.0) (reads t (Err read.0) read.1) (λ n e low high. cc)
