-- Where a text is cut.
use Rattle.std.proofs.Common.{◌≡◌, ℕ, ◌+◌, ◌<◌, ◌≤◌, Bool, eqb, List, length, get_or, Some, None, inl, inr, arith}
use Rattle.std.proofs.lemmas.Bool.{cases_lt, cond-true, cond-false, lt-ltb, le-ltb, eqb-true}
use Rattle.std.proofs.lemmas.List.Sums.{passes_at_first}
use Rattle.std.proofs.lemmas.Str.{IsCharBoundary-before_ascii, IsCharBoundary-after_ascii}
use Rattle.std.specs.List.{position, position_or_len}
use Rattle.std.specs.Str.{IsUtf8, IsCharBoundary}

-- the place that was found, or that there is none
pub record IsFound (p : ℕ → Bool) (bs : List ℕ) (end : ℕ) : Type 0 where
  pub within : position_or_len p bs < length bs
  pub is : end ≡ position_or_len p bs

pub found : (p : ℕ → Bool) (bs : List ℕ) (end : ℕ) → position p bs ≡ Some end → IsFound p bs end
found p bs end e = elim (cases_lt (position_or_len p bs) (length bs)) [
  | inl within ↦ let here : position p bs ≡ Some (position_or_len p bs) = cond-true _ _ _ (lt-ltb _ _ within) in record { within = within; is = cc }
  | inr past ↦ let none : position p bs ≡ None = cond-false _ _ _ (le-ltb _ _ past) in cc
]

pub missed : (p : ℕ → Bool) (bs : List ℕ) → position p bs ≡ None → length bs ≤ position_or_len p bs
missed p bs e = elim (cases_lt (position_or_len p bs) (length bs)) [
  | inl within ↦ let here : position p bs ≡ Some (position_or_len p bs) = cond-true _ _ _ (lt-ltb _ _ within) in cc
  | inr past ↦ past
]

byte_at : (byte : ℕ) (bs : List ℕ) (end : ℕ) → IsFound (λ b. eqb b byte) bs end → get_or bs end 0 ≡ byte
byte_at byte bs end h = rw h.is (eqb-true _ _ (passes_at_first (λ b. eqb b byte) bs 0 h.within))

-- a text may be cut before and behind an ASCII byte
pub cut_before : (byte : ℕ) (bs : List ℕ) (end : ℕ) → byte < 128 → position (λ b. eqb b byte) bs ≡ Some end → IsCharBoundary bs end
cut_before byte bs end ascii e =
    let h = found (λ b. eqb b byte) bs end e in
    IsCharBoundary-before_ascii bs end (omega (arith, h.within, h.is)) (omega (arith, byte_at byte bs end h))

pub cut_behind : (byte : ℕ) (bs : List ℕ) (end : ℕ) → IsUtf8 bs → byte < 128 → position (λ b. eqb b byte) bs ≡ Some end → IsCharBoundary bs (end + 1)
cut_behind byte bs end u ascii e =
    let h = found (λ b. eqb b byte) bs end e in
    IsCharBoundary-after_ascii bs end u (omega (arith, h.within, h.is)) (omega (arith, byte_at byte bs end h))
