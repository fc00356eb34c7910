-- Texts, which are lists of bytes, and the pieces that they are printed from.
use Rattle.std.specs.Prelude.{◌≡◌, ℕ, ◌+◌, List, ◌++◌, length, take, decimal, Result, OnOk, OnErr}
use Rattle.hx_text.specs.declared.pages.Piece.{Piece}
use Rattle.hx_text.specs.declared.pages.Piece.TheVariants.{Text, Number}

-- what a piece prints
abbrev pub piece_text : Piece → List ℕ
piece_text (Text t) = t.now
piece_text (Number n) = decimal n

-- a front of a text is put at the end
abbrev pub PutsFront : List ℕ → List ℕ → List ℕ → Type 0
PutsFront text old new = (n : ℕ) × (new ≡ old ++ take n text)

-- a text is put at the end, or, for want of memory, a front of it
pub record Prints {T E : Type 0} (text old : List ℕ) (result : Result T E) (new : List ℕ) : Type 0 where
  pub ok : OnOk result (new ≡ old ++ text)
  pub err : OnErr result (PutsFront text old new)

-- a text is written over what stands from a place on, and ends at another place
pub record Writes (text : List ℕ) (at : ℕ) (old : List ℕ) (end : ℕ) (new : List ℕ) : Type 0 where
  pub text_end : end ≡ at + length text
  pub front : take end new ≡ take at old ++ text
  pub same_length : length new ≡ length old
