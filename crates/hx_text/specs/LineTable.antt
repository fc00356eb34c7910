-- Lines that are kept as one text and the places where each ends.
use Rattle.std.specs.Prelude.{◌≡◌, ℕ, ◌^◌, ◌<◌, ◌≤◌, List, [], ◌∷◌, length, slice_range}
use Rattle.std.specs.Str.{IsCharBoundary}

-- the lines of a text from a place on, by their ends
abbrev pub lines_between : List ℕ → ℕ → List ℕ → List (List ℕ)
lines_between text from [] = []
lines_between text from (end ∷ ends) = slice_range text from end ∷ lines_between text end ends

-- from a place on, each end stands between characters and is no lower than the one before, and the last is the end of the text
abbrev pub AreEnds : List ℕ → ℕ → List ℕ → Type 0
AreEnds text from [] = from ≡ length text
AreEnds text from (end ∷ ends) = (from ≤ end) × IsCharBoundary text end × AreEnds text end ends

pub record IsLineTable (text ends : List ℕ) : Type 0 where
  pub ends_in_order : AreEnds text 0 ends
  pub few : length ends < 2 ^ 32
