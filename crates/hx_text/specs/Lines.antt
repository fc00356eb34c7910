-- Lines and words of a text, and the cut of an input.
-- A line ends at a line feed or at the end of the text. One carriage return before that line feed isn't part of it.
use Rattle.std.specs.Prelude.{◌≡◌, ℕ, ◌==◌, Bool, not, nat_lt, List, [], ◌∷◌, ◌++◌, length, codes, filter, take, Option, Some, None, if◌then◌else◌}
use Rattle.std.specs.List.{slice_split, join_with_byte, position_or_len, before_first, after_first}
use Rattle.std.specs.Option.{option_map}
use Rattle.std.specs.Str.{bytes_eq}
use Rattle.std.specs.Str.Lines.{lines, strip_carriage_return}

abbrev pub is_line_feed : ℕ → Bool
is_line_feed b = b == 10

abbrev pub is_space : ℕ → Bool
is_space b = b == 32

-- the lines in order. Behind the last line feed stands a line only where the text goes on.
abbrev pub lines_of : List ℕ → List (List ℕ)
lines_of bytes = lines bytes

-- the first line
abbrev pub first_line : List ℕ → List ℕ
first_line bytes = if nat_lt (position_or_len is_line_feed bytes) (length bytes) then strip_carriage_return (before_first is_line_feed bytes) else bytes

-- what stands behind the end of the first line
abbrev pub after_line : List ℕ → List ℕ
after_line bytes = after_first is_line_feed bytes

-- the line between a description and the lines of a script or a log
abbrev pub separator : List ℕ
separator = codes "---"

-- the bytes before the first separator and those behind it, of the parts between line feeds
abbrev pub cut_parts : List (List ℕ) → Option (List ℕ × List ℕ)
cut_parts [] = None
cut_parts (part ∷ []) = if bytes_eq part separator then Some ([], []) else None
cut_parts (part ∷ next ∷ more) =
    if bytes_eq (strip_carriage_return part) separator
    then Some ([], join_with_byte 10 (next ∷ more))
    else option_map (λ halves. (part ++ 10 ∷ halves.0, halves.1)) (cut_parts (next ∷ more))

-- the description of an input, and its script or log
abbrev pub cut_of : List ℕ → Option (List ℕ × List ℕ)
cut_of bytes = cut_parts (slice_split is_line_feed bytes)

-- the words of a line, which are what stands between spaces
abbrev pub words_of : List ℕ → List (List ℕ)
words_of line = filter (λ word. not (length word == 0)) (slice_split is_space line)

-- these are the first of a list
abbrev pub IsFront : List (List ℕ) → List (List ℕ) → Type 0
IsFront words all = (n : ℕ) × (words ≡ take n all)
