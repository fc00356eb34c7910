-- What is wrong with the lines of a text.
use Rattle.std.specs.Prelude.{ℕ, ◌+◌, not, nat_lt, List, [], ◌∷◌, length, Option, Some, None, if◌then◌else◌}
use Rattle.std.specs.Option.{option_or}
use Rattle.std.specs.Str.{is_utf8}
use Rattle.hx_text.specs.declared.line_table.TextFault.{TextFault}
use Rattle.hx_text.specs.declared.line_table.TextFault.TheVariants.{NotUtf8, LineTooLong}
use Rattle.hx_text.specs.Lines.{lines_of}

-- the fault of a line with a number, where a line has `most` bytes at most
abbrev pub line_fault : ℕ → ℕ → List ℕ → Option TextFault
line_fault most number line = if not (is_utf8 line) then Some (NotUtf8 number) else if nat_lt most (length line) then Some (LineTooLong number) else None

-- the first fault of lines, which are numbered from `number` on
abbrev pub first_fault : ℕ → ℕ → List (List ℕ) → Option TextFault
first_fault most number [] = None
first_fault most number (line ∷ more) = option_or (line_fault most number line) (first_fault most (number + 1) more)

-- the first fault of a text
abbrev pub lines_fault : ℕ → List ℕ → Option TextFault
lines_fault most bytes = first_fault most 1 (lines_of bytes)
