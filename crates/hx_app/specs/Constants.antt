-- The statuses of runs, and the limits of what is read.
use Rattle.std.specs.Prelude.{ℕ}

-- the work was done
abbrev pub done : ℕ
done = 0

-- the words, the description or the script was refused
abbrev pub words_refused : ℕ
words_refused = 2

abbrev pub description_refused : ℕ
description_refused = 3

abbrev pub script_refused : ℕ
script_refused = 4

-- the source failed, the sink failed, memory was wanted
abbrev pub read_fault : ℕ
read_fault = 5

abbrev pub write_fault : ℕ
write_fault = 6

abbrev pub no_memory : ℕ
no_memory = 7

-- the history has no room
abbrev pub history_full : ℕ
history_full = 8

-- the log isn't lawful
abbrev pub unlawful : ℕ
unlawful = 9

-- the input is too long
abbrev pub too_long : ℕ
too_long = 10

-- the most bytes that are read
abbrev pub most_bytes : ℕ
most_bytes = 16777216

-- the most bytes that a line of a script or of a log has
abbrev pub most_line : ℕ
most_line = 16384
