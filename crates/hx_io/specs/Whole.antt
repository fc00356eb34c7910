-- What a source gives over several calls.
use Rattle.std.specs.Prelude.{List, ℕ, Option}
use Rattle.std.specs.Io.KnownBytes.{Consumes}

-- the source gave bytes of which P holds
abbrev pub Gave : Option (List ℕ) → Option (List ℕ) → (List ℕ → Type 0) → Type 0
Gave old new P = (bytes : List ℕ) × Consumes old new bytes × P bytes
