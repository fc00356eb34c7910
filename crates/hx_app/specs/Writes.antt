-- An answer that is written.
use Rattle.std.specs.Prelude.{◌≡◌, ◌⊎◌, ℕ, ◌<◌, ◌≤◌, List, length, take, Option}
use Rattle.std.specs.Io.KnownBytes.{Appends}
use Rattle.hx_lists.specs.Counts.{Rose}
use Rattle.hx_app.specs.Constants.{write_fault}
use Rattle.hx_app.specs.Replies.{Answer}

-- a sink at one moment: the bytes that it took, where it tells them, and how many calls have failed
pub record SinkAt : Type 0 where
  pub got : Option (List ℕ)
  pub faults : ℕ

-- the text of an answer was written whole, and the status is its own
pub record IsWhole (answer : Answer) (old new : SinkAt) (status : ℕ) : Type 0 where
  pub own : status ≡ answer.status
  pub text : Appends old.got new.got answer.text

-- the sink failed: what went out is a front of the text, and not all of it
pub record IsCut (answer : Answer) (old new : SinkAt) (status : ℕ) : Type 0 where
  pub fault : status ≡ write_fault
  pub rose : Rose old.faults new.faults
  pub front : (n : ℕ) × (n < length answer.text) × Appends old.got new.got (take n answer.text)

-- an answer was written, whole or cut. The count of faults never falls
pub record Writes (answer : Answer) (old new : SinkAt) (status : ℕ) : Type 0 where
  pub ended : IsWhole answer old new status ⊎ IsCut answer old new status
  pub later : old.faults ≤ new.faults
