-- Faults of sources and sinks, and their counts.
use Rattle.std.specs.Prelude.{ℕ, ◌≤◌, Result, OnErr}
use Rattle.hx_lists.specs.Counts.{Rose}

-- a count of faults never falls, and rises where the call fails
pub record CountsFault {T E : Type 0} (before now : ℕ) (result : Result T E) : Type 0 where
  pub later : before ≤ now
  pub failed : OnErr result (Rose before now)
