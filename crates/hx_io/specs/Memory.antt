-- Sources and sinks in memory, and which of their calls fail.
use Rattle.std.specs.Prelude.{ℕ, ◌-◌, ◌==◌, Bool, ◌||◌, nat_le, List, ◌++◌, length, drop}
use Rattle.std.specs.List.{list_any}
use Rattle.hx_lists.specs.Counts.{count_up}

-- a source: the bytes that are left, the calls that fail by their numbers from 1,
-- how many calls were made, and how many failed
pub record SourceState : Type 0 where
  pub left : List ℕ
  pub fails : List ℕ
  pub calls : ℕ
  pub faults : ℕ

-- a sink: the bytes that it took, how many it takes at most, and the same of its calls
pub record SinkState : Type 0 where
  pub got : List ℕ
  pub most : ℕ
  pub fails : List ℕ
  pub calls : ℕ
  pub faults : ℕ

-- whether the call after these is one that fails
abbrev pub next_fails : List ℕ → ℕ → Bool
next_fails fails calls = list_any (λ call. call == count_up calls) fails

-- a source after a call that gave n bytes
abbrev pub source_after : SourceState → ℕ → SourceState
source_after s n = record s { left = drop n s.left; calls = count_up s.calls }

-- a source after a call that failed
abbrev pub failed_source : SourceState → SourceState
failed_source s = record s { calls = count_up s.calls; faults = count_up s.faults }

-- how many bytes a sink still takes
abbrev pub room : SinkState → ℕ
room s = s.most - length s.got

-- whether the next call fails, also with ample memory
abbrev pub refuses : SinkState → Bool
refuses s = nat_le (room s) 0 || next_fails s.fails s.calls

-- a sink after a call that took these bytes
abbrev pub sink_after : SinkState → List ℕ → SinkState
sink_after s bytes = record s { got = s.got ++ bytes; calls = count_up s.calls }

-- a sink after a call that failed
abbrev pub failed_sink : SinkState → SinkState
failed_sink s = record s { calls = count_up s.calls; faults = count_up s.faults }
