use Rattle.std.proofs.Common.{◌≡◌, ℕ, ◌+◌}
use Rattle.std.specs.Prelude.{nat_lt, if◌then◌else◌}
use Rattle.hx_ids.specs.declared.PartId.{PartId}
use Rattle.hx_ids.specs.declared.StateId.{StateId}
use Rattle.hx_counts.specs.Tally.{ends_of, loads_of}
use Rattle.hx_slots.specs.Tallies.{load_added}
use Rattle.hx_slots.proofs.tallies.raise_loads.Given as goal

-- the rules so far count it
abbrev pub invariant-loop-place : goal.invariant-loop-place
invariant-loop-place l = record {
  ends : (p : PartId) (t : StateId) → ends_of l.counts p t ≡ ends_of l.fn.counts p t;
  loads : (n key : ℕ) → loads_of l.counts n key ≡ loads_of l.fn.counts n key + (if nat_lt n l.place then load_added l.cluster l.instance l.message n key else 0);
}
