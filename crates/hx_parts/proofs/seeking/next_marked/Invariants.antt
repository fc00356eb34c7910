use Rattle.std.proofs.Common.{length, ◌-◌, ◌≡◌, ◌<◌, ◌≤◌, ℕ, false, slice_index_or}
use Rattle.hx_parts.proofs.seeking.next_marked.Given as goal

-- none is marked from the first place to this one
abbrev pub invariant-loop-place : goal.invariant-loop-place
invariant-loop-place l = record {
  behind : l.from ≤ l.place;
  free : (k : ℕ) → l.from ≤ k → k < l.place → slice_index_or l.cells k false ≡ false;
}

abbrev pub decreases-loop-place : goal.decreases-loop-place
decreases-loop-place l = length l.cells - l.place

abbrev pub invariant-loop-place-2 : goal.invariant-loop-place-2
invariant-loop-place-2 l = record {
  behind : l.from ≤ l.place;
  free : (k : ℕ) → l.from ≤ k → k < l.place → slice_index_or l.cells k false ≡ false;
}

abbrev pub decreases-loop-place-2 : goal.decreases-loop-place-2
decreases-loop-place-2 l = length l.cells - l.place
