use Rattle.std.proofs.Common.{◌≡◌, ◌≤◌, length, take}
use Rattle.hx_calls.proofs.reads.resources_over.Given as goal

-- the resources so far stand in front
abbrev pub invariant-loop-place : goal.invariant-loop-place
invariant-loop-place l = record {
  long : l.place ≤ length l.kept;
  front : take l.place l.kept ≡ take l.place l.resources;
}
