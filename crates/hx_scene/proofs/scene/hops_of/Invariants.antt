use Rattle.std.proofs.Common.{◌≡◌, ◌+◌, ◌-◌, ◌≤◌, length, take, vec_len, vec_capacity}
use Rattle.hx_scene.proofs.scene.hops_of.Given as goal

abbrev pub invariant-loop-model : goal.invariant-loop-model
invariant-loop-model l = record {
  items : l.hops.items ≡ take l.model-index l.models;
  room : vec_len l.hops + (length l.models - l.model-index) ≤ vec_capacity l.hops;
}
