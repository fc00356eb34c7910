use Rattle.std.proofs.Common.{◌≡◌, ◌≤◌, ◌+◌, ◌-◌, [], replicate, vec_len, vec_capacity}
use Rattle.hx_ideal.proofs.bare.empty_lists.Given as goal

abbrev pub invariant-loop-made : goal.invariant-loop-made
invariant-loop-made g l = record {
  items : l.lists.items ≡ replicate l._made [];
  room : vec_len l.lists + (l.count - l._made) ≤ vec_capacity l.lists;
}
