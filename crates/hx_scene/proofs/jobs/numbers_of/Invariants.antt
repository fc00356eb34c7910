use Rattle.std.proofs.Common.{◌≡◌, ◌+◌, ◌≤◌, drop, vec_len, vec_capacity}
use Rattle.hx_scene.proofs.Numbers.{numbers_in}
use Rattle.hx_scene.proofs.jobs.numbers_of.Given as goal

abbrev pub invariant-loop-i : goal.invariant-loop-i
invariant-loop-i g l = record {
  items : l.numbers.items ≡ numbers_in l.instance (drop l.i l.jobs);
  room : vec_len l.numbers + l.i ≤ vec_capacity l.numbers;
}
