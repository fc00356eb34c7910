use Rattle.std.proofs.Common.{◌≡◌, ◌+◌, ◌-◌, ◌≤◌, vec_len, vec_capacity}
use Rattle.hx_worlds.specs.World.{controllers_of}
use Rattle.hx_app.proofs.simulation.controllers_of.Given as goal

abbrev pub invariant-loop-number : goal.invariant-loop-number
invariant-loop-number l = record {
  items : l.controllers.items ≡ controllers_of l.number;
  room : vec_len l.controllers + (l.number-end - l.number) ≤ vec_capacity l.controllers;
}
