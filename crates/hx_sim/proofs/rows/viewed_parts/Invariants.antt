use Rattle.std.proofs.Common.{◌≡◌, ◌++◌, drop}
use Rattle.hx_print.specs.Texts.{viewed_from, viewed_parts}
use Rattle.hx_sim.proofs.rows.viewed_parts.Given as goal

abbrev pub invariant-loop-number : goal.invariant-loop-number
invariant-loop-number l = l.parts.items ++ viewed_from l.board.cluster l.number (drop l.number l.board.cluster.resources) ≡ viewed_parts l.board.cluster
