use Rattle.std.proofs.Common.{length}
use Rattle.hx_text.proofs.FirstLine.{IsSeen}
use Rattle.hx_text.proofs.line_ends.cut.Given as goal

abbrev pub invariant-loop-rest : goal.invariant-loop-rest
invariant-loop-rest l = IsSeen l.bytes l.rest

abbrev pub decreases-loop-rest : goal.decreases-loop-rest
decreases-loop-rest l = length l.rest
