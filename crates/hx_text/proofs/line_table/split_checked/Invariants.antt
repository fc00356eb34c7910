use Rattle.std.proofs.Common.{length}
use Rattle.hx_text.proofs.LineFaults.{IsTaken}
use Rattle.hx_text.proofs.line_table.split_checked.Given as goal

abbrev pub invariant-loop-rest : goal.invariant-loop-rest
invariant-loop-rest l = IsTaken l.most l.bytes l.rest l.lines

abbrev pub decreases-loop-rest : goal.decreases-loop-rest
decreases-loop-rest l = length l.rest
