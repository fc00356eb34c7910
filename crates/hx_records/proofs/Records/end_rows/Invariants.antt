use Rattle.std.proofs.Common.{length}
use Rattle.hx_records.proofs.Ending.{IsPartEnding, the_rows, of_row}
use Rattle.hx_records.proofs.Records.end_rows.Given as goal

abbrev pub invariant-loop-row : goal.invariant-loop-row
invariant-loop-row l = IsPartEnding the_rows (of_row l.session) l.fn.self l.self

abbrev pub decreases-loop-row : goal.decreases-loop-row
decreases-loop-row l = length l.self.rows
