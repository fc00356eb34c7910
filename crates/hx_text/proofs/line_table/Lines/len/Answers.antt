use Rattle.std.proofs.Common.{arith}
use Rattle.hx_text.proofs.LineTables.{length_viewed}
use Rattle.hx_text.proofs.line_table.Lines.len.Goals as goal

pub returns : goal.returns
returns c = let e = length_viewed _ _ _ c.self.view_is in omega arith
