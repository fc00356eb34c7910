use Rattle.std.proofs.Common.{sym, arith}
use Rattle.std.proofs.lemmas.Grind.{elements}
use Rattle.hx_parts.proofs.Cells.{put_back}
use Rattle.hx_parts.proofs.marks.set_cell.Goals as goal

pub returns-in_default-get_mut-clause-kept : goal.returns-in_default-get_mut-clause-kept
returns-in_default-get_mut-clause-kept c =
    λ no. put_back c.args.cells.now c.args.part.resource.0 c.in-Some.row.now (sym c.in-Some.ensures.value)

pub returns-clause-set : goal.returns-clause-set
returns-clause-set c = grind (arith, elements)
