use Rattle.std.proofs.Common.{arith}
use Rattle.hx_select.proofs.fillings.Fillings.holds.Goals as goal

pub returns-else-has_end : goal.returns-else-has_end
returns-else-has_end c = λ models accepted are limited.
    let taken = are.held c.args.candidate.now.part c.args.candidate.now.to c.args.session limited in
    grind (arith, taken, c.contains.ensures, c.has_end.ensures, c.if-has_end.false)
