use Rattle.hx_best.proofs.Bits.{with_number}
use Rattle.hx_best.proofs.numbers.with.Goals as goal

pub returns : goal.returns
returns c = with_number c.args.set c.args.number c.requires
