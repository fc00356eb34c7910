use Rattle.hx_best.proofs.Bits.{all_numbers}
use Rattle.hx_best.proofs.numbers.is_all_below.Goals as goal

pub returns : goal.returns
returns c = all_numbers c.args.set c.args.count c.requires
