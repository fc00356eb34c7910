use Rattle.std.proofs.Common.{rules}
use Rattle.hx_desc.proofs.each_part.nowhere.Goals as goal

pub returns : goal.returns
returns g c = search rules
