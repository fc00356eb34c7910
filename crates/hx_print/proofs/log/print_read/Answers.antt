use Rattle.std.proofs.Common.{rules}
use Rattle.hx_print.proofs.log.print_read.Goals as goal

pub returns : goal.returns
returns c = search rules
