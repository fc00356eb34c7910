use Rattle.std.proofs.Common.{rules}
use Rattle.hx_print.proofs.log.print_step.Goals as goal

pub returns-in-Join : goal.returns-in-Join
returns-in-Join c = search rules
