use Rattle.std.proofs.Common.{arith}
use Rattle.std.proofs.lemmas.Grind.{common_steps}
use Rattle.hx_print.specs.Texts.{instance_name}
use Rattle.hx_print.proofs.Printing.{words_or_dash-some}
use Rattle.hx_print.proofs.outcomes.print_route.Goals as goal

pub returns-in_default : goal.returns-in_default
returns-in_default c =
    rw (words_or_dash-some (instance_name c.args.spec.now) c.args.instances.now c.in_default.len_at_least) (simp c.state_name.ensures at c.print_long_line.ensures)

pub returns-in-empty : goal.returns-in-empty
returns-in-empty c = grind (arith, common_steps)
