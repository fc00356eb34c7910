use Rattle.std.proofs.Common.{arith}
use Rattle.std.proofs.lemmas.Grind.{common_steps}
use Rattle.hx_print.specs.Texts.{seen_name}
use Rattle.hx_print.proofs.Printing.{words_or_dash-some}
use Rattle.hx_print.proofs.outcomes.print_seen.Goals as goal

pub returns-in_default : goal.returns-in_default
returns-in_default c = rw (words_or_dash-some (seen_name c.args.spec.now) c.args.holders.now c.in_default.len_at_least) c.print_long_line.ensures

pub returns-in-empty : goal.returns-in-empty
returns-in-empty c = grind (arith, common_steps)
