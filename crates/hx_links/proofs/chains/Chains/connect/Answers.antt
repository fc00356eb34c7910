use Rattle.std.proofs.Common.{ap, ◌∙◌, arith}
use Rattle.std.proofs.lemmas.Grind.{common_steps}
use Rattle.hx_links.specs.Chains.{back_set}
use Rattle.hx_links.proofs.Entries.{ends_set}
use Rattle.hx_links.proofs.chains.Chains.connect.Goals as goal

pub returns-clause-ends : goal.returns-clause-ends
returns-clause-ends g c = c.set_prev.ensures.ends ∙ ap (back_set c.args.list.0 c.args.before c.args.after) c.set_next.ensures.ends ∙ ends_set c.args.list.0 c.args.before c.args.after c.args.self.now.ends.items (omega (arith, c.requires.list))

pub set_prev-requires-clause-after : goal.set_prev-requires-clause-after
set_prev-requires-clause-after g c = grind (arith, common_steps)
