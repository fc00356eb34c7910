use Rattle.std.proofs.Common.{◌∙◌}
use Rattle.hx_records.proofs.Gated.{count_here}
use Rattle.hx_records.proofs.Records.count.Goals as goal

pub returns : goal.returns
returns c = c.count.ensures ∙ count_here c.self.inside c.args.self.now c.args.part c.args.state c.args.limit c.self.view_is c.self.invariant c.requires
