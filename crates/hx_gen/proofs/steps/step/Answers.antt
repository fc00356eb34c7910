use Rattle.std.proofs.Common.{sym}
use Rattle.hx_hops.proofs.Shortest.{hop_first}
use Rattle.hx_gen.proofs.steps.step.Goals as goal

pub rank-requires : goal.rank-requires
rank-requires c = (hop_first c.args.model.now c.unwrap_or-from.result c.args.target.now.goal c.in-Some.to (sym c.in-Some.ensures)).legal
