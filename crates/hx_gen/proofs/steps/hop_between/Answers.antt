use Rattle.std.proofs.Common.{sym}
use Rattle.hx_gen.proofs.Ways.{no_way}
use Rattle.hx_gen.proofs.steps.hop_between.Goals as goal

pub returns-then-not-is_way : goal.returns-then-not-is_way
returns-then-not-is_way c = no_way c.args.model.now c.args.from c.args.goal c.is_way.ensures.sound (sym c.if-not-is_way.ensures.way)
