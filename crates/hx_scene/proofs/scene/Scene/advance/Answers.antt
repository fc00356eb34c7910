use Rattle.hx_scene.proofs.Turning.{advance_wanted}
use Rattle.hx_scene.proofs.scene.Scene.advance.Goals as goal

pub returns-in_err-roll : goal.returns-in_err-roll
returns-in_err-roll g c = advance_wanted c.args.controller _ c.args.self.now c.args.out.now c.from_residual.result c.from_residual.ensures.1
