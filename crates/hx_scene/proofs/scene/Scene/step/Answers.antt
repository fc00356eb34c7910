use Rattle.hx_scene.proofs.Happening.{memory_wanted}
use Rattle.hx_scene.proofs.scene.Scene.step.Goals as goal

pub returns-in_err-roll : goal.returns-in_err-roll
returns-in_err-roll g c = memory_wanted _ c.args.self.now c.args.out.now c.from_residual.result c.from_residual.ensures.1
