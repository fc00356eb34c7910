use Rattle.hx_scene.proofs.Happening.{memory_wanted}
use Rattle.hx_scene.proofs.scene.Scene.fetch.Goals as goal

pub returns-in_err-open-clause-does : goal.returns-in_err-open-clause-does
returns-in_err-open-clause-does g c = memory_wanted _ c.args.self.now c.args.out.now c.from_residual.result c.from_residual.ensures.1
