use Rattle.std.proofs.Common.{arith}
use Rattle.hx_scene.proofs.Standing.{has_turn, controller_is}
use Rattle.hx_scene.proofs.scene.Scene.controller.Goals as goal

pub index-requires : goal.index-requires
index-requires g c =
    let lt = has_turn _ c.self.invariant.0 c.args.controller (rw (← c.self.view_is) at c.requires) in
    omega (arith, lt, c.self.inside.controllers.ok.0)

pub returns : goal.returns
returns g c = rw (← c.self.view_is) (controller_is c.args.controller c.index.result.now c.self.invariant.0 (rw (← c.self.view_is) at c.requires) c.index.ensures)
