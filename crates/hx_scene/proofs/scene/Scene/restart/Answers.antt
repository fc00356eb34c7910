use Rattle.std.proofs.Common.{arith}
use Rattle.hx_scene.proofs.Standing.{has_turn}
use Rattle.hx_scene.proofs.Turning.{idle_is, scene_restarted}
use Rattle.hx_scene.proofs.scene.Scene.restart.Goals as goal

pub index_mut-requires : goal.index_mut-requires
index_mut-requires g c =
    let lt = has_turn _ c.self.invariant.0 c.args.controller (rw (← c.self.view_is) at c.requires) in
    omega (arith, lt, c.self.inside.controllers.ok.0)

pub invariant_of-self : goal.invariant_of-self
invariant_of-self g c = (
  scene_restarted c.args.controller c.index_mut.result.now c.restart.new.self c.self.invariant.0 (rw (← c.self.view_is) at c.requires) c.index_mut.ensures.value c.restart.ensures,
  c.self.invariant.1,
)

pub returns : goal.returns
returns g c =
    rw (← c.self.view_is)
    (idle_is c.args.controller c.index_mut.result.now c.restart.new.self c.self.invariant.0 (rw (← c.self.view_is) at c.requires) c.index_mut.ensures.value c.restart.ensures)
