use Rattle.std.proofs.Common.{arith}
use Rattle.hx_scene.proofs.Standing.{has_turn}
use Rattle.hx_scene.proofs.Turning.{turn_has, turn_plans, scene_stepped, stepped_is}
use Rattle.hx_scene.proofs.scene.Scene.take_step.Goals as goal

pub index_mut-turn-requires : goal.index_mut-turn-requires
index_mut-turn-requires g c =
    let lt = has_turn _ c.self.invariant.0 c.args.controller (rw (← c.self.view_is) at c.requires) in
    omega (arith, lt, c.self.inside.controllers.ok.0)

pub step-result-requires-clause-controller : goal.step-result-requires-clause-controller
step-result-requires-clause-controller g c =
    turn_has c.args.controller c.index_mut-turn.result.now c.self.invariant.0 (rw (← c.self.view_is) at c.requires) c.index_mut-turn.ensures.value

pub step-result-requires-clause-planned : goal.step-result-requires-clause-planned
step-result-requires-clause-planned g c =
    turn_plans c.args.controller c.index_mut-turn.result.now c.self.invariant.0 (rw (← c.self.view_is) at c.requires) c.index_mut-turn.ensures.value

pub invariant_of-self : goal.invariant_of-self
invariant_of-self g c = (
  scene_stepped c.args.controller c.index_mut-turn.result.now c.step-result.new.board c.step-result.new.self c.step-result.result c.self.invariant.0 (rw (← c.self.view_is) at c.requires)
      c.index_mut-turn.ensures.value c.history.ensures.history c.step-result.ensures.takes,
  c.self.invariant.1,
)

pub returns : goal.returns
returns g c =
    rw (← c.self.view_is)
    (stepped_is c.args.controller c.index_mut-turn.result.now c.step-result.new.board c.step-result.new.self c.step-result.result c.self.invariant.0 (rw (← c.self.view_is) at c.requires)
    c.index_mut-turn.ensures.value c.step-result.ensures.takes)
