use Rattle.hx_scene.proofs.Charging.{scene_of_charge, scene_of_same, charge_made, charge_refused}
use Rattle.hx_scene.proofs.scene.Scene.charge.Goals as goal
use Rattle.hx_scene.proofs.scene.Scene.charge.Goals.{in-Ok, in-Err}

pub invariant_of-self : goal.invariant_of-self
invariant_of-self g c =
    elim c.match-charge.branch [
      | in-Ok w ↦ (scene_of_charge c.charge.new.self c.args.n c.self.invariant.0 w.in-Ok.ensures.refused w.in-Ok.ensures.ok, c.self.invariant.1)
      | in-Err w ↦ (scene_of_same c.charge.new.self c.self.invariant.0 w.in-Err.ensures.err, c.self.invariant.1)
    ]

pub returns : goal.returns
returns g c =
    elim c.match-charge.branch [
      | in-Ok w ↦ charge_made c.args.self.now c.charge.new.self c.args.n _ c.match-charge.result c.self.invariant.0 c.self.view_is w.in-Ok.ensures.refused w.in-Ok.ensures.ok w.result-is
      | in-Err w ↦ charge_refused c.args.self.now c.charge.new.self c.args.n w.in-Err.full c.match-charge.result c.self.invariant.0 c.self.view_is w.in-Err.ensures.refused w.in-Err.ensures.err w.result-is
    ]
