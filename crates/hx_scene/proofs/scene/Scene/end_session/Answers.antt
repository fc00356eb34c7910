use Rattle.std.proofs.Common.{◌∙◌}
use Rattle.hx_scene.proofs.Standing.{has_staff}
use Rattle.hx_scene.proofs.Charging.{scene_of_same}
use Rattle.hx_scene.proofs.Making.{cut_for}
use Rattle.hx_scene.proofs.Dying.{scene_died, ended_of, board_same}
use Rattle.hx_scene.proofs.scene.Scene.end_session.Goals as goal

pub invariant_of-self : goal.invariant_of-self
invariant_of-self g c = (scene_of_same c.end_on.new.board c.self.invariant.0 c.in_err-end_on.ensures.err, c.self.invariant.1)

pub returns-in_err-end_on-clause-err : goal.returns-in_err-end_on-clause-err
returns-in_err-end_on-clause-err g c = cut_for c.from_residual-in_err-end_on.result (board_same c.end_on.new.board c.in_err-end_on.ensures.err ∙ c.self.view_is)

pub adopt-requires-clause-instance : goal.adopt-requires-clause-instance
adopt-requires-clause-instance g c κs within = has_staff _ c.self.invariant.0 c.args.instance (rw (← c.self.view_is) at c.requires)

pub invariant_of-self-2 : goal.invariant_of-self-2
invariant_of-self-2 g c = (
  scene_died c.args.instance c.end_on.new.board c.adopt.new.jobs.items c.adopt.new.participants.items c.self.invariant.0 c.in_ok-end_on.ensures.history (rw (← c.self.view_is) at c.requires)
      c.in_ok-end_on.ensures.refused c.in_ok-end_on.ensures.ok c.adopt.ensures.adopts c.adopt.ensures.kept,
  c.self.invariant.1,
)

pub returns-clause-ok : goal.returns-clause-ok
returns-clause-ok g c =
    rw (← c.self.view_is) (ended_of c.args.instance c.end_on.new.board c.adopt.new.jobs.items c.adopt.new.participants.items c.in_ok-end_on.ensures.ok c.adopt.ensures.adopts c.adopt.ensures.kept)
