use Rattle.std.proofs.Common.{refl}
use Rattle.hx_scene.proofs.Reaching.{does_err}
use Rattle.hx_sim.proofs.Settling.{leader_read, aloud_does, aloud_fails}
use Rattle.hx_sim.proofs.world.World.settle_aloud.Goals as goal

pub returns-in_err-settled : goal.returns-in_err-settled
returns-in_err-settled g c =
    does_err _ _ _ _ _ _ _ _ c.from_residual.ensures.1
    (aloud_fails c.args.voice c.args.self.now c.leader-leader.result
    (leader_read c.args.self.now c.self.inside.scene _ _ _ c.self.view_is c.board.ensures.board c.leader-leader.ensures refl) _ _ _ _ c.in_err-settled.ensures)

pub returns : goal.returns
returns g c =
    aloud_does c.args.voice c.args.self.now c.leader-leader.result
    (leader_read c.args.self.now c.self.inside.scene _ _ _ c.self.view_is c.board.ensures.board c.leader-leader.ensures refl) c.in_ok-settled.ensures _ _ _ c.tell_settle.ensures
