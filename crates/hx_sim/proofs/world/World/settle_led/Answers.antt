use Rattle.std.proofs.Common.{refl}
use Rattle.hx_scene.proofs.Reaching.{does_err, cut_here}
use Rattle.hx_sim.proofs.Settling.{leader_read, leader_in, nobody_led, led_ends, led_fails}
use Rattle.hx_sim.proofs.world.World.settle_led.Goals as goal

pub returns-in_default : goal.returns-in_default
returns-in_default g c =
    let s = c.self.inside.scene in
    rw (← c.self.view_is) (nobody_led s c.args.out.now (leader_read s s _ _ _ refl c.board.ensures.board c.leader.ensures c.in_default.is))

pub returns-in_err-most : goal.returns-in_err-most
returns-in_err-most g c = does_err _ _ _ _ _ _ _ _ c.from_residual.ensures.1 (cut_here _ _ _)

pub rounds-requires-after_bounds : goal.rounds-requires-after_bounds
rounds-requires-after_bounds g c κs within =
    leader_in c.args.self.now c.self.inside.scene c.board.ensures.scene c.self.view_is c.in-Some.controller
    (leader_read c.args.self.now c.self.inside.scene _ _ _ c.self.view_is c.board.ensures.board c.leader.ensures c.in-Some.is)

pub returns-in_err-settled : goal.returns-in_err-settled
returns-in_err-settled g c =
    does_err _ _ _ _ _ _ _ _ c.from_residual-in_err-settled.ensures.1
    (led_fails c.args.self.now c.in-Some.controller c.in_ok-most.most
    (leader_read c.args.self.now c.self.inside.scene _ _ _ c.self.view_is c.board.ensures.board c.leader.ensures c.in-Some.is) c.in_ok-most.ensures _ _ _ _ c.in_err-settled.ensures)

pub returns : goal.returns
returns g c =
    led_ends c.args.self.now c.in-Some.controller c.in_ok-most.most
    (leader_read c.args.self.now c.self.inside.scene _ _ _ c.self.view_is c.board.ensures.board c.leader.ensures c.in-Some.is) c.in_ok-most.ensures c.in_ok-settled.ensures
