use Rattle.std.proofs.Common.{ap, ◌∙◌}
use Rattle.hx_lists.specs.Lists.{count}
use Rattle.hx_control.specs.Controllers.{Controller, is_mail_call, is_states_call}
use Rattle.hx_worlds.specs.Turns.{do_read}
use Rattle.hx_sim.proofs.Words.{turn_is, does_same}
use Rattle.hx_sim.proofs.world.World.read.Goals as goal

pub returns-in-Live : goal.returns-in-Live
returns-in-Live g c = does_same (do_read c.args.voice c.args.controller) c.in-Live.is _ _ _ _ _ _ c.call_if.ensures

pub returns-in-Mail : goal.returns-in-Mail
returns-in-Mail g c =
    let e = turn_is c.args.controller c.controller.ensures c.self.view_is in
    does_same (do_read c.args.voice c.args.controller) c.in-Mail.is _ _ _ _ _ _ (c.calls_if.ensures (c.mail_left-left.ensures ∙ ap (λ (y : Controller). count is_mail_call y.turn.left) e))

pub returns-in-States : goal.returns-in-States
returns-in-States g c =
    let e = turn_is c.args.controller c.controller-in-States.ensures c.self-in-States.view_is in
    does_same (do_read c.args.voice c.args.controller) c.in-States.is _ _ _ _ _ _ (c.calls_if-in-States.ensures (c.states_left-left.ensures ∙ ap (λ (y : Controller). count is_states_call y.turn.left) e))

pub returns-in-Ideals : goal.returns-in-Ideals
returns-in-Ideals g c = does_same (do_read c.args.voice c.args.controller) c.in-Ideals.is _ _ _ _ _ _ c.call_if-in-Ideals.ensures
