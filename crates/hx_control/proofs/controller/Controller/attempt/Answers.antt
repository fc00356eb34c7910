use Rattle.hx_control.proofs.controller.Controller.attempt.Goals as goal

pub returns-in-Live : goal.returns-in-Live
returns-in-Live c = c.read_live.ensures c.args.spec.now

pub returns-in-Mail : goal.returns-in-Mail
returns-in-Mail c = c.read_mail.ensures c.args.spec.now

pub returns-in-States : goal.returns-in-States
returns-in-States c = c.read_states.ensures c.args.spec.now

pub returns-in-Ideals : goal.returns-in-Ideals
returns-in-Ideals c = c.read_ideals.ensures c.args.spec.now
