use Rattle.std.proofs.Common.{◌∙◌, ap}
use Rattle.hx_control.specs.Controllers.{stage}
use Rattle.hx_control.proofs.Staged.{mail_read, states_read}
use Rattle.hx_control.proofs.controller.Controller.stage.Goals as goal

pub returns-in-Mail : goal.returns-in-Mail
returns-in-Mail c = mail_read c.self.inside c.in-Mail.read c.in-Mail.is c.self.invariant ∙ ap stage c.self.view_is

pub returns-in-States : goal.returns-in-States
returns-in-States c = states_read c.self.inside c.in-States.read c.in-States.is c.self.invariant ∙ ap stage c.self.view_is
