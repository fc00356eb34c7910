use Rattle.std.proofs.Common.{arith, sym}
use Rattle.hx_control.proofs.Left.{counted}
use Rattle.hx_control.proofs.controller.Controller.calls_left.Goals as goal

pub overflow_add-result : goal.overflow_add-result
overflow_add-result c =
    let few = (counted c.self.inside c.args.self.now (sym c.self.view_is) c.self.invariant _ _ _ c.mail_left.ensures c.states_left.ensures c.others-others.ensures).two in
    omega (arith, few)

pub overflow_add-result-2 : goal.overflow_add-result-2
overflow_add-result-2 c =
    let few = (counted c.self.inside c.args.self.now (sym c.self.view_is) c.self.invariant _ _ _ c.mail_left.ensures c.states_left.ensures c.others-others.ensures).all in
    omega (arith, few)

pub returns : goal.returns
returns c =
    (counted c.self.inside c.args.self.now (sym c.self.view_is) c.self.invariant _ _ _ c.mail_left.ensures c.states_left.ensures c.others-others.ensures).sum
