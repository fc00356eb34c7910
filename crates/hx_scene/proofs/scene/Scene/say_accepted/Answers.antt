use Rattle.hx_scene.proofs.Fronts.{muted_as}
use Rattle.hx_scene.proofs.Saying.{say_full, say_muted, say_cut, say_whole, same_text}
use Rattle.hx_print.specs.Texts.{accept_text}
use Rattle.std.proofs.Common.{refl}
use Rattle.hx_scene.proofs.scene.Scene.say_accepted.Goals as goal

pub returns-in_err-charge-clause-does : goal.returns-in_err-charge-clause-does
returns-in_err-charge-clause-does g c = say_full _ _ c.args.out.now c.from_residual.result c.in_err-charge.ensures (λ a. refl) c.from_residual.ensures.1

pub returns-then-self-clause-does : goal.returns-then-self-clause-does
returns-then-self-clause-does g c = say_muted _ _ c.args.out.now c.in_ok-charge.ensures (muted_as c.self.view_is c.if-self.true) (λ a. refl)

pub returns-in_err-print_accept-clause-does : goal.returns-in_err-print_accept-clause-does
returns-in_err-print_accept-clause-does g c =
    say_cut _ c.from_residual-in_err-print_accept.result c.in_ok-charge.ensures (muted_as c.self.view_is c.if-self.false) c.in_err-print_accept.ensures
    (λ a. same_text (λ spec. accept_text spec c.args.instance c.args.id) c.in_ok-charge.ensures c.self.view_is a) c.from_residual-in_err-print_accept.ensures.1

pub returns-clause-does : goal.returns-clause-does
returns-clause-does g c =
    say_whole _ c.in_ok-charge.ensures (muted_as c.self.view_is c.if-self.false) c.in_ok-print_accept.ensures
    (λ a. same_text (λ spec. accept_text spec c.args.instance c.args.id) c.in_ok-charge.ensures c.self.view_is a)
