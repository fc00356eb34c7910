use Rattle.std.proofs.Common.{refl}
use Rattle.hx_scene.proofs.Fronts.{muted_as}
use Rattle.hx_scene.proofs.Saying.{say_full, say_muted, say_cut, say_whole, same_line}
use Rattle.hx_scene.specs.Telling.{part_line}
use Rattle.hx_scene.proofs.scene.Scene.say_of_part.Goals as goal

pub returns-in_err-charge : goal.returns-in_err-charge
returns-in_err-charge g c = say_full _ _ c.args.out.now c.from_residual.result c.in_err-charge.ensures (λ a. refl) c.from_residual.ensures.1

pub returns-then-self : goal.returns-then-self
returns-then-self g c = say_muted _ _ c.args.out.now c.in_ok-charge.ensures (muted_as c.self.view_is c.if-self.true) (λ a. refl)

pub returns-in_err-print_part_line : goal.returns-in_err-print_part_line
returns-in_err-print_part_line g c =
    say_cut _ c.from_residual-in_err-print_part_line.result c.in_ok-charge.ensures (muted_as c.self.view_is c.if-self.false) c.in_err-print_part_line.ensures
    (λ a. same_line (λ spec name. part_line spec name c.args.part c.args.line.now) c.args.part.resource c.name_in-name.result.now c.in_ok-charge.ensures c.self.view_is c.name_in-name.ensures a) c.from_residual-in_err-print_part_line.ensures.1

pub returns : goal.returns
returns g c =
    say_whole _ c.in_ok-charge.ensures (muted_as c.self.view_is c.if-self.false) c.in_ok-print_part_line.ensures
    (λ a. same_line (λ spec name. part_line spec name c.args.part c.args.line.now) c.args.part.resource c.name_in-name.result.now c.in_ok-charge.ensures c.self.view_is c.name_in-name.ensures a)
