use Rattle.std.proofs.Common.{Some, ap, ◌∙◌}
use Rattle.hx_cluster.specs.declared.happenings.Event.{Event}
use Rattle.hx_scene.proofs.Fronts.{muted_as}
use Rattle.hx_scene.proofs.Happening.{prints_last}
use Rattle.hx_scene.proofs.scene.Scene.print_last.Goals as goal

pub returns-in-Some : goal.returns-in-Some
returns-in-Some g c =
    λ h e is.
    prints_last c.args.roll.now c.self.inside.spec c.event.result.now c.history.result.now.entries.items h e c.args.self.now.spec (muted_as c.self.view_is c.if-self.false) (c.history.ensures.value ∙ ap (λ s. s.board.history) c.self.view_is ∙ is)
    (ap (λ (x : Event). Some x) c.event.ensures ∙ c.in-Some.ensures) (ap (λ s. s.spec) c.self.view_is) c.print_event.ensures
