use Rattle.std.proofs.Common.{ap}
use Rattle.hx_cluster.specs.declared.happenings.Event.TheVariants as events
use Rattle.hx_scene.proofs.Fronts.{muted_as}
use Rattle.hx_scene.proofs.Happening.{prints_with, prints_failed, prints_done, wants_it}
use Rattle.hx_scene.proofs.scene.Scene.print_made.Goals as goal

pub returns-in_err-print_step-clause-prints : goal.returns-in_err-print_step-clause-prints
returns-in_err-print_step-clause-prints g c =
    prints_failed c.from_residual.result (prints_with c.args.roll.now (events.Admin c.args.step.now c.args.did.now) (muted_as c.self.view_is c.if-self.false) (ap (λ s. s.spec) c.self.view_is) c.in_err-print_step.ensures) c.from_residual.ensures.1

pub returns-in_err-print_step-clause-memory : goal.returns-in_err-print_step-clause-memory
returns-in_err-print_step-clause-memory g c = wants_it c.from_residual.result c.from_residual.ensures.1

pub returns-clause-prints : goal.returns-clause-prints
returns-clause-prints g c = prints_done (prints_with c.args.roll.now (events.Admin c.args.step.now c.args.did.now) (muted_as c.self.view_is c.if-self.false) (ap (λ s. s.spec) c.self.view_is) c.in_ok-print_step.ensures)
