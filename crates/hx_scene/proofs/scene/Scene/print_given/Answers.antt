use Rattle.std.proofs.Common.{ap}
use Rattle.hx_scene.specs.Advances.{no_roll}
use Rattle.hx_scene.proofs.Fronts.{muted_as}
use Rattle.hx_scene.proofs.Happening.{prints_with, prints_failed, prints_done, wants_it}
use Rattle.hx_scene.proofs.scene.Scene.print_given.Goals as goal

pub returns-in_err-print_event-clause-prints : goal.returns-in_err-print_event-clause-prints
returns-in_err-print_event-clause-prints g c =
    prints_failed c.from_residual.result (prints_with no_roll c.args.event.now (muted_as c.self.view_is c.if-self.false) (ap (λ s. s.spec) c.self.view_is) (rw c.no_roll.ensures at c.in_err-print_event.ensures)) c.from_residual.ensures.1

pub returns-in_err-print_event-clause-memory : goal.returns-in_err-print_event-clause-memory
returns-in_err-print_event-clause-memory g c = wants_it c.from_residual.result c.from_residual.ensures.1

pub returns-clause-prints : goal.returns-clause-prints
returns-clause-prints g c = prints_done (prints_with no_roll c.args.event.now (muted_as c.self.view_is c.if-self.false) (ap (λ s. s.spec) c.self.view_is) (rw c.no_roll.ensures at c.in_ok-print_event.ensures))
