use Rattle.std.proofs.Common.{List, subst, ◌≡◌}
use Rattle.std.specs.Prelude.{IfOk}
use Rattle.hx_cluster.specs.declared.description.Failure.{Failure}
use Rattle.hx_app.specs.Simulation.{staff_from}
use Rattle.hx_app.proofs.simulation.staff_of.Goals as goal

pub returns : goal.returns
returns c = subst (λ (lists : List (List Failure)). IfOk c.participants_of.result (λ staff. staff.items ≡ staff_from 0 lists)) c.in_ok-lists.ensures.lists c.participants_of.ensures
