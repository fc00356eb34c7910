-- A step of a controller's turn by itself keeps a world of its history, and in step.
use Rattle.std.proofs.Common.{◌∙◌}
use Rattle.std.specs.Prelude.{Ok}
use Rattle.hx_ids.specs.declared.ControllerId.{ControllerId}
use Rattle.hx_cluster.specs.declared.description.Spec.{Spec}
use Rattle.hx_cluster.specs.Valid.{IsValid}
use Rattle.hx_control.specs.Controllers.{Controller}
use Rattle.hx_control.specs.Steps.{Step, Calls, Plans, Refuses, step_of, after_step}
use Rattle.hx_worlds.specs.World.{State, controller_of, with_controller}
use Rattle.hx_worlds.specs.Runs.{gives}
use Rattle.hx_safe.proofs.Ends.{same-self}
use Rattle.hx_scripted.proofs.Keeping.{Keeps, happens_then}
use Rattle.hx_scripted.proofs.Stepping.{IsNext, next_there, call_there, plan_there, fault_there}
use Rattle.hx_scripted.proofs.Standing.{Last}
use Rattle.hx_agreed.proofs.Going.{IsGoing, own_of_board, board_happens}
use Rattle.hx_scene.specs.Advances.{advanced, advance}

module _ (spec : Spec) (valid : IsValid spec) (last : Last) where
  advance_made : (k : Controller) (step : Step) (x : State) → IsGoing spec last x → IsNext spec x.world k step → Keeps (IsGoing spec last) (advanced k step x)
  advance_made k (Calls e o) x s n =
      happens_then (IsGoing spec last) e x (λ y. gives (with_controller (after_step x.world.cluster k (Calls e o)) y) (Ok o)) s
      (λ room. record {
        left = record {
          scripted = call_there spec last x k e o s.scripted n;
          in_step =
              let b = board_happens spec valid last e x s n.called.step (own_of_board k.id e (n.called.own k.id ∙ same-self k.id.0)) room in
              record { parts = b.parts; participants = b.participants; weight = b.weight };
        };
      })
  advance_made k (Plans p) x s n = record { left = record { scripted = plan_there spec last x k p s.scripted n; in_step = record { parts = s.in_step.parts; participants = s.in_step.participants; weight = s.in_step.weight } } }
  advance_made k (Refuses f) x s n = record { left = record { scripted = fault_there spec last x k.id s.scripted; in_step = record { parts = s.in_step.parts; participants = s.in_step.participants; weight = s.in_step.weight } } }

  pub keeps_advance : (k : ControllerId) (x : State) → IsGoing spec last x → Keeps (IsGoing spec last) (advance k x)
  keeps_advance k x s = advance_made (controller_of x.world k) (step_of x.world.spec x.world.cluster (controller_of x.world k)) x s (next_there spec last x.world k valid s.scripted)
