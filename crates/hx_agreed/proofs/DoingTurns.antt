-- What controllers do in a world keeps it in step.
use Rattle.std.proofs.Common.{ℕ, ◌+◌, ◌≤◌, ◌∙◌, List}
use Rattle.std.specs.Prelude.{Option, None}
use Rattle.hx_ids.specs.declared.ControllerId.{ControllerId}
use Rattle.hx_cluster.specs.declared.description.Spec.{Spec}
use Rattle.hx_cluster.specs.declared.planning.Plan.{Plan}
use Rattle.hx_cluster.specs.declared.happenings.Event.{Event}
use Rattle.hx_cluster.specs.Weight.{weight_of}
use Rattle.hx_cluster.specs.Valid.{IsValid}
use Rattle.hx_control.specs.declared.PassOutcome.{PassOutcome}
use Rattle.hx_control.specs.Controllers.{Controller, idle_controller}
use Rattle.hx_control.specs.Steps.{Step, Calls, Plans, Refuses, step_of, after_step}
use Rattle.hx_worlds.specs.World.{State, controller_of, with_controller}
use Rattle.hx_worlds.specs.declared.Voice.{Voice}
use Rattle.hx_worlds.specs.Runs.{gives, happened, charged, say}
use Rattle.hx_worlds.specs.Turns
use Rattle.hx_scripted.proofs.Keeping.{Keeps, keeps_then, keeps_gives, happens_then, says}
use Rattle.hx_scripted.proofs.Walking.{outcome_told, fault_noted}
use Rattle.hx_scripted.proofs.Taking.{weighed_there}
use Rattle.hx_scripted.proofs.Stepping.{IsNext, next_there, call_there, plan_there, fault_there}
use Rattle.hx_safe.proofs.Ends.{same-self}
use Rattle.hx_scripted.proofs.Standing.{Last}
use Rattle.hx_agreed.proofs.Going.{IsGoing, own_of_board, board_happens}

-- what holds of a state
abbrev pub Stands : Spec → Last → State → Type 0
Stands spec last x = IsGoing spec last x

module _ (spec : Spec) (valid : IsValid spec) (last : Last) where
  -- a line is said
  pub keeps_line : (charge : ℕ) (text : List ℕ) (x : State) → Stands spec last x → Keeps (Stands spec last) (say charge text x)
  keeps_line charge text x s = says (Stands spec last) charge text x s (λ room. record { scripted = weighed_there spec last x.world (charged charge x).world.weight s.scripted; in_step = record { parts = s.in_step.parts; participants = s.in_step.participants; weight = room } })

  -- a turn that is given up
  pub idle_there : (k : ControllerId) (x : State) → Stands spec last x → Stands spec last (with_controller (idle_controller k) x)
  idle_there k x s = record { scripted = fault_there spec last x k s.scripted; in_step = record { parts = s.in_step.parts; participants = s.in_step.participants; weight = s.in_step.weight } }

  -- a call that was made, and a plan
  pub called_there : (k : Controller) (e : Event) (o : Option PassOutcome) (x : State) → Stands spec last x → IsNext spec x.world k (Calls e o) → x.world.weight + weight_of e ≤ x.world.limit
      → Stands spec last (with_controller (after_step x.world.cluster k (Calls e o)) (happened e x))
  called_there k e o x s n room = record {
    scripted = call_there spec last x k e o s.scripted n;
    in_step =
        let b = board_happens spec valid last e x s n.called.step (own_of_board k.id e (n.called.own k.id ∙ same-self k.id.0)) room in
        record { parts = b.parts; participants = b.participants; weight = b.weight };
  }

  pub planned_there : (k : Controller) (p : Plan) (x : State) → Stands spec last x → IsNext spec x.world k (Plans p) → Stands spec last (with_controller (after_step x.world.cluster k (Plans p)) x)
  planned_there k p x s n = record {
    scripted = plan_there spec last x k p s.scripted n;
    in_step = record { parts = s.in_step.parts; participants = s.in_step.participants; weight = s.in_step.weight };
  }

  -- steps and calls
  step_made : (v : Voice) (k : Controller) (step : Step) (x : State) → Stands spec last x → IsNext spec x.world k step → Keeps (Stands spec last) (Turns.stepped v k step x)
  step_made v k (Calls e o) x s n =
      let y = with_controller (after_step x.world.cluster k (Calls e o)) (happened e x) in
      happens_then (Stands spec last) e x _ s
      (λ room. keeps_then (Stands spec last) (Turns.tell_outcome v k.id o y) (λ z. gives z o) (outcome_told (Stands spec last) keeps_line v k.id o y (called_there k e o x s n room))
      (λ z there. keeps_gives (Stands spec last) z o there))
  step_made v k (Plans p) x s n = record { left = planned_there k p x s n }
  step_made v k (Refuses f) x s n =
      let y = with_controller (idle_controller k.id) x in
      keeps_then (Stands spec last) (Turns.note_fault v f y) (λ z. gives z None) (fault_noted (Stands spec last) keeps_line v f y (idle_there k.id x s)) (λ z there. keeps_gives (Stands spec last) z None there)

  pub keeps_step : (v : Voice) (k : ControllerId) (x : State) → Stands spec last x → Keeps (Stands spec last) (Turns.step v k x)
  keeps_step v k x s =
      step_made v (controller_of x.world k) (step_of x.world.spec x.world.cluster (controller_of x.world k)) x s (next_there spec last x.world k valid s.scripted)
