-- What controllers do in a world keeps what holds of it.
use Rattle.std.proofs.Common.{ℕ, List}
use Rattle.std.specs.Prelude.{None}
use Rattle.hx_ids.specs.declared.ControllerId.{ControllerId}
use Rattle.hx_cluster.specs.declared.description.Spec.{Spec}
use Rattle.hx_cluster.specs.Valid.{IsValid}
use Rattle.hx_control.specs.Controllers.{Controller, idle_controller}
use Rattle.hx_control.specs.Steps.{Step, Calls, Plans, Refuses, step_of, after_step}
use Rattle.hx_worlds.specs.World.{State, controller_of, with_controller}
use Rattle.hx_worlds.specs.declared.Voice.{Voice}
use Rattle.hx_worlds.specs.Runs.{gives, happened, charged, say}
use Rattle.hx_worlds.specs.Turns
use Rattle.hx_scripted.proofs.Standing.{Last, IsScripted}
use Rattle.hx_scripted.proofs.Keeping.{Keeps, keeps_then, keeps_gives, happens_then, says}
use Rattle.hx_scripted.proofs.Walking.{outcome_told, fault_noted}
use Rattle.hx_scripted.proofs.Taking.{weighed_there}
use Rattle.hx_scripted.proofs.Stepping.{IsNext, next_there, call_there, plan_there, fault_there}

-- what holds of a state
abbrev pub Stands : Spec → Last → State → Type 0
Stands spec last x = IsScripted spec last x.world

module _ (spec : Spec) (valid : IsValid spec) (last : Last) where
  -- a line is said
  pub keeps_line : (charge : ℕ) (text : List ℕ) (x : State) → Stands spec last x → Keeps (Stands spec last) (say charge text x)
  keeps_line charge text x s = says (Stands spec last) charge text x s (λ room. weighed_there spec last x.world (charged charge x).world.weight s)

  -- steps and calls
  step_made : (v : Voice) (k : Controller) (step : Step) (x : State) → Stands spec last x → IsNext spec x.world k step → Keeps (Stands spec last) (Turns.stepped v k step x)
  step_made v k (Calls e o) x s n =
      let y = with_controller (after_step x.world.cluster k (Calls e o)) (happened e x) in
      happens_then (Stands spec last) e x _ s
      (λ room. keeps_then (Stands spec last) (Turns.tell_outcome v k.id o y) (λ z. gives z o) (outcome_told (Stands spec last) keeps_line v k.id o y (call_there spec last x k e o s n))
      (λ z there. keeps_gives (Stands spec last) z o there))
  step_made v k (Plans p) x s n = record { left = plan_there spec last x k p s n }
  step_made v k (Refuses f) x s n =
      let y = with_controller (idle_controller k.id) x in
      keeps_then (Stands spec last) (Turns.note_fault v f y) (λ z. gives z None) (fault_noted (Stands spec last) keeps_line v f y (fault_there spec last x k.id s)) (λ z there. keeps_gives (Stands spec last) z None there)

  pub keeps_step : (v : Voice) (k : ControllerId) (x : State) → Stands spec last x → Keeps (Stands spec last) (Turns.step v k x)
  keeps_step v k x s =
      step_made v (controller_of x.world k) (step_of x.world.spec x.world.cluster (controller_of x.world k)) x s (next_there spec last x.world k valid s)
