-- The rounds of a settle.
use Rattle.std.specs.Prelude.{◌≡◌, ◌<◌, ℕ, false, [], Option, Some}
use Rattle.hx_ids.specs.declared.InstanceId.{InstanceId}
use Rattle.hx_ids.specs.declared.ControllerId.{ControllerId}
use Rattle.hx_ids.specs.declared.PartId.{PartId}
use Rattle.hx_cluster.specs.declared.description.Spec.{Spec}
use Rattle.hx_cluster.specs.declared.state.Message.{Message}
use Rattle.hx_cluster.specs.declared.planning.Report.{Report}
use Rattle.hx_cluster.specs.Ends.{is_live}
use Rattle.hx_pass.specs.Explained.{IsExplained}
use Rattle.hx_replicas.specs.declared.slots.Work.TheVariants.{Accepted}
use Rattle.hx_replicas.specs.Participants.{slot_of}
use Rattle.hx_control.specs.declared.PassOutcome.{PassOutcome}
use Rattle.hx_control.specs.declared.PassOutcome.TheVariants as ends
use Rattle.hx_worlds.specs.World.{World, State, participant_of}
use Rattle.hx_worlds.specs.Turns.{left_of}
use Rattle.hx_worlds.specs.Settles.{work_all}
use Rattle.hx_scripted.specs.OfHistory.{IsOfItsHistory}
use Rattle.hx_agreed.specs.InStep.{Each, IsInStep}
use Rattle.hx_bounded.specs.Ending.{IfGoesOn}
use Rattle.hx_bounded.specs.Measure.{work_left}

-- a world of its history that is in step
pub record IsSound (spec : Spec) (w : World) : Type 0 where
  pub of : IsOfItsHistory spec w
  pub in_step : IsInStep w

-- no message is pending; and of a live session no job is open and no message is accepted
pub record HasNothingToDo (w : World) : Type 0 where
  pub mail : w.cluster.mail ≡ []
  pub jobs : Each (λ j. is_live w.cluster.live j.message.session ≡ false) w.jobs
  pub accepted : (i : InstanceId) (q : PartId) (m : Message)
      → (slot_of (participant_of w i) q).work ≡ Accepted m
      → is_live w.cluster.live m.session ≡ false

-- between rounds nothing is pending, and the leader has no turn under way
pub record IsBetweenRounds (spec : Spec) (k : ControllerId) (x : State) : Type 0 where
  pub sound : IsSound spec x.world
  pub leads : x.world.cluster.leader ≡ Some k
  pub idle : left_of x k ≡ []
  pub rest : HasNothingToDo x.world

-- what holds of a turn's report, if the turn settled, and else
abbrev pub by_outcome : (Report → Type 0) → Type 0 → Option PassOutcome → Type 0
by_outcome settled otherwise (Some (ends.Settled report)) = settled report
by_outcome settled otherwise _ = otherwise

-- a turn is over: no call of it is left; and if it settled, its report explains the cluster
pub record IsOver (k : ControllerId) (o : Option PassOutcome) (y : State) : Type 0 where
  pub idle : left_of y k ≡ []
  pub report : by_outcome (λ report. IsExplained y.world.cluster report) (Unit {0}) o

-- a round's turn has settled, and explains the cluster; or the round's work leaves less to do
abbrev pub LeavesLess : Spec → ControllerId → ℕ → State → Type 0
LeavesLess spec k work y =
    IfGoesOn (λ _ z. IsBetweenRounds spec k z × (work_left z.world.cluster < work)) (work_all y)

abbrev pub SettlesOrLeavesLess :
    Spec → ControllerId → ℕ → Option PassOutcome → State → Type 0
SettlesOrLeavesLess spec k work o y =
    by_outcome (λ report. IsExplained y.world.cluster report) (LeavesLess spec k work y) o
