-- How a settle ends.
use Rattle.std.specs.Prelude.{◌≡◌, ℕ, ◌≤◌, Option, None, Some, IsSomeAnd}
use Rattle.hx_ids.specs.declared.ControllerId.{ControllerId}
use Rattle.hx_cluster.specs.declared.state.Cluster.{Cluster}
use Rattle.hx_cluster.specs.declared.planning.Report.{Report}
use Rattle.hx_pass.specs.Explained.{IsExplained}
use Rattle.hx_worlds.specs.declared.Settled.{Settled}
use Rattle.hx_worlds.specs.World.{State}
use Rattle.hx_worlds.specs.Runs.{Run, GoesOn, Stops}
use Rattle.hx_worlds.specs.Settles.{enough_rounds}

-- what holds of the answer and the state of a run that goes on. Of one that stops, as the history
-- has no room, nothing is said
abbrev pub OfGoing : {A : Type 0} → (A → State → Type 0) → Run A → Type 0
OfGoing P (GoesOn items x answer) = P answer x
OfGoing P (Stops items x) = Unit {0}

pub record IfGoesOn {A : Type 0} (P : A → State → Type 0) (r : Run A) : Type 0 where
  pub to : OfGoing P r

-- it has settled, in at most so many rounds, and its report explains the cluster that it leaves
pub record HasSettled (most : ℕ) (y : State) (s : Settled) : Type 0 where
  pub report : Report
  pub told : s.report ≡ Some report
  pub passes : s.passes ≤ most
  pub explained : IsExplained y.world.cluster report

-- where nobody leads there is no answer; and else it has settled, in no more rounds than are enough
-- for the cluster that it began with
abbrev pub IsEnd : Cluster → Option ControllerId → Option Settled → State → Type 0
IsEnd c None answer y = answer ≡ None
IsEnd c (Some k) answer y = IsSomeAnd answer (HasSettled (enough_rounds c) y)
