-- What holds at each place of a history.
use Rattle.std.specs.Prelude.{◌≡◌, List, ◌++◌}
use Rattle.hx_ids.specs.declared.ControllerId.{ControllerId}
use Rattle.hx_cluster.specs.declared.description.Spec.{Spec}
use Rattle.hx_cluster.specs.declared.happenings.Event.{Event}
use Rattle.hx_cluster.specs.Steps.{opening}
use Rattle.hx_cluster.specs.Events.{replay}
use Rattle.hx_cluster.specs.Safe.{IsSafe}
use Rattle.hx_cluster.specs.Runs.{IsOneRunEach}
use Rattle.hx_pass.specs.Lawful.{IsLawful}
use Rattle.hx_lawful.specs.Covers.{Covers}
use Rattle.hx_lawful.specs.Unrefused.{IsUnrefused}

-- the cluster is safe, and each message that was taken has one run, legal and alone
pub record HoldsOfLegal (spec : Spec) (h : List Event) : Type 0 where
  pub safe : IsSafe (replay (opening spec) h)
  pub runs : IsOneRunEach (opening spec) h

-- and where it is lawful, what each controller was shown covers the board while its epoch and pass
-- stand, and no dispatch so far was refused a proposal
pub record HoldsOfLawful (spec : Spec) (h : List Event) : Type 0 where
  pub legal : HoldsOfLegal spec h
  pub covered : (k : ControllerId) → Covers spec h k
  pub unrefused : IsUnrefused h

-- a history is lawful, and so all of this holds at each place of it
pub record IsSound (spec : Spec) (history : List Event) : Type 0 where
  pub lawful : IsLawful spec history
  pub holds : (h more : List Event) → history ≡ h ++ more → HoldsOfLawful spec h
