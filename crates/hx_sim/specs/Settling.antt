-- What a settle answers.
use Rattle.std.specs.Prelude.{◌≡◌, ◌≤◌, ℕ, true, List, [], Option, None, Some, is_some, Result, IfOk}
use Rattle.hx_board.specs.declared.faults.RoomFault.{RoomFault}
use Rattle.hx_cluster.specs.declared.state.Cluster.{Cluster}
use Rattle.hx_pass.specs.Explained.{IsExplained}
use Rattle.hx_worlds.specs.declared.Settled.{Settled}
use Rattle.hx_worlds.specs.Settles.{settle, enough_rounds}
use Rattle.hx_scene.specs.Scenes.{SceneState}
use Rattle.hx_scene.specs.Doing.{Does}
use Rattle.hx_sim.specs.declared.settles.Settle.{Settle}
use Rattle.hx_sim.specs.declared.settles.Settle.TheVariants as answers

-- as the definition answers
abbrev pub settled_of : Settle → Option Settled
settled_of answers.NoLeader = None
settled_of (answers.Settled passes report) = Some (record { passes = passes; report = Some report })

-- nobody leads; or it has settled, in no more rounds than are enough for the cluster that it began with, and its report explains the
-- cluster that it leaves
abbrev pub HasEnded : Cluster → Cluster → Settle → Type 0
HasEnded c d answers.NoLeader = c.leader ≡ None
HasEnded c d (answers.Settled passes report) = (is_some c.leader ≡ true) × (passes ≤ enough_rounds c) × IsExplained d report

-- a settle whose log is printed on no page
pub record Settles (s u : SceneState) (result : Result Settle RoomFault) : Type 0 where
  pub log : List ℕ
  pub does : Does (λ x. settle x) settled_of s [] u log result
  pub ended : IfOk result (HasEnded s.board.cluster u.board.cluster)
