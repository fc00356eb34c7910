-- Candidates and messages that lead replicas towards their goals.
use Rattle.std.specs.Prelude.{◌≡◌, Bool, true, false, ◌==◌, ◌&&◌, List, find, Some}
use Rattle.std.specs.List.{list_any}
use Rattle.hx_ids.specs.declared.InstanceId.{InstanceId}
use Rattle.hx_ids.specs.declared.SessionId.{SessionId}
use Rattle.hx_ids.specs.declared.PartId.{PartId}
use Rattle.hx_model.specs.declared.ModelParts.{ModelParts}
use Rattle.hx_cluster.specs.declared.description.Resource.{Resource}
use Rattle.hx_cluster.specs.declared.state.Message.{Message}
use Rattle.hx_cluster.specs.declared.planning.View.{View}
use Rattle.hx_cluster.specs.declared.state.Cluster.{Cluster}
use Rattle.hx_cluster.specs.declared.planning.Target.{Target}
use Rattle.hx_cluster.specs.declared.planning.Candidate.{Candidate}
use Rattle.hx_cluster.specs.Ends.{part_eq, state_of, resource_at, model_at}
use Rattle.hx_cluster.specs.Steps.{is_error}
use Rattle.hx_cluster.specs.Reads.{live_shown, ideals_shown}
use Rattle.hx_best.specs.Targets.{is_shown_as, target, all_targets}
use Rattle.hx_gen.specs.Candidates.{is_at_goal, hop_of, candidate_of}
use Rattle.hx_pass.specs.Explained.{view_at}

-- the target of a replica
abbrev pub is_target_for : SessionId → PartId → Target → Bool
is_target_for s p t = (t.session.0 == s.0) && part_eq t.part p

-- a candidate is that of its replica's target
pub record IsOfItsTarget (models : List ModelParts) (view : View) (x : Candidate) : Type 0 where
  pub target : Target
  pub own : find (is_target_for x.session x.part) (all_targets models view) ≡ Some target
  pub made : candidate_of models view target ≡ Some x

-- the target of a message's replica isn't at its goal, and the message leads where its next
-- transition does
abbrev pub target_at : Cluster → SessionId → PartId → Resource → InstanceId → Target
target_at c s p r i = target c.models (view_at c) r p (s, i)

pub record IsOnItsWay (c : Cluster) (m : Message) : Type 0 where
  pub resource : Resource
  pub instance : InstanceId
  pub there : resource_at c.resources m.part.resource ≡ Some resource
  pub shown : list_any (is_shown_as m.session instance) (live_shown c) ≡ true
  pub away : is_at_goal (model_at c.models resource.model)
      (target_at c m.session m.part resource instance) ≡ false
  pub hop : Candidate
  pub next : hop_of (model_at c.models resource.model)
      (target_at c m.session m.part resource instance) ≡ Some hop
  pub to : hop.to ≡ m.to

-- a later cluster has the same sessions and ideals, and the same replicas in ERROR
pub record HasSameGoals (c d : Cluster) : Type 0 where
  pub models : d.models ≡ c.models
  pub live : live_shown d ≡ live_shown c
  pub ideals : ideals_shown d ≡ ideals_shown c
  pub errors : (s : SessionId) (p : PartId)
      → is_error (state_of d.rows s p) ≡ is_error (state_of c.rows s p)
