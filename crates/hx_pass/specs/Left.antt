-- How far the replicas of a cluster are from their goals.
use Rattle.std.specs.Prelude.{ℕ, if◌then◌else◌, unwrap_or}
use Rattle.std.specs.List.{sum_by}
use Rattle.hx_model.specs.declared.ModelParts.{ModelParts}
use Rattle.hx_model.specs.Walks.{dist}
use Rattle.hx_cluster.specs.declared.state.Cluster.{Cluster}
use Rattle.hx_cluster.specs.declared.planning.Target.{Target}
use Rattle.hx_cluster.specs.Ends.{model_of}
use Rattle.hx_best.specs.Targets.{all_targets}
use Rattle.hx_gen.specs.Candidates.{is_at_goal}
use Rattle.hx_pass.specs.Explained.{view_at}

-- how many transitions a replica is from its goal
abbrev pub steps_left : ModelParts → Target → ℕ
steps_left m t = if is_at_goal m t then 0 else dist m (unwrap_or t.state m.initial) t.goal

-- and all replicas together. One that isn't there and isn't wanted is at its goal
abbrev pub left_of : Cluster → ℕ
left_of c = sum_by (λ t. steps_left (model_of c.models c.resources t.part.resource) t) (all_targets c.models (view_at c))
