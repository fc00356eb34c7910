-- The next transitions of targets that aren't at their goals.
use Rattle.std.specs.Prelude.{◌≡◌, ◌+◌, true, false, ◌==◌, List, Some}
use Rattle.std.specs.List.{All}
use Rattle.hx_model.specs.declared.ModelParts.{ModelParts}
use Rattle.hx_model.specs.Model.{error, dropped, is_legal}
use Rattle.hx_model.specs.Walks.{dist}
use Rattle.hx_cluster.specs.declared.planning.View.{View}
use Rattle.hx_cluster.specs.declared.planning.Target.{Target}
use Rattle.hx_cluster.specs.declared.planning.Candidate.{Candidate}
use Rattle.hx_cluster.specs.Ends.{model_of}
use Rattle.hx_best.specs.Targets.{all_targets}
use Rattle.hx_gen.specs.Candidates.{is_at_goal, hop_of}

-- the next transition towards the goal: it is legal, and one nearer. It leads to DROPPED only where
-- that is the goal, and never to ERROR
pub record IsHop (m : ModelParts) (t : Target) (x : Candidate) : Type 0 where
  pub next : hop_of m t ≡ Some x
  pub legal : is_legal m x.from x.to ≡ true
  pub nearer : dist m x.to t.goal + 1 ≡ dist m x.from t.goal
  pub drops : (x.to.0 == dropped.0) ≡ true → (t.goal.0 == dropped.0) ≡ true
  pub plain : (x.to.0 == error.0) ≡ false

-- a target has one, unless it is at its goal
abbrev pub HasHop : ModelParts → Target → Type 0
HasHop m t = is_at_goal m t ≡ false → (x : Candidate) × IsHop m t x

-- all targets of a view have
abbrev pub HaveHops : List ModelParts → View → Type 0
HaveHops models view =
    All (λ t. HasHop (model_of models view.ideals.resources t.part.resource) t)
    (all_targets models view)
