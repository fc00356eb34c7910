-- Candidates that fit a view together.
use Rattle.std.specs.Prelude.{◌≡◌, ◌≤◌, Bool, true, not, ◌==◌, List}
use Rattle.std.specs.List.{All, list_all}
use Rattle.hx_lists.specs.Lists.{count}
use Rattle.hx_ids.specs.declared.SessionId.{SessionId}
use Rattle.hx_ids.specs.declared.PartId.{PartId}
use Rattle.hx_model.specs.declared.ModelParts.{ModelParts}
use Rattle.hx_cluster.specs.declared.planning.View.{View}
use Rattle.hx_cluster.specs.declared.planning.Candidate.{Candidate}
use Rattle.hx_lawful.specs.Gate.{IsFit, is_for}

-- a candidate leads to another state than the one that it leaves
abbrev pub leads_elsewhere : Candidate → Bool
leads_elsewhere x = not (x.to.0 == x.from.0)

-- each candidate fits the view and leads elsewhere, and a session has at most one of a part
pub record AreFit (models : List ModelParts) (view : View) (xs : List Candidate) : Type 0 where
  pub each : All (IsFit models view) xs
  pub elsewhere : list_all leads_elsewhere xs ≡ true
  pub single : (s : SessionId) (p : PartId) → count (is_for s p) xs ≤ 1
