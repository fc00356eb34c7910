-- The plan that the stages make one after the other.
use Rattle.std.proofs.Common.{◌≡◌, List, ap, ◌∙◌}
use Rattle.hx_model.specs.declared.ModelParts.{ModelParts}
use Rattle.hx_cluster.specs.declared.description.Rule.{Rule}
use Rattle.hx_cluster.specs.declared.planning.View.{View}
use Rattle.hx_cluster.specs.declared.planning.Target.{Target}
use Rattle.hx_cluster.specs.declared.planning.Candidate.{Candidate}
use Rattle.hx_cluster.specs.declared.planning.Selection.{Selection}
use Rattle.hx_best.specs.Targets.{all_targets}
use Rattle.hx_gen.specs.Candidates.{candidates}
use Rattle.hx_select.specs.Selection.{selection, accepted_of}
use Rattle.hx_pass.specs.Plans.{all_candidates, selection_of, plan}

-- by the index of a view, and the slices of what the stages before it found
module _ (models : List ModelParts) (view index : View) (same : index ≡ view) where
  pub candidates_is : (read : List Target) (cs : List Candidate) → read ≡ all_targets models view → cs ≡ candidates models index read → cs ≡ all_candidates models view
  candidates_is read cs there is = is ∙ ap (λ (v : View). candidates models v read) same ∙ ap (candidates models view) there

  pub selection_is : (read : List Candidate) (s : Selection) → read ≡ all_candidates models view → s ≡ selection models index read → s ≡ selection_of models view
  selection_is read s there is = is ∙ ap (λ (v : View). selection models v read) same ∙ ap (selection models view) there

  pub accepted_is : (read accepted : List Candidate) → read ≡ all_candidates models view → accepted ≡ accepted_of models index read → accepted ≡ (selection_of models view).accepted
  accepted_is read accepted there is = is ∙ ap (λ (v : View). accepted_of models v read) same ∙ ap (accepted_of models view) there

pub plan_same : (models ms : List ModelParts) (rules rs : List Rule) (view v : View) → ms ≡ models → rs ≡ rules → v ≡ view → plan ms rs v ≡ plan models rules view
plan_same models ms rules rs view v a b c = ap (λ (x : List ModelParts). plan x rs v) a ∙ ap (λ (x : List Rule). plan models x v) b ∙ ap (plan models rules) c
