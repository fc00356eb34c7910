-- Plans that send nothing.
use Rattle.std.specs.Prelude.{◌≡◌, true, not, List, [], map}
use Rattle.std.specs.List.{list_all}
use Rattle.hx_model.specs.declared.ModelParts.{ModelParts}
use Rattle.hx_cluster.specs.declared.planning.View.{View}
use Rattle.hx_select.specs.Selection.{has_room, full}
use Rattle.hx_pass.specs.Plans.{all_candidates, selection_of}

-- nothing is accepted either: no candidate has room, and each is full, with the count of the view
pub record IsAllFull (models : List ModelParts) (view : View) : Type 0 where
  pub accepted : (selection_of models view).accepted ≡ []
  pub roomless : list_all (λ x. not (has_room models view [] x)) (all_candidates models view) ≡ true
  pub full : (selection_of models view).full
      ≡ map (full models view []) (all_candidates models view)
