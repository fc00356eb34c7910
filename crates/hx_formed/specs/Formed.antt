-- What was found of a view.
use Rattle.std.specs.Prelude.{◌≡◌, ℕ, true, List, map, Option, Some}
use Rattle.hx_ids.specs.declared.StateId.{StateId}
use Rattle.hx_model.specs.declared.ModelParts.{ModelParts}
use Rattle.hx_model.specs.Model.{states_of}
use Rattle.hx_cluster.specs.declared.planning.View.{View}
use Rattle.hx_cluster.specs.Views.{is_well_formed}

-- what it depends on beside the view: the states of the description's models, and how many instances there are
pub record Setting : Type 0 where
  pub states : List (List StateId)
  pub instances : ℕ

abbrev pub setting_of : List ModelParts → ℕ → Setting
setting_of models instances = record { states = map states_of models; instances = instances }

-- a view is well formed with each description of that setting
pub record IsFound (found : Option Setting) (view : View) : Type 0 where
  pub holds : (models : List ModelParts) → (instances : ℕ) → found ≡ Some (setting_of models instances) → is_well_formed models instances view ≡ true
