-- What holds of each checked model.
use Rattle.std.specs.Prelude.{◌≡◌, ℕ, ◌≤◌, ◌<◌, ◌^◌, List, length, take, None}
use Rattle.hx_ids.specs.declared.StateId.{StateId}
use Rattle.hx_model.specs.declared.ModelParts.{ModelParts}
use Rattle.hx_model.specs.Model.{states_of}
use Rattle.hx_model.specs.Faults.{fault_of}

-- it has no fault, its states stand apart too, and the places of its transitions fit their type
pub record IsChecked (parts : ModelParts) (order : List StateId) (count : ℕ) : Type 0 where
  pub sound : fault_of parts ≡ None
  pub apart : take count order ≡ states_of parts
  pub room : (count ≤ 16) × (length order ≡ 16)
  pub ranks : length parts.transitions < 2 ^ 32
