-- What the laws of safety need of a description. A valid one has it.
use Rattle.std.specs.Prelude.{◌≡◌, true}
use Rattle.std.specs.List.{list_all}
use Rattle.hx_cluster.specs.declared.description.Spec.{Spec}
use Rattle.hx_cluster.specs.Valid.{has_no_fault}

-- no model has a fault
pub record IsSound (spec : Spec) : Type 0 where
  pub models : list_all has_no_fault spec.models ≡ true
