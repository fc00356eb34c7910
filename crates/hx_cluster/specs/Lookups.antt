-- A resource's model, where it is there.
use Rattle.std.specs.Prelude.{List, Option, slice_get}
use Rattle.std.specs.Option.{option_and_then}
use Rattle.hx_ids.specs.declared.ResourceId.{ResourceId}
use Rattle.hx_model.specs.declared.ModelParts.{ModelParts}
use Rattle.hx_cluster.specs.declared.description.Resource.{Resource}
use Rattle.hx_cluster.specs.Ends.{resource_at}

abbrev pub model_in : List ModelParts → List Resource → ResourceId → Option ModelParts
model_in models resources r = option_and_then (λ x. slice_get models x.model.0) (resource_at resources r)
