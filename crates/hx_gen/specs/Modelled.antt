-- Views whose resources have models.
use Rattle.std.specs.Prelude.{Bool, nat_lt, List, length}
use Rattle.std.specs.List.{list_all}
use Rattle.hx_model.specs.declared.ModelParts.{ModelParts}
use Rattle.hx_cluster.specs.declared.planning.View.{View}

-- whether each resource of a view has one of the models, as in every view that is well formed
abbrev pub has_models : List ModelParts → View → Bool
has_models models view = list_all (λ r. nat_lt r.model.0 (length models)) view.ideals.resources
