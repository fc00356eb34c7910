-- What is shown to be wanted is good.
use Rattle.std.specs.Prelude.{ℕ, Bool, ◌==◌, ◌&&◌, nat_le, List, length}
use Rattle.std.specs.List.{list_all}
use Rattle.hx_model.specs.declared.ModelParts.{ModelParts}
use Rattle.hx_cluster.specs.declared.planning.Ideals.{Ideals}
use Rattle.hx_cluster.specs.Views.{is_good_resource}

-- no more resources than there may be, each a good one, and an entry for each instance
abbrev pub are_good_ideals : List ModelParts → ℕ → Ideals → Bool
are_good_ideals models instances ideals =
    nat_le (length ideals.resources) 256
    && (length ideals.drained == instances)
    && list_all (is_good_resource models instances) ideals.resources
