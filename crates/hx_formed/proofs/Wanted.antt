-- What a well-formed view shows to be wanted is good.
use Rattle.std.proofs.Common.{◌≡◌, ℕ, true, List, arith}
use Rattle.hx_model.specs.declared.ModelParts.{ModelParts}
use Rattle.hx_cluster.specs.declared.planning.View.{View}
use Rattle.hx_cluster.specs.Views.{is_well_formed}
use Rattle.hx_formed.specs.Wanted.{are_good_ideals}

pub ideals_good : (models : List ModelParts) (instances : ℕ) (view : View) → is_well_formed models instances view ≡ true → are_good_ideals models instances view.ideals ≡ true
ideals_good models instances view formed = grind (arith, formed)
