use Rattle.std.proofs.Common.{◌≡◌, sym}
use Rattle.serde_json.specs.View.{view, items_view}
use Rattle.serde_json.specs.Find.{as_array}
use Rattle.std.specs.Prelude.{Some}
use Rattle.hx_forms.proofs.Lists.{data_of-items_of}
use Rattle.hx_forms.proofs.arrays.array.Goals as goal

pub returns-in-Some : goal.returns-in-Some
returns-in-Some c =
    let is : as_array (view c.args.value.now) ≡ Some (items_view c.in-Some.items.now.items) = sym c.in-Some.ensures in
    rw (is, data_of-items_of, c.as_slice.ensures.value)
