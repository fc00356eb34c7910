use Rattle.std.proofs.Common.{◌≡◌, ◌∙◌, sym, ap, List, Bool, [], slice_index_or}
use Rattle.std.specs.Prelude.{None, Some, option_copied, slice_get}
use Rattle.std.proofs.lemmas.Option.{get_or_from_slice_get}
use Rattle.hx_parts.proofs.Cells.{none_found}
use Rattle.hx_parts.proofs.marks.Marks.of_resource.Goals as goal

pub returns-in-Some : goal.returns-in-Some
returns-in-Some c =
    let found : slice_get c.self.inside.cells c.args.resource.0 ≡ Some c.in-Some.cells.now = sym c.get.ensures ∙ ap option_copied c.in-Some.is in
    c.as_slice.ensures ∙ sym (get_or_from_slice_get c.self.inside.cells c.args.resource.0 c.in-Some.cells.now [] found)
    ∙ ap (λ (cells : List (List Bool)). slice_index_or cells c.args.resource.0 []) c.self.view_is

pub returns-in-None : goal.returns-in-None
returns-in-None c =
    let none : slice_get c.self.inside.cells c.args.resource.0 ≡ None = sym c.get.ensures ∙ ap option_copied c.in-None.is in
    none_found c.self.inside.cells c.args.resource.0 [] none ∙ ap (λ (cells : List (List Bool)). slice_index_or cells c.args.resource.0 []) c.self.view_is
