use Rattle.std.proofs.Common.{◌≡◌, ◌∙◌, sym, ap, List, []}
use Rattle.std.specs.Prelude.{slice_index_or}
use Rattle.hx_ids.specs.declared.InstanceId.{InstanceId}
use Rattle.hx_ids.specs.declared.PartId.{PartId}
use Rattle.hx_cluster.specs.declared.description.Resource.{Resource}
use Rattle.hx_ideal.specs.declared.Mode.TheVariants as modes
use Rattle.hx_best.specs.Wants.{Listed}
use Rattle.hx_best.specs.Places.{Placing}
use Rattle.hx_best.proofs.Standing.{wants_is}
use Rattle.hx_best.proofs.marks.Shown.add_listed.Goals as goal
use Rattle.hx_best.proofs.marks.Shown.add_listed.Goals.{After-mode}

mode_is : (c : After-mode) → c.mode.result.now ≡ c.args.self.now.0.resource.ideal.mode
mode_is c = c.mode.ensures.value ∙ ap (λ (r : Resource). r.ideal.mode) (c.resource.ensures ∙ ap (λ (x : Placing). x.resource) c.places.ensures)

pub add_all_or_none-requires-clause-list : goal.add_all_or_none-requires-clause-list
add_all_or_none-requires-clause-list c =
    let yes = c.if-not-is_simple.false in
    wants_is c.args.self.now.0 c.args.self.now.1 (c.is_simple.ensures.kept yes) (c.is_simple.ensures.plain yes) c.mode.result.now (mode_is (goal.at.add_all_or_none-requires-clause-list c).After-mode) modes.Full c.in-Full.is
    ∙ ap (λ (list : List InstanceId). Listed list) (sym (c.as_slice.ensures.value ∙ c.in_ok-fill_list-in-Full.ensures))

pub add_all_or_none-requires-in-Semi-clause-list : goal.add_all_or_none-requires-in-Semi-clause-list
add_all_or_none-requires-in-Semi-clause-list c =
    let yes = c.if-not-is_simple.false in
    wants_is c.args.self.now.0 c.args.self.now.1 (c.is_simple.ensures.kept yes) (c.is_simple.ensures.plain yes) c.mode.result.now (mode_is (goal.at.add_all_or_none-requires-in-Semi-clause-list c).After-mode) (modes.Semi c.in-Semi.lists) c.in-Semi.is
    ∙ ap (λ (list : List InstanceId). Listed list) (sym (c.items_in.ensures ∙ ap (λ (p : PartId). slice_index_or c.in-Semi.lists p.index []) c.part.ensures))
