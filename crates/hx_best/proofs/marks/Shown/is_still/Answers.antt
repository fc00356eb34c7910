use Rattle.std.proofs.Common.{◌≡◌, ◌∙◌, ℕ, false, sym, ap, subst, List, []}
use Rattle.std.specs.Prelude.{slice_index_or}
use Rattle.hx_ids.specs.declared.InstanceId.{InstanceId}
use Rattle.hx_ids.specs.declared.PartId.{PartId}
use Rattle.hx_cluster.specs.declared.description.Resource.{Resource}
use Rattle.hx_cluster.specs.declared.planning.View.{View}
use Rattle.hx_best.specs.Lookups.{IsPlain}
use Rattle.hx_best.specs.Wants.{in_turn, open_instances}
use Rattle.hx_best.specs.Places.{Placing}
use Rattle.hx_best.proofs.Standing.{dropped_still, no_rows, full_still, semi_still, custom_still}
use Rattle.hx_best.proofs.marks.Shown.is_still.Goals as goal
use Rattle.hx_best.proofs.marks.Shown.is_still.Goals.{After-part-part, After-mode}

resource_is : (c : After-part-part) → c.resource-resource.result.now ≡ c.args.self.now.0.resource
resource_is c = c.resource-resource.ensures ∙ ap (λ (x : Placing). x.resource) c.places-2.ensures

pub returns-then-resource : goal.returns-then-resource
returns-then-resource c empty =
    let b = (goal.at.returns-then-resource c).After-part-part in
    dropped_still c.args.self.now.0 c.args.self.now.1 (ap (λ (r : Resource). r.dropped) (sym (resource_is b)) ∙ c.if-resource.true)
    (sym c.rows.ensures ∙ no_rows c.rows.result.now (sym c.is_empty.ensures ∙ empty))

resource_then : (c : After-mode) → c.resource-resource.result.now ≡ c.args.self.now.0.resource
resource_then c = c.resource-resource.ensures ∙ ap (λ (x : Placing). x.resource) c.places-2.ensures

view_then : (c : After-mode) → c.index-index.result.now ≡ c.args.self.now.0.view
view_then c = c.index-index.ensures ∙ ap (λ (x : Placing). x.view) c.places.ensures

kept : (c : After-mode) → c.args.self.now.0.resource.dropped ≡ false
kept c = ap (λ (r : Resource). r.dropped) (sym (resource_then c)) ∙ c.if-resource.false

plain : (c : After-mode) → IsPlain c.args.self.now.0.view.live
plain c = subst (λ (view : View). IsPlain view.live) (view_then c) (c.is_plain.ensures c.if-not-is_plain.false)

mode_is : (c : After-mode) → c.mode.result.now ≡ c.args.self.now.0.resource.ideal.mode
mode_is c = c.mode.ensures.value ∙ ap (λ (r : Resource). r.ideal.mode) (resource_then c)

pub returns-in_ok-fill_turn-in-Full : goal.returns-in_ok-fill_turn-in-Full
returns-in_ok-fill_turn-in-Full c found =
    let b = (goal.at.returns-in_ok-fill_turn-in-Full c).After-mode in
    let turn : c.as_slice.result.now ≡ in_turn (open_instances c.args.self.now.0.view) c.args.self.now.0.resource.ideal.replicas c.args.self.now.1.index =
    c.as_slice.ensures.value ∙ c.in_ok-fill_turn-in-Full.ensures
    ∙ ap (λ (instances : List InstanceId). in_turn instances c.replicas.result c.part-part.result.index) (c.open_instances.ensures ∙ ap open_instances (view_then b))
    ∙ ap (λ (replicas : ℕ). in_turn (open_instances c.args.self.now.0.view) replicas c.part-part.result.index) (c.replicas.ensures.value ∙ ap (λ (r : Resource). r.ideal.replicas) (resource_then b))
    ∙ ap (λ (p : PartId). in_turn (open_instances c.args.self.now.0.view) c.args.self.now.0.resource.ideal.replicas p.index) c.part-part.ensures in
    full_still c.args.self.now.0 c.args.self.now.1 (kept b) (plain b) c.mode.result.now (mode_is b) c.as_slice.result.now c.in-Full.is turn (c.list_stands.ensures found)

pub returns-in-Semi : goal.returns-in-Semi
returns-in-Semi c found =
    let b = (goal.at.returns-in-Semi c).After-mode in
    semi_still c.args.self.now.0 c.args.self.now.1 (kept b) (plain b) c.mode.result.now (mode_is b) c.in-Semi.lists c.items_in.result.now c.in-Semi.is
    (c.items_in.ensures ∙ ap (λ (p : PartId). slice_index_or c.in-Semi.lists p.index []) c.part-part.ensures) (c.list_stands-in-Semi.ensures found)

pub returns-in-Custom : goal.returns-in-Custom
returns-in-Custom c found =
    let b = (goal.at.returns-in-Custom c).After-mode in
    custom_still c.args.self.now.0 c.args.self.now.1 (kept b) (plain b) c.mode.result.now (mode_is b) c.in-Custom.maps c.items_in-in-Custom.result.now c.in-Custom.is
    (c.items_in-in-Custom.ensures ∙ ap (λ (p : PartId). slice_index_or c.in-Custom.maps p.index []) c.part-part.ensures) (c.map_stands.ensures found)
