use Rattle.std.proofs.Common.{◌≡◌, ◌+◌, ◌*◌, ◌<◌, length, get_or, None, ap, ◌∙◌}
use Rattle.hx_model.specs.declared.ModelParts.{ModelParts}
use Rattle.hx_hops.specs.declared.Way.{Way}
use Rattle.hx_hops.specs.Hops.{is_from, is_goal}
use Rattle.hx_hops.specs.Table.{way_of}
use Rattle.hx_hops.proofs.Table.{looked_up_in}
use Rattle.hx_hops.proofs.Hops.look_up.Goals as goal
use Rattle.hx_hops.proofs.Hops.look_up.Goals.{After-as_slice}

-- the entry of the two states is within the table, and theirs
entry : (c : After-as_slice)
    → (c.place_in-row.result * c.self.inside.width + c.place_in-column.result < length c.as_slice.result.now)
    × (get_or c.as_slice.result.now (c.place_in-row.result * c.self.inside.width + c.place_in-column.result) (record { dist = 0; hop = None }) ≡ way_of c.self.inside.model c.args.from c.args.goal)
entry c =
    let from = ap (λ (m : ModelParts). is_from m c.args.from) c.self.view_is ∙ c.requires.from in
    let goal = ap (λ (m : ModelParts). is_goal m c.args.goal) c.self.view_is ∙ c.requires.goal in
    let none : Way = record { dist = 0; hop = None } in
    looked_up_in c.self.inside.model c.self.inside.places c.self.inside.width c.self.inside.ways.items c.as_slice.result.now c.args.from c.args.goal c.place_in-row.result c.place_in-column.result none c.as_slice.ensures.value c.self.invariant c.place_in-row.ensures.bytes.0 c.place_in-column.ensures.bytes.0 c.place_in-row.ensures.place c.place_in-column.ensures.place from goal

pub bounds-as_slice-row : goal.bounds-as_slice-row
bounds-as_slice-row c = (entry (goal.at.bounds-as_slice-row c).After-as_slice).0

pub returns-clause-way : goal.returns-clause-way
returns-clause-way c = (entry (goal.at.returns-clause-way c).After-as_slice).1 ∙ ap (λ (m : ModelParts). way_of m c.args.from c.args.goal) c.self.view_is
