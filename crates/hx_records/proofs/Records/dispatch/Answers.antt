use Rattle.std.proofs.Common.{◌≡◌, List, length, sym, ap, ◌∙◌}
use Rattle.hx_cluster.specs.declared.state.Cluster.{Cluster}
use Rattle.hx_cluster.specs.declared.happenings.Placed.{Placed}
use Rattle.hx_cluster.specs.declared.happenings.Dispatched.{Dispatched}
use Rattle.hx_cluster.specs.Messages.{next_pass}
use Rattle.hx_cluster.proofs.Rooms.{pass_below}
use Rattle.hx_calls.proofs.Placing.{placed_raised, placed_each, after_raised}
use Rattle.hx_records.specs.Records.{seen}
use Rattle.hx_records.proofs.Reaching.{whole_reached}
use Rattle.hx_records.proofs.Placing.{same_controllers, seen_raised}
use Rattle.hx_records.proofs.Records.dispatch.Goals as goal

pub place_all-requires-clause-kept : goal.place_all-requires-clause-kept
place_all-requires-clause-kept c = (whole_reached c.args.self.now c.requires.reached).kept

pub raise_pass-requires : goal.raise_pass-requires
raise_pass-requires c =
    let same = ap (λ (x : Cluster). x.controllers) (c.self-2.view_is ∙ c.in_ok-placed.ensures.after) ∙ same_controllers c.args.self.now c.args.proposals.now in
    rw (same) (pass_below c.args.self.now.controllers c.args.controller.0 c.requires.room.passes)

pub returns-clause-answer : goal.returns-clause-answer
returns-clause-answer c =
    let change = ap (λ (x : Cluster). x.change) c.self.view_is in
    let placed = c.in_ok-placed.ensures.placed ∙ sym (placed_raised c.args.self.now c.args.controller c.args.proposals.now) in
    (λ i. let d : Dispatched = record { change = change i; placed = placed i } in d)

pub returns-clause-after : goal.returns-clause-after
returns-clause-after c =
    let a = c.self-2.inside in
    ap (λ (x : Cluster). let d : Cluster = record x { live = a.sessions.live; rows = a.slots.rows; mail = a.slots.mail } in d) c.raise_pass.ensures
    ∙ seen_raised a c.args.controller
    ∙ ap (λ (x : Cluster). next_pass x c.args.controller) (c.self-2.view_is ∙ c.in_ok-placed.ensures.after)
    ∙ sym (after_raised c.args.self.now c.args.controller c.args.proposals.now)

pub returns-clause-each : goal.returns-clause-each
returns-clause-each c =
    ap (λ (ps : List Placed). length ps) c.in_ok-placed.ensures.placed ∙ placed_each c.args.self.now c.args.proposals.now
