use Rattle.std.proofs.Common.{List, Option, length, ap, ◌∙◌, arith}
use Rattle.std.proofs.lemmas.Grind.{common_steps}
use Rattle.hx_ids.specs.declared.SessionId.{SessionId}
use Rattle.hx_cluster.specs.declared.state.Cluster.{Cluster}
use Rattle.hx_records.proofs.Reaching.{whole_reached}
use Rattle.hx_records.proofs.Sitting.{shown_from, shown_all, seats_sorted, few_instances}
use Rattle.hx_records.proofs.Records.read_live.Goals as goal

pub overflow_cast-place : goal.overflow_cast-place
overflow_cast-place c =
    let few = few_instances c.args.self.now c.requires in
    let places = c.self.invariant.places in
    let same = ap (λ (x : Cluster). length x.instances) c.self.view_is in
    let items = ap (λ (xs : List (Option SessionId)). length xs) c.as_slice-seat-items.ensures in
    omega (arith, few, places, same, items, c.loop-place-test.true)

pub returns : goal.returns
returns c =
    let items = c.as_slice-seat-items.result.now in
    let whole = whole_reached c.args.self.now c.requires in
    shown_all c.loop-place.shown.items _ items c.loop-place.place (omega (arith, c.loop-place-test.false)) c.loop-place.invariant
    ∙ ap (shown_from 0) c.as_slice-seat-items.ensures
    ∙ rw (← c.self.view_is) (seats_sorted c.self.inside.sessions.live c.self.inside.seats c.self.invariant.seats (rw (← c.self.view_is) at whole.seated.instances))

pub loop-place-preserved : goal.loop-place-preserved
loop-place-preserved c = grind (arith, common_steps)
