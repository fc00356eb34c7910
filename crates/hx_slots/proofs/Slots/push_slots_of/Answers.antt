use Rattle.std.proofs.Common.{◌==◌, List, Some, None, sym, ap, ◌∙◌, ◌≡◌, filter, rules}
use Rattle.std.specs.List.{filter_map}
use Rattle.hx_slots.specs.declared.slot.Slot.{Slot}
use Rattle.hx_slots.specs.Kept.{Kept}
use Rattle.hx_slots.specs.Slots.{row_of}
use Rattle.hx_slots.proofs.RowsOf.{rows-owned}
use Rattle.hx_slots.proofs.Growing.{grows, grows_by, grows_on, has_grown, passed}
use Rattle.hx_slots.proofs.Slots.push_slots_of.Goals as goal

pub loop-slot-init : goal.loop-slot-init
loop-slot-init c =
    grows c.len-before.result c.args.rows.now _ _ c.len-before.ensures
    (ap (λ (xs : List Slot). filter_map row_of xs) (c.into_iter-slot-iterator.ensures.into_iter_gives ∙ c.owned-slot-items.ensures)
    ∙ rows-owned c.self.inside.changes c.args.session c.self.inside.slots c.self.invariant.0.each_slot
    ∙ ap (λ (x : Kept). filter (λ r. r.session.0 == c.args.session.0) x.rows) c.self.view_is)

pub loop-slot-preserved-in-Continue-1 : goal.loop-slot-preserved-in-Continue-1
loop-slot-preserved-in-Continue-1 c =
    grows_by c.in-Some-row.row c.len-before.result c.args.rows.now c.loop-slot.rows c.push_or_cut.new.items _ _ _ c.loop-slot.invariant
    (passed row_of c.in-Some.slot.now (Some c.in-Some-row.row) c.loop-slot.slot-iterator c.next.new.self c.in-Some.ensures.steps (sym c.in-Some-row.ensures)) c.in_ok-push_or_cut.ensures.ok

pub returns-in_err-push_or_cut-clause-err : goal.returns-in_err-push_or_cut-clause-err
returns-in_err-push_or_cut-clause-err c =
    let same : c.push_or_cut.new.items ≡ c.args.rows.now = c.in_err-push_or_cut.ensures.err ∙ c.loop-slot.invariant.1 in
    search (rules, same)

pub loop-slot-preserved : goal.loop-slot-preserved
loop-slot-preserved c =
    grows_on c.len-before.result c.args.rows.now c.loop-slot.rows _ _ _ c.loop-slot.invariant
    (passed row_of c.in-Some.slot.now None c.loop-slot.slot-iterator c.next.new.self c.in-Some.ensures.steps (sym c.in_default.ensures))

pub returns-clause-ok : goal.returns-clause-ok
returns-clause-ok c =
    has_grown c.len-before.result c.args.rows.now c.loop-slot.rows _ _ c.loop-slot.invariant (ap (λ (xs : List Slot). filter_map row_of xs) c.in-None.ensures.steps.0)
