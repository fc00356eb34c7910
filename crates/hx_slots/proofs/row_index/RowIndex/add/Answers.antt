use Rattle.std.proofs.Common.{refl}
use Rattle.hx_slots.specs.Index.{one_more}
use Rattle.hx_slots.proofs.Calls.{on_err}
use Rattle.hx_slots.proofs.Mirroring.{written, unwritten}
use Rattle.hx_slots.proofs.row_index.RowIndex.add.Goals as goal

pub returns-in_err-add_slot-clause-err : goal.returns-in_err-add_slot-clause-err
returns-in_err-add_slot-clause-err c =
    let w = c.add_slot.new.self in
    on_err _
    (unwritten c.args.session c.in-Some.kept.now w c.self.inside.lists.entries (c.get_mut.follows.lender w).entries c.args.self.now c.self.view_is c.in-Some.ensures.value c.in_err-add_slot.ensures.err
    ((c.get_mut.follows.holds w).3 (rw (← c.in-Some.ensures.value) refl)).0)

pub returns-clause-ok : goal.returns-clause-ok
returns-clause-ok c =
    let w = c.add_slot.new.self in
    written one_more c.args.session c.in-Some.kept.now w c.self.inside.lists.entries (c.get_mut.follows.lender w).entries c.args.self.now c.self.view_is c.in-Some.ensures.value c.in_ok-add_slot.ensures.ok
    ((c.get_mut.follows.holds w).3 (rw (← c.in-Some.ensures.value) refl)).0
