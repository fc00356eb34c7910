use Rattle.std.proofs.Common.{sym, ◌∙◌}
use Rattle.hx_store.proofs.Nexts.{next_end}
use Rattle.hx_slots.specs.Mirror.{IsNoted}
use Rattle.hx_slots.proofs.Mirroring.{on_ok, is_none, noted_added, noted_opened}
use Rattle.hx_slots.proofs.slot.note_slot.Goals as goal

pub returns-then-branch-clause-ok : goal.returns-then-branch-clause-ok
returns-then-branch-clause-ok c = noted_added c.args.session c.args.slots.now c.args.index.now c.add.new.self c.requires.mirrored c.in_ok-add.ensures.ok

pub returns-clause-ok : goal.returns-clause-ok
returns-clause-ok c =
    let slots = c.args.slots.now in
    let noted = noted_added c.args.session slots c.args.index.now c.add.new.self c.requires.mirrored c.in_ok-add.ensures.ok in
    let none = next_end c.args.session 0 slots (sym (is_none c.next_owned.result (sym c.if-is_some.ensures)) ∙ c.next_owned.ensures.next) in
    on_ok _ (IsNoted c.args.session slots c.open.new.self) (λ puts. noted_opened c.args.session slots c.add.new.self c.open.new.self noted none puts) c.open.result c.open.ensures.ok
