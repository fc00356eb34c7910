use Rattle.std.proofs.Common.{◌==◌, not, find, filter, ap, sym, ◌∙◌}
use Rattle.hx_cluster.specs.Ends.{is_row}
use Rattle.hx_cluster.specs.declared.state.Message.{Message}
use Rattle.hx_cluster.specs.declared.state.Row.{Row}
use Rattle.std.specs.Prelude.{List}
use Rattle.hx_slots.specs.Kept.{Kept}
use Rattle.hx_slots.proofs.Calls.{popped_kept, popped_end, popped_bare, popped_row, popped_less}
use Rattle.hx_slots.proofs.Mirroring.{mirrored_forgotten, mirrored_popped}
use Rattle.hx_slots.proofs.Slots.pop_row.Goals as goal

pub loop-slot-init : goal.loop-slot-init
loop-slot-init c =
    let kept = mirrored_forgotten c.args.session c.self.inside.slots c.self.inside.index c.forget.new.self c.self.invariant.1 c.forget.ensures in
    (c.self.invariant.0, ap (λ (x : Kept). x.rows) c.self.view_is, ap (λ (x : Kept). x.mail) c.self.view_is, kept.0, kept.1)

pub invariant_of-self : goal.invariant_of-self
invariant_of-self c =
    let i = c.loop-slot.self-inside in
    let none = ap (λ (ms : List Message). find (λ m. m.session.0 == c.args.session.0) ms) c.loop-slot.invariant.2 ∙ c.requires in (
      popped_kept i.slots c.pop_owned.new.store i.mail i.changes i.paid c.args.session c.in-Some.slot c.loop-slot.invariant.0 none c.in-Some.ensures.popped,
      mirrored_popped c.args.session c.in-Some.slot i.slots c.pop_owned.new.store i.index c.pop_owned.ensures.ordered c.in-Some.ensures.popped c.loop-slot.invariant.3 c.loop-slot.invariant.4,
    )

pub returns-in-Some-row-clause-first : goal.returns-in-Some-row-clause-first
returns-in-Some-row-clause-first c =
    let i = c.loop-slot.self-inside in
    sym (popped_row i.changes i.slots c.pop_owned.new.store c.args.session c.in-Some.slot c.in-Some-row.row c.loop-slot.invariant.0.each_slot c.in-Some.ensures.popped (sym c.in-Some-row.ensures)).0
    ∙ ap (λ (rs : List Row). find (λ r. r.session.0 == c.args.session.0) rs) c.loop-slot.invariant.1

pub returns-in-Some-row-clause-mail : goal.returns-in-Some-row-clause-mail
returns-in-Some-row-clause-mail c = c.loop-slot.invariant.2

pub returns-in-Some-row-clause-rows : goal.returns-in-Some-row-clause-rows
returns-in-Some-row-clause-rows c =
    let i = c.loop-slot.self-inside in
    (popped_row i.changes i.slots c.pop_owned.new.store c.args.session c.in-Some.slot c.in-Some-row.row c.loop-slot.invariant.0.each_slot c.in-Some.ensures.popped (sym c.in-Some-row.ensures)).1
    ∙ ap (λ (rs : List Row). filter (λ x. not (is_row c.args.session c.in-Some-row.row.part x)) rs) c.loop-slot.invariant.1

pub loop-slot-smaller : goal.loop-slot-smaller
loop-slot-smaller c = popped_less c.loop-slot.self-inside.slots c.pop_owned.new.store c.args.session c.in-Some.slot c.in-Some.ensures.popped

pub loop-slot-preserved : goal.loop-slot-preserved
loop-slot-preserved c =
    let i = c.loop-slot.self-inside in
    let none = ap (λ (ms : List Message). find (λ m. m.session.0 == c.args.session.0) ms) c.loop-slot.invariant.2 ∙ c.requires in (
      popped_kept i.slots c.pop_owned.new.store i.mail i.changes i.paid c.args.session c.in-Some.slot c.loop-slot.invariant.0 none c.in-Some.ensures.popped,
      popped_bare i.changes i.slots c.pop_owned.new.store c.args.session c.in-Some.slot c.pop_owned.ensures.ordered c.loop-slot.invariant.0.each_slot c.in-Some.ensures.popped (sym c.in_default-row.ensures)
          ∙ c.loop-slot.invariant.1,
      c.loop-slot.invariant.2,
      mirrored_popped c.args.session c.in-Some.slot i.slots c.pop_owned.new.store i.index c.pop_owned.ensures.ordered c.in-Some.ensures.popped c.loop-slot.invariant.3 c.loop-slot.invariant.4,
      c.loop-slot.invariant.4,
    )

pub returns-clause-first : goal.returns-clause-first
returns-clause-first c =
    let i = c.loop-slot.self-inside in
    sym (popped_end i.changes i.slots c.args.session c.loop-slot.invariant.0.each_slot c.in_default.ensures.popped.0)
    ∙ ap (λ (rs : List Row). find (λ r. r.session.0 == c.args.session.0) rs) c.loop-slot.invariant.1

pub returns-clause-mail : goal.returns-clause-mail
returns-clause-mail c = c.loop-slot.invariant.2
