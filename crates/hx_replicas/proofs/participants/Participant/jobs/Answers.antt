use Rattle.std.proofs.Common.{arith, rules, refl, sym, ◌∙◌, []}
use Rattle.std.proofs.lemmas.Grind.{common_steps}
use Rattle.std.proofs.lemmas.Result.{err_from_is_err_and}
use Rattle.hx_replicas.specs.Participants.{accepted_all}
use Rattle.hx_replicas.specs.Batches.{IsReadied}
use Rattle.hx_replicas.proofs.Ledgers.{ledger}
use Rattle.hx_replicas.proofs.Sorting.{sorted-all}
use Rattle.hx_replicas.proofs.Together.{IsReadied-none, accepted-readied, all-out}
use Rattle.hx_replicas.proofs.participants.Participant.jobs.Goals as goal

pub returns-in_err-messages-clause-err : goal.returns-in_err-messages-clause-err
returns-in_err-messages-clause-err g c =
    let p = err_from_is_err_and c.from_residual.result c.from_residual.ensures.1 in
    let none = IsReadied-none c.args.self.now (accepted_all c.args.self.now.plain) in
    rw p.1 ([], none.plain, tt)

pub ready_all-requires-clause-spread : goal.ready_all-requires-clause-spread
ready_all-requires-clause-spread g c κs within =
    rw c.deref.ensures.value (sorted-all c.self.invariant.0 c.args.self.now.plain c.in_ok-messages.messages.items (rw (← c.self.view_is) refl) c.in_ok-messages.ensures).spread

pub ready_all-requires-clause-accepted : goal.ready_all-requires-clause-accepted
ready_all-requires-clause-accepted g c κs within =
    rw c.deref.ensures.value (sorted-all c.self.invariant.0 c.args.self.now.plain c.in_ok-messages.messages.items (rw (← c.self.view_is) refl) c.in_ok-messages.ensures).accepted

pub ready_all-requires-clause-ledger : goal.ready_all-requires-clause-ledger
ready_all-requires-clause-ledger g c κs within =
    rw (← c.self.view_is) (ledger g.F.H.Handler (g.F.Factory.listed c.self.inside.factory) c.self.inside.slots.items.items _ _ c.self.invariant.0)

pub returns-in_err-ready_all-clause-err : goal.returns-in_err-ready_all-clause-err
returns-in_err-ready_all-clause-err g c =
    let ms = c.in_ok-messages.messages.items in
    let of = sorted-all c.self.invariant.0 c.args.self.now.plain ms (rw (← c.self.view_is) refl) c.in_ok-messages.ensures in
    let p = err_from_is_err_and c.from_residual-in_err-ready_all.result c.from_residual-in_err-ready_all.ensures.1 in
    let fs = c.in_err-ready_all.ensures.answers.0 in
    let was : IsReadied c.args.self.now c.ready_all.new.self ms fs = rw c.deref.ensures.value at c.in_err-ready_all.ensures.answers.1 in
    rw (p.1, of.all) (fs, was.plain, was.answered)

pub returns-in_err-jobs-clause-err : goal.returns-in_err-jobs-clause-err
returns-in_err-jobs-clause-err g c =
    let p = err_from_is_err_and c.from_residual-in_err-jobs.result c.from_residual-in_err-jobs.ensures.1 in
    let ms = c.in_ok-messages.messages.items in
    let fs = c.in_ok-ready_all.ensures.answers.0 in
    let was : IsReadied c.args.self.now c.ready_all.new.self ms fs = rw c.deref.ensures.value at c.in_ok-ready_all.ensures.answers.1 in
    let of = sorted-all c.self.invariant.0 c.args.self.now.plain ms (rw (← c.self.view_is) refl) c.in_ok-messages.ensures in
    rw (p.1, of.all) (fs, was.plain, was.answered)

pub give_all-requires-clause-spread : goal.give_all-requires-clause-spread
give_all-requires-clause-spread g c κs within =
    rw c.deref-2.ensures.value (sorted-all c.self.invariant.0 c.args.self.now.plain c.in_ok-messages.messages.items (rw (← c.self.view_is) refl) c.in_ok-messages.ensures).spread

pub give_all-requires-clause-accepted : goal.give_all-requires-clause-accepted
give_all-requires-clause-accepted g c κs within =
    let a = c.args.self.now in
    let b = c.ready_all.new.self in
    let fs = c.in_ok-ready_all.ensures.answers.0 in
    let ms = c.in_ok-messages.messages.items in
    let of = sorted-all c.self.invariant.0 a.plain ms (rw (← c.self.view_is) refl) c.in_ok-messages.ensures in
    let was : IsReadied a b ms fs = rw c.deref.ensures.value at c.in_ok-ready_all.ensures.answers.1 in
    rw c.deref-2.ensures.value (accepted-readied a.plain b.plain ms fs was.plain of.accepted)

pub give_all-requires-clause-room : goal.give_all-requires-clause-room
give_all-requires-clause-room g c κs within =
    rw c.deref-2.ensures.value (omega (arith, c.in_ok-jobs.ensures.len, c.in_ok-jobs.ensures.capacity, c.deref.ensures.len, c.deref-2.ensures.len))

pub returns : goal.returns
returns g c =
    let a = c.args.self.now in
    let ms = c.in_ok-messages.messages.items in
    let of = sorted-all c.self.invariant.0 a.plain ms (rw (← c.self.view_is) refl) c.in_ok-messages.ensures in
    let was = rw c.deref.ensures.value at c.in_ok-ready_all.ensures.answers in
    let now = rw c.deref-2.ensures.value at c.give_all.ensures in
    let out = all-out a c.ready_all.new.self c.give_all.new.self ms was.0 c.give_all.new.jobs.items of.spread was.1 was.2 now.rest now.plain now.given now.len in
    record {
      asked = out.asked ∙ sym of.all;
      plain = rw of.all out.plain;
      handed = out.handed;
      err = search rules;
      rest = out.rest;
      ledger = c.give_all.ensures.ledger;
    }

pub returns-in_err-ready_all-clause-ledger : goal.returns-in_err-ready_all-clause-ledger
returns-in_err-ready_all-clause-ledger g c =
    c.ready_all.ensures.ledger

pub returns-in_err-jobs-clause-ledger : goal.returns-in_err-jobs-clause-ledger
returns-in_err-jobs-clause-ledger g c =
    c.ready_all.ensures.ledger

pub returns-in_err-messages-clause-ledger : goal.returns-in_err-messages-clause-ledger
returns-in_err-messages-clause-ledger g c = grind (arith, common_steps)
