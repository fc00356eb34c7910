use Rattle.std.proofs.Common.{◌≡◌, rules, refl, sym, None, arith}
use Rattle.std.proofs.lemmas.Grind.{common_steps}
use Rattle.std.specs.List.{position}
use Rattle.hx_replicas.specs.Layout.{has_number}
use Rattle.hx_replicas.proofs.Placing.{accepted-none, accepted-some}
use Rattle.hx_replicas.proofs.Handing.{is-accepted, stands-accepted, place-accepted}
use Rattle.hx_replicas.proofs.Together.{stays-accepted, one-out}
use Rattle.hx_replicas.proofs.participants.Participant.job_of.Goals as goal

pub returns-in_default-clause-asked : goal.returns-in_default-clause-asked
returns-in_default-clause-asked g c =
    let xs = c.self.inside.slots.items.items in
    let e : position (has_number c.args.id) xs ≡ None = (cc) in
    rw (← c.self.view_is) (sym (accepted-none g.F.H.Handler xs c.args.id e))

pub unreachable-requires : goal.unreachable-requires
unreachable-requires g c =
    is-accepted c.args.id c.self.inside.slots.items.items c.in-Some.place c.index.result.now (cc) c.index.ensures c.in_default-work.not-Accepted

pub ready_one-requires-clause-accepted : goal.ready_one-requires-clause-accepted
ready_one-requires-clause-accepted g c κs within =
    rw (← c.self.view_is) (stands-accepted c.self.invariant.0 c.args.id c.in-Accepted.message c.in-Some.place c.index.result.now (cc) c.index.ensures c.in-Accepted.is)

pub ready_one-requires-clause-place : goal.ready_one-requires-clause-place
ready_one-requires-clause-place g c κs within =
    rw (← c.self.view_is) (place-accepted c.self.invariant.0 c.args.id c.in-Accepted.message c.in-Some.place c.index.result.now (cc) c.index.ensures c.in-Accepted.is)

pub give_one-requires-clause-accepted : goal.give_one-requires-clause-accepted
give_one-requires-clause-accepted g c κs within =
    let m = c.in-Accepted.message in
    let stands = stands-accepted c.self.invariant.0 c.args.id m c.in-Some.place c.index.result.now (cc) c.index.ensures c.in-Accepted.is in
    stays-accepted c.args.self.now.plain c.ready_one.new.self.plain m _ c.in_ok-ready_one.ensures.plain (rw (← c.self.view_is) stands)

pub give_one-requires-clause-place : goal.give_one-requires-clause-place
give_one-requires-clause-place g c κs within = c.in_ok-ready_one.ensures.place

pub returns : goal.returns
returns g c =
    let x = c.index.result.now in
    let job = c.give_one.result in
    let was = c.in_ok-ready_one.ensures in
    let now = c.give_one.ensures in
    let one = one-out c.args.self.now c.ready_one.new.self c.give_one.new.self c.in-Accepted.message job was.plain was.answer was.rest now.plain now.message now.runs now.listed now.rest in
    record {
      asked = rw (← c.self.view_is, accepted-some g.F.H.Handler c.self.inside.slots.items.items c.args.id c.in-Some.place x (cc) c.index.ensures, c.in-Accepted.is, now.message) refl;
      none = search rules;
      plain = one.plain;
      handed = one.handed;
      err = search rules;
      rest = one.rest;
      ledger = now.ledger;
    }

pub returns-in_default-clause-ledger : goal.returns-in_default-clause-ledger
returns-in_default-clause-ledger g c = grind (arith, common_steps)
