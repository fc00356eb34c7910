use Rattle.std.proofs.Common.{◌≡◌, ◌<◌, ◌≤◌, length, take, get_or, arith, rules, refl, sym, ap, ◌∙◌, false, [], ◌∷◌, length-append, add-one}
use Rattle.std.specs.Option.{ForSome}
use Rattle.std.proofs.lemmas.Grind.{common_steps}
use Rattle.hx_cluster.specs.declared.state.Message.{Message}
use Rattle.hx_replicas.specs.Participants.{slot_of, given, given_all}
use Rattle.hx_replicas.specs.Jobs.{ParticipantState, runs_of}
use Rattle.hx_replicas.proofs.Together.{next-ungiven, next-accepted, given_all-more, AreGiven-more}
use Rattle.hx_replicas.proofs.participants.Participant.give_all.Goals as goal

first : Message
first = record { id = record { 0 = 0 }; session = record { 0 = 0 }; part = record { resource = record { 0 = 0 }; index = 0 }; from = record { 0 = 0 }; to = record { 0 = 0 }; initial = record { 0 = 0 }; epoch = record { 0 = 0 }; taken = false; written = false }

pub loop-message-init : goal.loop-message-init
loop-message-init g c = record {
  plain = refl;
  given = rw c.requires.empty tt;
  len = rw c.requires.empty refl;
  room = omega (arith, c.requires.room);
  rest = refl;
  ledger = c.requires.ledger;
}

pub place_for-place-requires : goal.place_for-place-requires
unfolding first
place_for-place-requires g c =
    (search rules, (search rules, next-accepted c.args.self.now.plain c.loop-message.self.plain c.args.messages.now c.loop-message.message-index first c.requires.spread c.requires.accepted c.loop-message-test.true c.loop-message.invariant.plain))

pub give_one-requires-clause-accepted : goal.give_one-requires-clause-accepted
unfolding first
give_one-requires-clause-accepted g c κs within =
    next-accepted c.args.self.now.plain c.loop-message.self.plain c.args.messages.now c.loop-message.message-index first c.requires.spread c.requires.accepted c.loop-message-test.true c.loop-message.invariant.plain

pub push_reserved-requires : goal.push_reserved-requires
push_reserved-requires g c = omega (arith, c.loop-message.invariant.room, c.loop-message-test.true)

pub loop-message-preserved : goal.loop-message-preserved
unfolding first
loop-message-preserved g c =
    let a = c.args.self.now in
    let b = c.loop-message.self in
    let ms = c.args.messages.now in
    let i = c.loop-message.message-index in
    let m = get_or ms i first in
    let lt : i < length ms = c.loop-message-test.true in
    let inv = c.loop-message.invariant in
    let stays = next-ungiven a.plain b.plain ms i first c.requires.spread lt inv.plain in
    let now = c.give_one.ensures in
    let j = c.give_one.result in
    let runs : runs_of j.handler ≡ (slot_of a.plain m.part).handler = now.runs ∙ ap (λ x. x.handler) stays in
    let same : b.listed ≡ a.listed = ap (λ (s : ParticipantState). s.listed) inv.rest in
    let listed : ForSome j.handler (λ h. h.listed ≡ a.listed) = rw same at now.listed in
    record {
      plain = now.plain ∙ ap (λ w. given w m) inv.plain ∙ rw add-one (sym (given_all-more a.plain ms i first lt));
      given = rw c.push_reserved.ensures.items (AreGiven-more a ms c.loop-message.jobs.items j i first lt inv.len now.message runs listed inv.given);
      len = rw (c.push_reserved.ensures.items, length-append c.loop-message.jobs.items (j ∷ [])) (omega (arith, inv.len));
      room = omega (arith, inv.room, c.push_reserved.ensures.len, c.push_reserved.ensures.capacity, lt);
      rest = now.rest ∙ ap (λ (s : ParticipantState). record s { plain = c.give_one.new.self.plain }) inv.rest;
      ledger = now.ledger;
    }

pub returns-clause-plain : goal.returns-clause-plain
returns-clause-plain g c =
    let ms = c.args.messages.now in
    let i = c.loop-message.message-index in
    let end : length ms ≤ i = omega (arith, c.loop-message-test.false) in
    let whole : take i ms ≡ ms = grind (arith, common_steps) in
    c.loop-message.invariant.plain ∙ ap (λ ns. given_all c.args.self.now.plain ns) whole

pub returns-clause-given : goal.returns-clause-given
returns-clause-given g c = c.loop-message.invariant.given

pub returns-clause-len : goal.returns-clause-len
returns-clause-len g c = omega (arith, c.loop-message.invariant.len, c.loop-message-test.false, c.loop-message.auto.message-index-end)

pub returns-clause-rest : goal.returns-clause-rest
returns-clause-rest g c = c.loop-message.invariant.rest
