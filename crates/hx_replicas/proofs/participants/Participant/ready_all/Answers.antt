use Rattle.std.proofs.Common.{◌≡◌, ℕ, ◌<◌, length, get_or, arith, rules, refl, false, List, [], ◌∷◌, ◌++◌, is_none, length-append}
use Rattle.std.proofs.lemmas.List.{get_or_default}
use Rattle.std.proofs.lemmas.Result.{err_from_is_err_and}
use Rattle.hx_cluster.specs.declared.state.Message.{Message}
use Rattle.hx_replicas.specs.Participants.{slot_of}
use Rattle.hx_replicas.proofs.Together.{IsReadied-none, IsReadied-still, IsReadied-more, next-unready}
use Rattle.hx_replicas.proofs.participants.Participant.ready_all.Goals as goal

first : Message
first = record { id = record { 0 = 0 }; session = record { 0 = 0 }; part = record { resource = record { 0 = 0 }; index = 0 }; from = record { 0 = 0 }; to = record { 0 = 0 }; initial = record { 0 = 0 }; epoch = record { 0 = 0 }; taken = false; written = false }

same-default : {X : Type 0} (xs : List X) (i : ℕ) (d : X) → i < length xs → get_or xs i d ≡ get_or xs i (get_or xs i d)
same-default xs i d lt = get_or_default xs i d (get_or xs i d) lt

pub loop-message-init : goal.loop-message-init
loop-message-init g c = ([], IsReadied-none c.args.self.now c.args.messages.now, refl, c.requires.ledger)

pub place_for-place-requires : goal.place_for-place-requires
unfolding first
place_for-place-requires g c =
    let inv = c.loop-message.invariant in
    (search rules, (search rules, next-unready c.args.self.now.plain c.loop-message.self.plain c.args.messages.now inv.0 c.loop-message.message-index first c.requires.spread c.requires.accepted c.loop-message-test.true (omega (arith, inv.2)) inv.1.plain))

pub ready_one-requires-clause-accepted : goal.ready_one-requires-clause-accepted
unfolding first
ready_one-requires-clause-accepted g c κs within =
    let inv = c.loop-message.invariant in
    next-unready c.args.self.now.plain c.loop-message.self.plain c.args.messages.now inv.0 c.loop-message.message-index first c.requires.spread c.requires.accepted c.loop-message-test.true (omega (arith, inv.2)) inv.1.plain

pub loop-message-preserved : goal.loop-message-preserved
unfolding first
loop-message-preserved g c =
    let inv = c.loop-message.invariant in
    let ms = c.args.messages.now in
    let i = c.loop-message.message-index in
    let lt = c.loop-message-test.true in
    let more = is_none (slot_of c.ready_one.new.self.plain (get_or ms i first).part).handler ∷ [] in
    let now = c.in_ok-ready_one.ensures in (
      inv.0 ++ more,
      IsReadied-more c.args.self.now c.loop-message.self c.ready_one.new.self ms inv.0 i (get_or ms i first) c.requires.spread inv.1 inv.2 lt (same-default ms i first lt) now.plain now.answer now.made now.rest,
      rw (length-append inv.0 more) (omega (arith, inv.2)),
      now.ledger,
    )

pub returns-clause-answers : goal.returns-clause-answers
returns-clause-answers g c =
    let fs = c.loop-message.invariant.0 in
    (fs, c.loop-message.invariant.1, omega (arith, c.loop-message.invariant.2, c.loop-message-test.false, c.loop-message.auto.message-index-end))

pub returns-in_err-ready_one-clause-answers : goal.returns-in_err-ready_one-clause-answers
returns-in_err-ready_one-clause-answers g c =
    let p = err_from_is_err_and c.from_residual.result c.from_residual.ensures.1 in
    let fs = c.loop-message.invariant.0 in
    let now = c.in_err-ready_one.ensures in
    rw p.1 (fs, IsReadied-still c.args.self.now c.loop-message.self c.ready_one.new.self c.args.messages.now fs c.loop-message.invariant.1 now.err now.made now.rest)
