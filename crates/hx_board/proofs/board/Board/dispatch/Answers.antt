use Rattle.std.proofs.Common.{◌≡◌, ℕ, ◌+◌, true, None, refl, sym, ap, ◌∙◌, ◌∷◌, [], ◌++◌, subst, arith}
use Rattle.std.specs.List.{list_all}
use Rattle.hx_cluster.specs.declared.happenings.Event.TheVariants as events
use Rattle.hx_cluster.specs.Steps.{has_controller}
use Rattle.hx_cluster.specs.Events.{is_proposable, is_pass, dispatched_of}
use Rattle.hx_cluster.specs.declared.happenings.Event.{Event}
use Rattle.hx_history.specs.declared.entries.History.{History}
use Rattle.hx_board.specs.Board.{Held, held, happened}
use Rattle.hx_board.specs.Refusals.{dispatch_refusal}
use Rattle.hx_board.proofs.Free.{IsFreeDispatch, dispatch_free}
use Rattle.hx_board.proofs.Growing.{roomy, still, room_of, owed_dispatch, grown}
use Rattle.hx_board.proofs.Reaching.{reached_of}
use Rattle.hx_board.proofs.board.Board.dispatch.Goals as goal
use Rattle.hx_board.proofs.board.Board.dispatch.Goals.{In_ok-weight, In_ok-answer}

-- nothing refuses the dispatch
free : (c : In_ok-weight) → IsFreeDispatch (held c.self.inside) c.args.c c.args.epoch c.args.pass c.args.proposals.now
free c =
    let Q : Held → Type 0 = λ v. dispatch_refusal v c.args.c c.args.epoch c.args.pass c.args.proposals.now ≡ None in
    dispatch_free (held c.self.inside) c.args.c c.args.epoch c.args.pass c.args.proposals.now (subst Q (sym c.self.view_is) c.in_ok-weight.ensures.refused)

-- its event is recorded
told : (c : In_ok-answer) → c.place.new.history.entries.items
    ≡ c.self.inside.history.entries.items ++ events.Dispatch c.args.c c.args.epoch c.args.pass c.args.proposals.now (dispatched_of c.self.inside.records c.args.c c.args.proposals.now) ∷ []
told c =
    c.in_ok-answer.ensures.items ∙ (λ i. c.in_ok-make_room.ensures.items i ++ events.Dispatch c.args.c c.args.epoch c.args.pass c.args.proposals.now (c.in_ok-answer.ensures.answer i) ∷ [])

pub place-requires : goal.place-requires
place-requires c =
    let R : Held → Type 0 = λ v. list_all (is_proposable v.cluster) c.args.proposals.now ≡ true in
    record {
      reached = reached_of c.self.inside c.self.invariant;
      range = subst R (sym c.self.view_is) c.requires.proposals;
      room = room_of c.self.inside c.self.invariant;
      spare = omega (arith, c.in_ok-make_room.ensures.room);
    }

pub invariant_of-self : goal.invariant_of-self
invariant_of-self c = roomy c.self.inside c.make_room.new.history c.self.invariant c.in_err-make_room.ensures.items c.in_err-make_room.ensures.spare

pub invariant_of-self-in_err-answer : goal.invariant_of-self-in_err-answer
invariant_of-self-in_err-answer c =
    still c.self.inside c.place.new.records c.place.new.history c.self.invariant c.in_err-answer.ensures.err.0 (ap (λ (h : History). h.entries.items) c.in_err-answer.ensures.err.1 ∙ c.in_ok-make_room.ensures.items)
    (omega (arith, ap (λ (h : History). h.entries.spare) c.in_err-answer.ensures.err.1, c.in_ok-make_room.ensures.spare))

pub overflow_add-self : goal.overflow_add-self
overflow_add-self c =
    omega (arith, (free (goal.at.overflow_add-self c).In_ok-weight).fits, c.self.invariant.weighs, c.self.invariant.limited, c.in_ok-weight.ensures.weight)

pub overflow_add-self-2 : goal.overflow_add-self-2
overflow_add-self-2 c =
    omega (arith, (free (goal.at.overflow_add-self-2 c).In_ok-weight).fits, c.self.invariant.weighs, c.self.invariant.limited, c.self.invariant.few, c.in_ok-weight.ensures.weight)

pub invariant_of-self-2 : goal.invariant_of-self-2
invariant_of-self-2 c =
    let a = c.self.inside in
    let k = c.args.c in
    let epoch = c.args.epoch in
    let pass = c.args.pass in
    let qs = c.args.proposals.now in
    let P : Held → Type 0 = λ v. has_controller v.cluster k ≡ true in
    let R : Held → Type 0 = λ v. list_all (is_proposable v.cluster) qs ≡ true in
    let there : has_controller a.records k ≡ true = subst P (sym c.self.view_is) c.requires.controller in
    let each : list_all (is_proposable a.records) qs ≡ true = subst R (sym c.self.view_is) c.requires.proposals in
    let may = free (goal.at.invariant_of-self-2 c).In_ok-weight in
    let now : is_pass a.records k pass ≡ true = grind (arith, there, may.passes) in
    grown a _ _ _ _ (events.Dispatch k epoch pass qs (dispatched_of a.records k qs)) c.self.invariant
    (record {
      step = (each, may.stands, now, refl);
      other = refl;
      records = c.in_ok-answer.ensures.after;
      history = told (goal.at.invariant_of-self-2 c).In_ok-answer;
      weighs = ap (λ (n : ℕ). a.weight + n) c.in_ok-weight.ensures.weight;
      within = omega (arith, may.fits, c.self.invariant.weighs, c.in_ok-weight.ensures.weight);
      pays = omega (arith, owed_dispatch a.records k qs, c.self.invariant.owed, c.in_ok-weight.ensures.weight);
      few = omega (arith, c.self.invariant.few, c.in_ok-weight.ensures.weight);
      room = omega (arith, c.in_ok-make_room.ensures.room, c.in_ok-answer.ensures.spare, c.in_ok-weight.ensures.weight);
    })

pub returns : goal.returns
returns c =
    let a = c.self.inside in
    let k = c.args.c in
    let epoch = c.args.epoch in
    let pass = c.args.pass in
    let qs = c.args.proposals.now in
    let history = told (goal.at.returns c).In_ok-answer in
    let event : Event = events.Dispatch k epoch pass qs (dispatched_of a.records k qs) in
    let made : held (record a { records = c.place.new.records; history = c.place.new.history }) ≡ happened (held a) event =
    (λ i. record { cluster = c.in_ok-answer.ensures.after i; history = history i; charges = a.charges; spec = a.spec; lines = a.lines.items; limit = a.limit }) in
    record {
      refused = c.in_ok-weight.ensures.refused;
      answer = c.in_ok-answer.ensures.answer ∙ ap (λ (v : Held). dispatched_of v.cluster k qs) c.self.view_is;
      ok = made ∙ (λ i. happened (c.self.view_is i) (events.Dispatch k epoch pass qs (sym c.in_ok-answer.ensures.answer i)));
      err = tt;
    }
