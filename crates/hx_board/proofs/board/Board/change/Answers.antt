use Rattle.std.proofs.Common.{◌≡◌, ℕ, ◌+◌, true, refl, sym, ap, ◌∙◌, ◌∷◌, [], ◌++◌, subst, arith}
use Rattle.hx_cluster.specs.declared.happenings.Event.TheVariants as events
use Rattle.hx_cluster.specs.Steps.{did_of, is_in_range}
use Rattle.hx_history.specs.declared.entries.History.{History}
use Rattle.hx_board.specs.Board.{Held, held, happened}
use Rattle.hx_board.proofs.Free.{step_free}
use Rattle.hx_board.proofs.Growing.{roomy, still, room_of, opens_paid, opens_one, owed_step, grown}
use Rattle.hx_board.proofs.Reaching.{reached_of}
use Rattle.hx_board.proofs.board.Board.change.Goals as goal

pub invariant_of-self : goal.invariant_of-self
invariant_of-self c = roomy c.self.inside c.make_room.new.history c.self.invariant c.in_err-make_room.ensures.items c.in_err-make_room.ensures.spare

pub invariant_of-self-2 : goal.invariant_of-self-2
invariant_of-self-2 c =
    let a = c.self.inside in
    let step = c.args.step.now in
    let P : Held → Type 0 = λ v. is_in_range v.cluster step ≡ true in
    let range : is_in_range a.records step ≡ true = subst P (sym c.self.view_is) c.requires.range in
    let free = step_free _ _ step c.self.view_is c.requires.free in
    let did = did_of a.records step in
    grown a _ _ _ _ (events.Admin step did) c.self.invariant
    (record {
      step = (range, free.free, refl);
      other = refl;
      records = c.in_ok-did.ensures.after;
      history = c.in_ok-did.ensures.items ∙ (λ i. c.in_ok-make_room.ensures.items i ++ events.Admin step (c.in_ok-did.ensures.did i) ∷ []);
      weighs = ap (λ (n : ℕ). a.weight + n) c.requires.weight;
      within = omega (arith, free.fits, c.self.invariant.weighs, c.requires.weight);
      pays = omega (arith, owed_step a.records step, c.opens.ensures, c.self.invariant.owed);
      few = omega (arith, c.self.invariant.few, opens_paid step, c.opens.ensures, c.requires.weight);
      room = omega (arith, c.in_ok-make_room.ensures.room, c.in_ok-did.ensures.spare, opens_one step, c.opens.ensures);
    })

pub make-requires : goal.make-requires
make-requires c =
    let P : Held → Type 0 = λ v. is_in_range v.cluster c.args.step.now ≡ true in
    let free = step_free _ _ c.args.step.now c.self.view_is c.requires.free in
    record {
      may = free.free;
      range = subst P (sym c.self.view_is) c.requires.range;
      reached = reached_of c.self.inside c.self.invariant;
      room = room_of c.self.inside c.self.invariant;
      spare = omega (arith, c.in_ok-make_room.ensures.room);
    }

pub returns : goal.returns
returns c =
    let a = c.self.inside in
    let step = c.args.step.now in
    let did = did_of a.records step in
    let history = c.in_ok-did.ensures.items ∙ (λ i. c.in_ok-make_room.ensures.items i ++ events.Admin step (c.in_ok-did.ensures.did i) ∷ []) in
    let P : Held → Type 0 = λ v. c.in_ok-did.did ≡ did_of v.cluster step in
    let made : held (record a { records = c.make.new.records; history = c.make.new.history }) ≡ happened (held a) (events.Admin step did) =
    (λ i. record { cluster = c.in_ok-did.ensures.after i; history = history i; charges = a.charges; spec = a.spec; lines = a.lines.items; limit = a.limit }) in
    record {
      did = subst P c.self.view_is c.in_ok-did.ensures.did;
      ok = made ∙ (λ i. happened (c.self.view_is i) (events.Admin step (did_of (c.self.view_is i).cluster step)));
      err = tt;
    }

pub overflow_add-self : goal.overflow_add-self
overflow_add-self c =
    let free = step_free _ _ c.args.step.now c.self.view_is c.requires.free in
    omega (arith, free.fits, c.self.invariant.weighs, c.self.invariant.limited, c.requires.weight)

pub invariant_of-self-in_err-did : goal.invariant_of-self-in_err-did
invariant_of-self-in_err-did c =
    still c.self.inside c.make.new.records c.make.new.history c.self.invariant c.in_err-did.ensures.err.0 (ap (λ (h : History). h.entries.items) c.in_err-did.ensures.err.1 ∙ c.in_ok-make_room.ensures.items)
    (omega (arith, ap (λ (h : History). h.entries.spare) c.in_err-did.ensures.err.1, c.in_ok-make_room.ensures.spare))
