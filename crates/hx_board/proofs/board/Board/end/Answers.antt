use Rattle.std.proofs.Common.{◌≡◌, true, refl, sym, ap, subst, arith}
use Rattle.hx_cluster.specs.declared.happenings.Event.TheVariants as events
use Rattle.hx_cluster.specs.declared.happenings.Did.TheVariants as dids
use Rattle.hx_cluster.specs.Steps.{did_of, is_in_range}
use Rattle.hx_board.specs.Board.{Held}
use Rattle.hx_board.proofs.Free.{step_free}
use Rattle.hx_board.proofs.Told.{told}
use Rattle.hx_board.proofs.Growing.{room_of, end_did, end_weight, owed_end, paid_room, paid}
use Rattle.hx_board.proofs.Reaching.{reached_of}
use Rattle.hx_board.proofs.board.Board.end.Goals as goal

pub make-requires-clause-reached : goal.make-requires-clause-reached
make-requires-clause-reached c = reached_of c.self.inside c.self.invariant

pub make-requires-clause-room : goal.make-requires-clause-room
make-requires-clause-room c = room_of c.self.inside c.self.invariant

pub record-requires : goal.record-requires
record-requires c =
    let free = step_free _ _ c.args.step c.self.view_is c.requires.free in
    paid_room c.self.inside _ c.self.invariant (owed_end c.self.inside.records c.args.step c.requires.end free.free)

pub overflow_sub-self : goal.overflow_sub-self
overflow_sub-self c =
    let free = step_free _ _ c.args.step c.self.view_is c.requires.free in
    omega (arith, owed_end c.self.inside.records c.args.step c.requires.end free.free, c.self.invariant.owed)

pub invariant_of-self : goal.invariant_of-self
invariant_of-self c =
    let a = c.self.inside in
    let step = c.args.step in
    let P : Held → Type 0 = λ v. is_in_range v.cluster step ≡ true in
    let range : is_in_range a.records step ≡ true = subst P (sym c.self.view_is) c.requires.range in
    let free = step_free _ _ step c.self.view_is c.requires.free in
    let owed = owed_end a.records step c.requires.end free.free in
    paid a _ _ (events.Admin step dids.Done) c.self.invariant (range, free.free, sym (end_did a.records step c.requires.end)) refl (end_weight step c.requires.end) c.in-Ok.ensures.ok owed c.record.ensures

pub returns : goal.returns
returns c =
    let seen = c.args.self.now in
    let step = c.args.step in
    told c.self.inside _ _ c.self.inside.history c.record.new.history _ (events.Admin step (did_of seen.cluster step)) c.self.view_is c.in-Ok.ensures.ok refl c.record.ensures.items (ap (events.Admin step) (sym (end_did seen.cluster step c.requires.end)))
