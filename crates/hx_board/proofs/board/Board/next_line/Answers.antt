use Rattle.std.proofs.Common.{◌≡◌, None, Some, sym, ap, ◌∙◌, ◌∷◌, [], ◌++◌, List, subst, arith}
use Rattle.std.proofs.lemmas.Grind.{common_steps}
use Rattle.std.specs.Prelude.{slice_get}
use Rattle.hx_cluster.specs.declared.happenings.Event.{Event}
use Rattle.hx_cluster.specs.declared.happenings.Event.TheVariants as events
use Rattle.hx_board.specs.Board.{Held, held, next_line_of}
use Rattle.hx_board.specs.Refusals.{line_refusal}
use Rattle.hx_board.proofs.Free.{line_free}
use Rattle.hx_board.proofs.Growing.{roomy, lined}
use Rattle.hx_board.proofs.board.Board.next_line.Goals as goal

pub invariant_of-self : goal.invariant_of-self
invariant_of-self c = roomy c.self.inside c.make_room.new.history c.self.invariant c.in_err-make_room.ensures.items c.in_err-make_room.ensures.spare

pub invariant_of-self-2 : goal.invariant_of-self-2
invariant_of-self-2 c =
    let a = c.self.inside in
    let n = c.in-Some-following.line in
    let Q : Held → Type 0 = λ v. next_line_of v ≡ Some n in
    let R : Held → Type 0 = λ v. line_refusal v ≡ None in
    let follows : next_line_of (held a) ≡ Some n = subst Q (sym c.self.view_is) (sym c.following.ensures ∙ c.in-Some-following.is) in
    let none : line_refusal (held a) ≡ None = subst R (sym c.self.view_is) (sym c.line_fault.ensures ∙ c.in_default.is) in
    let next : slice_get a.lines.items a.taken ≡ Some n = ap (slice_get a.lines.items) (sym c.self.invariant.taken) ∙ follows in
    lined a _ _ n c.self.invariant
    (record {
      follows = next;
      records = c.take_line.ensures;
      history = c.record.ensures.items ∙ ap (λ (es : List Event). es ++ events.Line n ∷ []) c.in_ok-make_room.ensures.items;
      within = omega (arith, line_free (held a) n follows none, c.self.invariant.weighs);
      room = omega (arith, c.in_ok-make_room.ensures.room, c.record.ensures.spare);
    })

pub overflow_add-self : goal.overflow_add-self
overflow_add-self c = grind (arith, common_steps)
