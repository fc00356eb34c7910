use Rattle.std.proofs.Common.{ap, ◌∙◌}
use Rattle.hx_worlds.specs.declared.Voice.{Voice}
use Rattle.hx_worlds.specs.Runs.{note}
use Rattle.hx_scene.specs.Scenes.{at}
use Rattle.hx_scene.proofs.Fronts.{muted_as}
use Rattle.hx_scene.proofs.Saying.{say_full, say_muted, say_cut, say_whole, say_nothing, same_text}
use Rattle.hx_print.specs.Texts.{note_text}
use Rattle.hx_scene.proofs.scene.Scene.note.Goals as goal

pub returns-in_default-clause-does : goal.returns-in_default-clause-does
returns-in_default-clause-does g c = say_nothing _ c.args.self.now c.args.out.now (λ a. ap (λ (v : Voice). note v c.args.note.now (at c.args.self.now a)) c.in_default.is)

pub returns-in_err-charge-clause-does : goal.returns-in_err-charge-clause-does
returns-in_err-charge-clause-does g c = say_full _ (note_text c.args.self.now.spec c.in-Loud.line c.args.note.now) c.args.out.now c.from_residual.result c.in_err-charge.ensures (λ a. ap (λ (v : Voice). note v c.args.note.now (at c.args.self.now a)) c.in-Loud.is) c.from_residual.ensures.1

pub returns-then-self-clause-does : goal.returns-then-self-clause-does
returns-then-self-clause-does g c = say_muted _ (note_text c.args.self.now.spec c.in-Loud.line c.args.note.now) c.args.out.now c.in_ok-charge.ensures (muted_as c.self.view_is c.if-self.true) (λ a. ap (λ (v : Voice). note v c.args.note.now (at c.args.self.now a)) c.in-Loud.is)

pub returns-in_err-print_note-clause-does : goal.returns-in_err-print_note-clause-does
returns-in_err-print_note-clause-does g c =
    say_cut _ c.from_residual-in_err-print_note.result c.in_ok-charge.ensures (muted_as c.self.view_is c.if-self.false) c.in_err-print_note.ensures
    (λ a. ap (λ (v : Voice). note v c.args.note.now (at c.args.self.now a)) c.in-Loud.is ∙ same_text (λ spec. note_text spec c.in-Loud.line c.args.note.now) c.in_ok-charge.ensures c.self.view_is a) c.from_residual-in_err-print_note.ensures.1

pub returns-clause-does : goal.returns-clause-does
returns-clause-does g c =
    say_whole _ c.in_ok-charge.ensures (muted_as c.self.view_is c.if-self.false) c.in_ok-print_note.ensures
    (λ a. ap (λ (v : Voice). note v c.args.note.now (at c.args.self.now a)) c.in-Loud.is ∙ same_text (λ spec. note_text spec c.in-Loud.line c.args.note.now) c.in_ok-charge.ensures c.self.view_is a)
