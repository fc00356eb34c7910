use Rattle.std.proofs.Common.{length, ap, subst, ◌∙◌}
use Rattle.hx_scene.specs.Scenes.{SceneState}
use Rattle.hx_scene.specs.Kept.{IsScene}
use Rattle.hx_scene.proofs.Turning.{none_found, advance_silent, advance_printed, advance_front, advance_full, advance_memory, advance_fault}
use Rattle.hx_scene.proofs.scene.Scene.advance_with.Goals as goal

pub returns-in_default : goal.returns-in_default
returns-in_default g c =
    advance_silent c.args.out.now (subst IsScene c.self.view_is c.self.invariant.0) c.in-Ok.ensures (none_found _ c.in_default.not-Some c.requires.none)

pub returns-in_err-print_grown-in-Ok : goal.returns-in_err-print_grown-in-Ok
returns-in_err-print_grown-in-Ok g c =
    let is = subst IsScene c.self.view_is c.self.invariant.0 in
    let before = c.len-before.ensures ∙ ap length (c.history.ensures.value ∙ ap (λ (s : SceneState). s.board.history) c.self.view_is) in
    advance_front _ c.in-Some.roll c.args.out.now c.print_grown.new.out c.in_err-print_grown-in-Ok.field-0.0 c.len-before.result c.from_residual.result is c.in-Ok.ensures
    (λ printed. rw c.in-Some.is at c.requires.some) before c.in_err-print_grown-in-Ok.ensures.more c.in_err-print_grown-in-Ok.ensures.same c.from_residual.ensures.1

pub returns-in_ok-print_grown-in-Ok : goal.returns-in_ok-print_grown-in-Ok
returns-in_ok-print_grown-in-Ok g c =
    let is = subst IsScene c.self.view_is c.self.invariant.0 in
    let before = c.len-before.ensures ∙ ap length (c.history.ensures.value ∙ ap (λ (s : SceneState). s.board.history) c.self.view_is) in
    advance_printed c.in-Some.roll c.args.out.now c.print_grown.new.out c.in_ok-print_grown-in-Ok.field-0 c.len-before.result is c.in-Ok.ensures (λ printed. rw c.in-Some.is at c.requires.some) before
    c.in_ok-print_grown-in-Ok.ensures.more c.in_ok-print_grown-in-Ok.ensures.same

pub returns-in-HistoryFull : goal.returns-in-HistoryFull
returns-in-HistoryFull g c = advance_full c.args.out.now (rw c.in-HistoryFull.is at c.in-Err.ensures)

pub returns-in-OutOfMemory : goal.returns-in-OutOfMemory
returns-in-OutOfMemory g c = advance_memory c.args.out.now (rw c.in-OutOfMemory.is at c.in-Err.ensures)

pub returns-in_default-fault : goal.returns-in_default-fault
returns-in_default-fault g c = advance_fault c.args.out.now (subst IsScene c.self.view_is c.self.invariant.0) c.in-Err.ensures c.in_default-fault.not-HistoryFull c.in_default-fault.not-OutOfMemory
