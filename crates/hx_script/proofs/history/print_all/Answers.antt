use Rattle.std.proofs.Common.{◌∷◌, sym, ap, ◌∙◌, arith}
use Rattle.std.proofs.lemmas.Grind.{common_steps}
use Rattle.hx_cluster.specs.declared.happenings.Event.{Event}
use Rattle.hx_text.proofs.Printing.{prints_err}
use Rattle.hx_script.proofs.Entries.{puts_event}
use Rattle.hx_script.proofs.history.print_all.Goals as goal

pub returns-in_err-print_next : goal.returns-in_err-print_next
returns-in_err-print_next c =
    prints_err _ _ _ _ c.from_residual.result c.from_residual.ensures.1
    (puts_event c.args.spec.now c.args.roll.now c.loop-told.roll c.args.entries.now.items c.loop-told.told-iterator c.next.new.self c.event.result.now _ c.loop-told.out _
    (c.in-Some.ensures.steps ∙ ap (λ (e : Event). e ∷ c.next.new.self) (sym c.event.ensures)) c.loop-told.invariant c.in_err-print_next.ensures.text.err)

pub loop-told-preserved : goal.loop-told-preserved
loop-told-preserved c = grind (arith, common_steps)
