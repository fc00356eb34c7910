use Rattle.std.proofs.Common.{List, refl, sym, subst, ◌∙◌, ap}
use Rattle.hx_script.specs.declared.Line.{Line}
use Rattle.hx_app.specs.Simulation.{IsGiven, opening_scene}
use Rattle.hx_app.proofs.Opening.{opened_fresh}
use Rattle.hx_app.proofs.Ended.{simulated_ended, simulated_full}
use Rattle.hx_app.proofs.simulation.run.Goals as goal

pub opening_as-requires : goal.opening_as-requires
opening_as-requires c =
    let s = c.args.scenario in
    subst (λ (ls : List Line). IsGiven (record { spec = s.spec; lines = ls })) (sym c.as_slice.ensures) c.requires

pub do_script-ended-requires-after_bounds : goal.do_script-ended-requires-after_bounds
do_script-ended-requires-after_bounds c κs =
    let s = c.args.scenario in
    opened_fresh c.args.muted s.spec s.lines _ _ c.as_slice-2.ensures (c.in_ok-world.ensures ∙ ap (opening_scene c.args.muted s.spec) c.as_slice.ensures) c.requires.lines

pub returns-in-Ok : goal.returns-in-Ok
returns-in-Ok c =
    let s = c.args.scenario in
    simulated_ended c.args.muted s _ _ _ _ _ _ c.as_slice-2.ensures (c.in_ok-world.ensures ∙ ap (opening_scene c.args.muted s.spec) c.as_slice.ensures) c.new-page.ensures refl c.close-board.ensures c.in-Ok.ensures refl

pub returns-in-Err-HistoryFull : goal.returns-in-Err-HistoryFull
returns-in-Err-HistoryFull c =
    let s = c.args.scenario in
    simulated_full c.args.muted s _ _ _ _ _ _ c.as_slice-2.ensures (c.in_ok-world.ensures ∙ ap (opening_scene c.args.muted s.spec) c.as_slice.ensures) c.new-page.ensures refl c.close-board.ensures c.do_script-ended.result c.in-Err-HistoryFull.field-0
    c.in-Err-HistoryFull.weight c.do_script-ended.ensures c.in-Err-HistoryFull.is (rw c.in-Err-HistoryFull.is at c.in-Err-HistoryFull.field-0-is) (cc)
