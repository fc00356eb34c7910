use Rattle.std.proofs.Common.{inr, refl, sym, ◌∙◌, arith}
use Rattle.std.proofs.lemmas.Grind.{common_steps}
use Rattle.hx_script.specs.Grammar.{script_of}
use Rattle.hx_script.proofs.LinesAgain.{lines_asked}
use Rattle.hx_script.proofs.RangesGiven.{all_asked_in_range}
use Rattle.hx_script.proofs.Fronts.{read_one, read_to_fault, wanted_behind}
use Rattle.hx_script.proofs.Scripts.{after_line, at_fault, kept_after, few_after, read_whole}
use Rattle.hx_script.proofs.parsing.parse.Goals as goal

pub returns-in_err-add_line-in-Ok-clause-kept : goal.returns-in_err-add_line-in-Ok-clause-kept
returns-in_err-add_line-in-Ok-clause-kept c =
    rw c.in_ok-what.ensures.ok.1 (kept_after c.args.spec.now c.loop-place.spec c.get.result.now c.loop-place.invariant.kept)

pub returns-in-Err-clause-err : goal.returns-in-Err-clause-err
returns-in-Err-clause-err c =
    inr (
      _,
      refl,
      at_fault c.args.lines.now c.loop-place.place c.get.result.now c.loop-place.spec c.loop-place.script.items c.in-Err.kind (script_of c.args.lines.now c.args.spec.now)
          c.get.ensures (sym c.in_ok-what.ensures.ok.0 ∙ c.in-Err.is) c.loop-place.invariant.script,
    )

pub returns-in-Err-clause-leaves : goal.returns-in-Err-clause-leaves
returns-in-Err-clause-leaves c =
    read_to_fault c.args.lines.now c.loop-place.place c.get.result.now c.args.spec.now c.loop-place.spec _ c.loop-place.script.items c.in-Err.kind
    (sym c.in_ok-what.ensures.ok.0 ∙ c.in-Err.is) c.in_ok-what.ensures.ok.1 c.loop-place.invariant.read

pub returns-in_err-add_line-in-Ok-clause-leaves : goal.returns-in_err-add_line-in-Ok-clause-leaves
returns-in_err-add_line-in-Ok-clause-leaves c =
    wanted_behind c.args.lines.now c.loop-place.place c.get.result.now c.args.spec.now c.loop-place.spec _ c.loop-place.script.items c.in-Ok.what c.from_residual-in_err-add_line-in-Ok.result
    c.get.ensures (sym c.in_ok-what.ensures.ok.0 ∙ c.in-Ok.is) c.in_ok-what.ensures.ok.1 c.loop-place.invariant.read c.from_residual-in_err-add_line-in-Ok.ensures.1

pub loop-place-preserved : goal.loop-place-preserved
loop-place-preserved c =
    rw (c.in_ok-what.ensures.ok.1, c.in_ok-add_line-in-Ok.ensures) (record {
      script = after_line c.args.lines.now c.loop-place.place c.get.result.now c.loop-place.spec c.loop-place.script.items c.in-Ok.what (script_of c.args.lines.now c.args.spec.now)
          c.get.ensures (sym c.in_ok-what.ensures.ok.0 ∙ c.in-Ok.is) c.loop-place.invariant.script;
      read = read_one c.args.lines.now c.loop-place.place c.get.result.now c.args.spec.now c.loop-place.spec c.loop-place.script.items c.in-Ok.what
          c.get.ensures (sym c.in_ok-what.ensures.ok.0 ∙ c.in-Ok.is) c.loop-place.invariant.read;
      kept = kept_after c.args.spec.now c.loop-place.spec c.get.result.now c.loop-place.invariant.kept;
      few = few_after c.args.spec.now c.loop-place.spec c.get.result.now c.loop-place.place c.loop-place.invariant.few;
    })

pub returns-clause-in_range : goal.returns-clause-in_range
returns-clause-in_range c =
    let lines = c.args.lines.now in
    let script = c.loop-place.script.items in
    let whole = read_whole lines c.loop-place.place c.loop-place.spec script (script_of lines c.args.spec.now) (omega (arith, c.loop-place-test.false, c.len-place-end.ensures)) c.loop-place.invariant.script in
    all_asked_in_range c.loop-place.spec script (lines_asked lines 1 c.args.spec.now script c.loop-place.spec whole)

pub returns-clause-ok : goal.returns-clause-ok
returns-clause-ok c = grind (arith, common_steps)
