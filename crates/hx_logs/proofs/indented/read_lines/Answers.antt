use Rattle.std.proofs.Common.{arith}
use Rattle.std.proofs.lemmas.Grind.{common_steps}
use Rattle.hx_logs.proofs.IndentedLines.{line_put, line_fault}
use Rattle.hx_logs.proofs.indented.read_lines.Goals as goal

pub returns-in-Err : goal.returns-in-Err
returns-in-Err g c = line_fault (g.F.LineForm.found c.args.form.now) _ _ _ _ _ _ _ c.loop-line-test.true c.as_slice.ensures.value c.in_ok-cut_words.ensures c.in-Err.ensures c.loop-line.invariant

pub loop-line-preserved : goal.loop-line-preserved
loop-line-preserved g c =
    line_put (g.F.LineForm.found c.args.form.now) _ _ _ _ _ _ _ _ c.loop-line-test.true c.as_slice.ensures.value c.in_ok-cut_words.ensures c.in-Ok.ensures c.in_ok-push.ensures.ok c.loop-line.invariant

pub returns : goal.returns
returns g c = grind (arith, common_steps)
