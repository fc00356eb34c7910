use Rattle.hx_text.specs.Lines.{lines_of}
use Rattle.hx_app.proofs.Parts.{script_fits, lines_fit}
use Rattle.hx_app.proofs.Described.{readable}
use Rattle.hx_app.proofs.verdicts.judged.Goals as goal

pub verdict_on-requires-clause-short : goal.verdict_on-requires-clause-short
verdict_on-requires-clause-short c = script_fits c.args.bytes.now c.in-Some.input.description.now c.in-Some.input.script.now c.in-Some.ensures c.requires

pub verdict_on-requires-clause-readable : goal.verdict_on-requires-clause-readable
verdict_on-requires-clause-readable c =
    readable c.args.bytes.now c.in-Ok.spec (lines_of c.in-Some.input.script.now) c.in-Ok.ensures.read
    (lines_fit c.args.bytes.now c.in-Some.input.description.now c.in-Some.input.script.now c.in-Some.ensures c.requires)
