use Rattle.std.proofs.Common.{◌≡◌, true, false, arith}
use Rattle.std.proofs.lemmas.Grind.{common_steps}
use Rattle.std.specs.Str.{bytes_eq}
use Rattle.hx_text.specs.Lines.{separator}
use Rattle.hx_text.proofs.FirstLine.{seen_more, seen_cut}
use Rattle.hx_text.proofs.line_ends.cut.Goals as goal

pub returns-then-eq : goal.returns-then-eq
returns-then-eq c =
    let found : bytes_eq c.split_line.result.0.now separator ≡ true = cc in
    seen_cut c.args.bytes.now c.loop-rest.rest.now _ _ c.loop-rest.invariant c.split_line.ensures.line c.split_line.ensures.rest found

pub loop-rest-preserved : goal.loop-rest-preserved
loop-rest-preserved c =
    let other : bytes_eq c.split_line.result.0.now separator ≡ false = cc in
    seen_more c.args.bytes.now c.loop-rest.rest.now _ _ c.loop-rest.invariant c.split_line.ensures.line c.split_line.ensures.rest other

pub slice_bounds-result-count : goal.slice_bounds-result-count
slice_bounds-result-count c = grind (arith, common_steps)

pub loop-rest-smaller : goal.loop-rest-smaller
loop-rest-smaller c = grind (arith, common_steps)

pub returns : goal.returns
returns c = grind (arith, common_steps)
