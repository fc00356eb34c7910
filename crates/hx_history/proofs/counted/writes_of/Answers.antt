use Rattle.std.proofs.Common.{ap, ◌∙◌, arith}
use Rattle.hx_lists.specs.Lists.{count}
use Rattle.hx_history.specs.Counted.{is_write_of}
use Rattle.hx_history.proofs.Counting.{count-split, count-le}
use Rattle.hx_history.proofs.counted.writes_of.Goals as goal

pub loop-rest-preserved : goal.loop-rest-preserved
loop-rest-preserved c =
    let test = is_write_of c.args.outcome in
    let parts = count-split test c.min.result c.loop-rest.rest.now in
    let few = c.writes_of_few.ensures ∙ ap (count test) c.split_at.ensures.front in
    let later = ap (count test) c.split_at.ensures.back in
    let most = count-le test c.split_at.result.0.now in
    record {
      found = omega (arith, parts, few, later, c.loop-rest.invariant.found);
      few = omega (arith, most, c.writes_of_few.ensures, c.split_at.ensures.front_len, c.split_at.ensures.back_len, c.loop-rest.invariant.few);
    }
