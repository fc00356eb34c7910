use Rattle.std.proofs.Common.{◌+◌, ◌<◌, Some, length, sym, ap, ◌∙◌, inr, arith, rules}
use Rattle.std.proofs.lemmas.Grind.{common_steps}
use Rattle.std.proofs.lemmas.Result.{err_from_is_err_and}
use Rattle.hx_text.specs.Faults.{line_fault}
use Rattle.hx_text.proofs.LineFaults.{taken_more, taken_fault}
use Rattle.hx_text.proofs.line_table.split_valid.Goals as goal

pub returns-in_err-check_length-clause-err : goal.returns-in_err-check_length-clause-err
returns-in_err-check_length-clause-err c =
    let some : 0 < length c.loop-rest.rest.now = grind (arith, common_steps) in
    let p = err_from_is_err_and c.from_residual-in_err-check_length.result c.from_residual-in_err-check_length.ensures.1 in
    let faulty = ap (λ n. line_fault c.args.most (n + 1) c.split_text.result.0.now) (sym c.len.ensures) ∙ c.in_err-check_length.ensures.err in
    rw p.1 (inr (taken_fault c.args.most c.args.text.now c.loop-rest.rest.now c.split_text.result.0.now c.loop-rest.lines _ some c.loop-rest.invariant.1 c.split_text.ensures.line faulty ∙ ap (λ e. Some e) (sym p.2)))

pub loop-rest-preserved : goal.loop-rest-preserved
loop-rest-preserved c =
    let some : 0 < length c.loop-rest.rest.now = grind (arith, common_steps) in
    let faultless = ap (λ n. line_fault c.args.most (n + 1) c.split_text.result.0.now) (sym c.len.ensures) ∙ c.in_ok-check_length.ensures.ok in (
      search rules,
      taken_more c.args.most c.args.text.now c.loop-rest.rest.now c.split_text.result.0.now c.split_text.result.1.now _ _ some c.loop-rest.invariant.1 c.split_text.ensures.line c.split_text.ensures.rest faultless c.in_ok-push.ensures.ok,
    )

pub loop-rest-smaller : goal.loop-rest-smaller
loop-rest-smaller c = grind (arith, common_steps)

pub returns-clause-ok : goal.returns-clause-ok
returns-clause-ok c = grind (arith, common_steps)
