use Rattle.std.proofs.Common.{◌+◌, ◌<◌, Some, List, ℕ, [], ◌∷◌, ◌++◌, length, sym, ap, ◌∙◌, inr, arith}
use Rattle.std.proofs.lemmas.Grind.{common_steps}
use Rattle.std.proofs.lemmas.Result.{err_from_is_err_and}
use Rattle.hx_text.specs.Faults.{line_fault}
use Rattle.hx_text.proofs.LineFaults.{taken_more, taken_fault}
use Rattle.hx_text.proofs.line_table.split_checked.Goals as goal

pub returns-in_err-text-clause-err : goal.returns-in_err-text-clause-err
returns-in_err-text-clause-err c =
    let some : 0 < length c.loop-rest.rest.now = grind (arith, common_steps) in
    let p = err_from_is_err_and c.from_residual-in_err-text.result c.from_residual-in_err-text.ensures.1 in
    let faulty = ap (λ n. line_fault c.args.most (n + 1) c.split_line.result.0.now) (sym c.len.ensures) ∙ c.in_err-text.ensures.err in
    rw p.1 (inr (taken_fault c.args.most c.args.bytes.now c.loop-rest.rest.now c.split_line.result.0.now c.loop-rest.lines _ some c.loop-rest.invariant c.split_line.ensures.line faulty ∙ ap (λ e. Some e) (sym p.2)))

pub loop-rest-preserved : goal.loop-rest-preserved
loop-rest-preserved c =
    let some : 0 < length c.loop-rest.rest.now = grind (arith, common_steps) in
    let line_is = c.in_ok-text.ensures.ok.0 in
    let faultless = ap (λ n. line_fault c.args.most (n + 1) c.split_line.result.0.now) (sym c.len.ensures) ∙ c.in_ok-text.ensures.ok.1 in
    let new_is = c.in_ok-push.ensures.ok ∙ ap (λ (l : List ℕ). c.loop-rest.lines ++ l ∷ []) line_is in
    taken_more c.args.most c.args.bytes.now c.loop-rest.rest.now c.split_line.result.0.now c.split_line.result.1.now _ _ some c.loop-rest.invariant c.split_line.ensures.line c.split_line.ensures.rest faultless new_is

pub loop-rest-smaller : goal.loop-rest-smaller
loop-rest-smaller c = grind (arith, common_steps)

pub returns-clause-ok : goal.returns-clause-ok
returns-clause-ok c = grind (arith, common_steps)
