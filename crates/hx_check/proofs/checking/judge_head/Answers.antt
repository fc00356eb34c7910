use Rattle.std.proofs.Common.{arith}
use Rattle.std.proofs.lemmas.Grind.{common_steps}
use Rattle.hx_check.proofs.Streaming.{named_told, kept_at}
use Rattle.hx_check.proofs.checking.judge_head.Goals as goal

pub returns-clause-kept : goal.returns-clause-kept
returns-clause-kept c =
    let spec = c.args.spec.now in
    let after = c.read_entry.new.spec in
    kept_at spec after c.args.place c.args.lines.now (named_told spec after c.args.place c.args.lines.now c.in_ok-entry.field-0 c.in_ok-entry.ensures.ok.0 c.in_ok-entry.ensures.ok.1)

pub returns-clause-cause : goal.returns-clause-cause
returns-clause-cause c = grind (arith, common_steps)
