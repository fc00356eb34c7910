use Rattle.std.proofs.Common.{Some, sym, ap, ◌∙◌, subst}
use Rattle.std.proofs.lemmas.Result.{IfOk-weaker}
use Rattle.hx_script.specs.declared.log.LogEntry.TheVariants as logs
use Rattle.hx_script.specs.declared.log.LogEntry.{LogEntry}
use Rattle.hx_check.specs.Judge.{judged_entry}
use Rattle.hx_check.specs.Judging.{IsJudgedAs}
use Rattle.hx_check.proofs.judge.Judge.judge.Goals as goal

pub returns-in-Tick : goal.returns-in-Tick
returns-in-Tick c =
    IfOk-weaker c.tick.result _ _
    (λ cause is. subst (λ (e : LogEntry). IsJudgedAs c.args.self.now (judged_entry c.args.spec.now c.args.self.now (Some e)) cause c.tick.new.self) (ap (logs.Tick c.in-Tick.n) c.as_slice.ensures ∙ sym c.in-Tick.is) (is c.args.spec.now))
    c.tick.ensures
