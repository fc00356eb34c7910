use Rattle.std.proofs.Common.{sym, subst}
use Rattle.std.specs.Prelude.{IfOk}
use Rattle.hx_ids.specs.declared.PartId.{PartId}
use Rattle.hx_cluster.specs.declared.happenings.Admin.TheVariants as steps
use Rattle.hx_script.specs.declared.log.LogEntry.{LogEntry}
use Rattle.hx_check.specs.Answers.{answered, is_part, stepped_if}
use Rattle.hx_check.specs.Judging.{IsAnsweredAs}
use Rattle.hx_check.proofs.judge.Judge.judge_step.Goals as goal

pub returns-in-List : goal.returns-in-List
returns-in-List c =
    let w = c.args.self.now in
    subst (λ (e : LogEntry). IfOk c.part_step.result (λ cause. IsAnsweredAs w (answered w e) cause c.part_step.new.self)) (sym c.in-List.is)
    (subst (λ (p : PartId). IfOk c.part_step.result (λ cause. IsAnsweredAs w (stepped_if w.cluster (is_part w.cluster c.in-List.part) (steps.SetList p c.in-List.list)) cause c.part_step.new.self)) c.part_of.ensures c.part_step.ensures)

pub returns-in-Map : goal.returns-in-Map
returns-in-Map c =
    let w = c.args.self.now in
    subst (λ (e : LogEntry). IfOk c.part_step-in-Map.result (λ cause. IsAnsweredAs w (answered w e) cause c.part_step-in-Map.new.self)) (sym c.in-Map.is)
    (subst (λ (p : PartId). IfOk c.part_step-in-Map.result (λ cause. IsAnsweredAs w (stepped_if w.cluster (is_part w.cluster c.in-Map.part) (steps.SetMap p c.in-Map.map)) cause c.part_step-in-Map.new.self)) c.part_of-in-Map.ensures c.part_step-in-Map.ensures)
