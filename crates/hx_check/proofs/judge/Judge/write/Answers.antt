use Rattle.hx_cluster.specs.declared.happenings.Event.TheVariants as events
use Rattle.hx_script.specs.declared.log.LogEntry.TheVariants as logs
use Rattle.hx_check.proofs.Judged.{write_answered, mark_answered}
use Rattle.hx_check.proofs.Turning.{kept_if}
use Rattle.hx_check.proofs.judge.Judge.write.Goals as goal

pub invariant_of-self : goal.invariant_of-self
invariant_of-self c = kept_if c.self.inside.replayed c.write.new.self c.write.result (events.Write c.args.session c.args.id c.args.outcome) c.self.inside.hops.items c.self.inside.turns.items c.write.ensures.1 c.self.invariant

pub returns : goal.returns
returns c =
    mark_answered _ c.args.self.now c.write.new.self (logs.Write c.args.session c.args.id c.args.outcome) (events.Write c.args.session c.args.id c.args.outcome) c.write.result _ _ c.self.view_is c.fault_unless.ensures c.write.ensures.1
    (λ v stands. write_answered _ v c.args.session c.args.id c.args.outcome c.write.result c.write.ensures.0 stands)
