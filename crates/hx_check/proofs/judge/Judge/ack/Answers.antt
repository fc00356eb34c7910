use Rattle.hx_cluster.specs.declared.happenings.Event.TheVariants as events
use Rattle.hx_script.specs.declared.log.LogEntry.TheVariants as logs
use Rattle.hx_check.proofs.Judged.{ack_answered, mark_answered}
use Rattle.hx_check.proofs.Turning.{kept_if}
use Rattle.hx_check.proofs.judge.Judge.ack.Goals as goal

pub invariant_of-self : goal.invariant_of-self
invariant_of-self c = kept_if c.self.inside.replayed c.ack.new.self c.ack.result (events.Ack c.args.session c.args.id) c.self.inside.hops.items c.self.inside.turns.items c.ack.ensures.1 c.self.invariant

pub returns : goal.returns
returns c =
    mark_answered _ c.args.self.now c.ack.new.self (logs.Ack c.args.session c.args.id) (events.Ack c.args.session c.args.id) c.ack.result _ _ c.self.view_is c.fault_unless.ensures c.ack.ensures.1
    (λ v stands. ack_answered _ v c.args.session c.args.id c.ack.result c.ack.ensures.0 stands)
