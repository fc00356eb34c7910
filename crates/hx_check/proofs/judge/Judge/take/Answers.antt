use Rattle.std.proofs.Common.{ℕ, List, ap, ◌∙◌}
use Rattle.std.specs.Prelude.{nat_lt}
use Rattle.hx_cluster.specs.declared.happenings.Event.TheVariants as events
use Rattle.hx_script.specs.declared.log.LogEntry.TheVariants as logs
use Rattle.hx_check.specs.Standing.{mark_of}
use Rattle.hx_check.proofs.Judged.{take_answered, mark_answered}
use Rattle.hx_check.proofs.Turning.{kept_if}
use Rattle.hx_check.proofs.judge.Judge.take.Goals as goal

pub invariant_of-self : goal.invariant_of-self
invariant_of-self c = kept_if c.self.inside.replayed c.take.new.self c.take.result (events.Take c.args.session c.args.id) c.self.inside.hops.items c.self.inside.turns.items c.take.ensures.1 c.self.invariant

pub returns : goal.returns
returns c =
    mark_answered _ c.args.self.now c.take.new.self (logs.Take c.args.session c.args.id) (events.Take c.args.session c.args.id) c.take.result _ _ c.self.view_is c.taken.ensures c.take.ensures.1
    (λ v stands. take_answered _ v c.args.session c.args.id c.take.result c.is_marked-shown.result c.take.ensures.0 (c.is_marked-shown.ensures ∙ ap (λ (ms : List ℕ). nat_lt c.args.id.0 (mark_of ms c.args.session)) c.as_slice.ensures.value) stands)
