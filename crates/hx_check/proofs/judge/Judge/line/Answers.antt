use Rattle.std.proofs.Common.{◌≡◌, true, None, sym, ap, ◌∙◌, subst}
use Rattle.hx_cluster.specs.declared.state.Cluster.{Cluster}
use Rattle.hx_cluster.specs.declared.happenings.Event.TheVariants as events
use Rattle.hx_cluster.specs.Events.{is_later}
use Rattle.hx_script.specs.declared.log.LogEntry.TheVariants as logs
use Rattle.hx_check.specs.Standing.{Standing}
use Rattle.hx_check.specs.Answers.{answered}
use Rattle.hx_check.specs.Judging.{IsAnsweredAs}
use Rattle.hx_check.proofs.Judged.{line_made}
use Rattle.hx_check.proofs.Turning.{kept_next}
use Rattle.hx_check.proofs.judge.Judge.line.Goals as goal

pub invariant_of-self-2 : goal.invariant_of-self-2
invariant_of-self-2 c = kept_next c.self.inside.replayed c.take_line.new.self (events.Line c.args.number) c.self.inside.hops.items c.self.inside.turns.items c.in_ok-take_line.ensures.ok c.self.invariant

pub returns : goal.returns
returns c =
    let a = c.self.inside in
    let w : Standing = record { cluster = a.replayed; turns = a.turns.items; marks = a.marks.items } in
    let n = c.args.number in
    let v : Standing = record { cluster = c.take_line.new.self; turns = a.turns.items; marks = a.marks.items } in
    let later = subst (λ (x : Standing). is_later x.cluster.line n ≡ true) (sym c.self.view_is) (sym c.may_line.ensures ∙ c.if-not-may_line.false) in
    subst (λ (x : Standing). IsAnsweredAs x (answered x (logs.Line n)) None v) c.self.view_is
    (line_made w v n later (ap (λ (x : Cluster). record w { cluster = x }) c.in_ok-take_line.ensures.ok))
