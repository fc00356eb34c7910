use Rattle.std.proofs.Common.{◌≡◌, true, Some, None, sym, ap, ◌∙◌, subst}
use Rattle.hx_cluster.specs.declared.happenings.Did.{Did}
use Rattle.hx_cluster.specs.declared.happenings.Event.TheVariants as events
use Rattle.hx_cluster.specs.declared.state.Cluster.{Cluster}
use Rattle.hx_cluster.specs.Steps.{did_of}
use Rattle.hx_check.specs.Standing.{Standing}
use Rattle.hx_check.specs.Answers.{stepped_if}
use Rattle.hx_check.specs.Judging.{is_told, answer_of, IsAnsweredAs}
use Rattle.hx_check.proofs.Judged.{step_free, step_made}
use Rattle.hx_check.proofs.Turning.{kept_next}
use Rattle.hx_check.proofs.judge.Judge.step.Goals as goal

pub invariant_of-self-2 : goal.invariant_of-self-2
invariant_of-self-2 c =
    let a = c.self.inside in
    let step = c.args.step.now in
    kept_next a.replayed c.make.new.self (events.Admin step (did_of a.replayed step)) a.hops.items a.turns.items c.in_ok-make.ensures.ok c.self.invariant

pub returns : goal.returns
returns c =
    let a = c.self.inside in
    let step = c.args.step.now in
    let told = c.args.told in
    let w : Standing = record { cluster = a.replayed; turns = a.turns.items; marks = a.marks.items } in
    let v : Standing = record { cluster = c.make.new.self; turns = a.turns.items; marks = a.marks.items } in
    let some : answer_of a.replayed step ≡ Some c.in-Some.did = sym c.in_ok-did.ensures ∙ c.in-Some.is in
    let free = step_free a.replayed step c.in-Some.did some in
    let agreed : is_told told (did_of a.replayed step) ≡ true =
    ap (λ (did : Did). is_told told did) (sym free.answers) ∙ sym c.is_told.ensures ∙ c.if-not-is_told.false in
    subst (λ (x : Standing). IsAnsweredAs x (stepped_if x.cluster (is_told told (did_of x.cluster step)) step) None v) c.self.view_is
    (step_made w v (is_told told (did_of a.replayed step)) step c.in-Some.did some agreed (ap (λ (x : Cluster). record w { cluster = x }) c.in_ok-make.ensures.ok))
