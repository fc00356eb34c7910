use Rattle.std.proofs.Common.{◌≡◌, List, None, Some, sym, ap, ◌∙◌, subst}
use Rattle.hx_cluster.specs.declared.state.Cluster.{Cluster}
use Rattle.hx_cluster.specs.declared.happenings.Event.TheVariants as events
use Rattle.hx_cluster.specs.declared.happenings.Admin.TheVariants as steps
use Rattle.hx_cluster.specs.Steps.{did_of, ended_by}
use Rattle.hx_script.specs.declared.log.LogEntry.TheVariants as logs
use Rattle.hx_check.specs.declared.Cause.TheVariants as causes
use Rattle.hx_check.specs.Standing.{Standing}
use Rattle.hx_check.specs.Answers.{answered}
use Rattle.std.proofs.Common.{map}
use Rattle.std.specs.Cmp.Lexicographic.{pointwise}
use Rattle.hx_ids.specs.declared.SessionId.{SessionId}
use Rattle.hx_ids.specs.declared.InstanceId.{InstanceId}
use Rattle.hx_cluster.specs.Ends.{shown_of}
use Rattle.hx_script.specs.LogEntries.{ended_told}
use Rattle.hx_check.specs.Answers.{same_ended}
use Rattle.hx_check.specs.Judging.{answer_of, IsAnsweredAs}
use Rattle.hx_check.proofs.Judged.{step_free, step_differs, step_made}
use Rattle.hx_check.proofs.Turning.{kept_next}
use Rattle.hx_check.proofs.judge.Judge.tick.Goals as goal
use Rattle.hx_check.proofs.judge.Judge.tick.Goals.{After-has_ended}

some : (c : After-has_ended) → answer_of c.self.inside.replayed (steps.Tick c.args.n) ≡ Some c.in-Some.did
some c = sym c.in_ok-did.ensures ∙ c.in-Some.is

-- whether the sessions that ended are those of the log
told : (c : After-has_ended) → c.has_ended.result ≡ pointwise same_ended c.args.told.now (map (ended_told (shown_of c.self.inside.replayed.live)) (ended_by c.self.inside.replayed c.args.n))
told c =
    let a = c.self.inside in
    let free = step_free a.replayed (steps.Tick c.args.n) c.in-Some.did (some c) in
    c.has_ended.ensures (ended_by a.replayed c.args.n) free.answers
    ∙ ap (λ (l : List (SessionId × InstanceId)). pointwise same_ended c.args.told.now (map (ended_told l) (ended_by a.replayed c.args.n))) (c.as_slice.ensures.value ∙ c.in_ok-live.ensures ∙ ap (λ (x : Cluster). shown_of x.live) c.records.ensures.same)

pub returns-then-not-has_ended : goal.returns-then-not-has_ended
returns-then-not-has_ended c =
    let a = c.self.inside in
    let w : Standing = record { cluster = a.replayed; turns = a.turns.items; marks = a.marks.items } in
    subst (λ (x : Standing). IsAnsweredAs x (answered x (logs.Tick c.args.n c.args.told.now)) (Some causes.Step) c.args.self.now) c.self.view_is
    (step_differs w c.args.self.now _ (steps.Tick c.args.n) (sym (told (goal.at.returns-then-not-has_ended c).After-has_ended) ∙ c.if-not-has_ended.true))

pub invariant_of-self-2 : goal.invariant_of-self-2
invariant_of-self-2 c =
    let a = c.self.inside in
    let step = steps.Tick c.args.n in
    kept_next a.replayed c.make.new.self (events.Admin step (did_of a.replayed step)) a.hops.items a.turns.items c.in_ok-make.ensures.ok c.self.invariant

pub returns : goal.returns
returns c =
    let a = c.self.inside in
    let w : Standing = record { cluster = a.replayed; turns = a.turns.items; marks = a.marks.items } in
    let here = (goal.at.returns c).After-has_ended in
    let v : Standing = record { cluster = c.make.new.self; turns = a.turns.items; marks = a.marks.items } in
    subst (λ (x : Standing). IsAnsweredAs x (answered x (logs.Tick c.args.n c.args.told.now)) None v) c.self.view_is
    (step_made w v _ (steps.Tick c.args.n) c.in-Some.did (some here) (sym (told here) ∙ c.if-not-has_ended.false) (ap (λ (x : Cluster). record w { cluster = x }) c.in_ok-make.ensures.ok))
