use Rattle.std.proofs.Common.{◌≡◌, ◌==◌, ◌&&◌, true, List, None, set, refl, sym, ap, ◌∙◌, subst}
use Rattle.std.proofs.lemmas.Bool.{and_parts}
use Rattle.hx_cluster.specs.declared.happenings.Event.TheVariants as events
use Rattle.hx_cluster.specs.Steps.{has_controller, is_leader}
use Rattle.hx_cluster.specs.Events.{next, begun_of}
use Rattle.hx_pass.specs.Turns.{Turn, begun_turn}
use Rattle.hx_script.specs.declared.log.LogEntry.TheVariants as logs
use Rattle.hx_check.specs.Standing.{Standing}
use Rattle.hx_check.specs.Answers.{answered}
use Rattle.hx_cluster.specs.declared.happenings.Begun.{Begun}
use Rattle.hx_check.specs.Judging.{AreTurns, IsAnsweredAs}
use Rattle.hx_check.proofs.Judged.{begin_made}
use Rattle.hx_check.proofs.Turning.{turn_below, turns_with, kept_next}
use Rattle.hx_check.proofs.judge.Judge.begin.Goals as goal

pub invariant_of-self-then-not-is_begun : goal.invariant_of-self-then-not-is_begun
invariant_of-self-then-not-is_begun c =
    let a = c.self.inside in
    kept_next a.replayed c.begin.new.self (events.Begin c.args.c (begun_of a.replayed c.args.c)) a.hops.items a.turns.items c.in_ok-begun.ensures.ok c.self.invariant

pub invariant_of-self-in_err-begin_turn : goal.invariant_of-self-in_err-begin_turn
invariant_of-self-in_err-begin_turn c =
    let a = c.self.inside in
    let kept = kept_next a.replayed c.begin.new.self (events.Begin c.args.c (begun_of a.replayed c.args.c)) a.hops.items a.turns.items c.in_ok-begun.ensures.ok c.self.invariant in
    (kept.0, subst (λ (ts : List Turn). AreTurns c.begin.new.self ts) (sym c.in_err-begin_turn.ensures.err) kept.1)

pub invariant_of-self-2 : goal.invariant_of-self-2
invariant_of-self-2 c =
    let a = c.self.inside in
    let k = c.args.c in
    let kept = kept_next a.replayed c.begin.new.self (events.Begin k (begun_of a.replayed k)) a.hops.items a.turns.items c.in_ok-begun.ensures.ok c.self.invariant in
    (kept.0, subst (λ (ts : List Turn). AreTurns c.begin.new.self ts) (sym c.in_ok-begin_turn.ensures.ok) (turns_with c.begin.new.self a.turns.items k.0 (begun_turn c.in_ok-begun.begun) kept.1 refl))

pub returns : goal.returns
returns c =
    let a = c.self.inside in
    let w : Standing = record { cluster = a.replayed; turns = a.turns.items; marks = a.marks.items } in
    let k = c.args.c in
    let may = subst (λ (x : Standing). (has_controller x.cluster k && is_leader k x.cluster.leader) ≡ true) (sym c.self.view_is) (sym c.may_begin.ensures ∙ c.if-not-may_begin.false) in
    let both = and_parts (has_controller a.replayed k) (is_leader k a.replayed.leader) may in
    let epoch = c.args.epoch in
    let pass = c.args.pass in
    let v : Standing = record { cluster = c.begin.new.self; turns = c.begin_turn.new.turns.items; marks = a.marks.items } in
    let numbers : (((begun_of a.replayed k).epoch.0 == epoch.0) && ((begun_of a.replayed k).pass.0 == pass.0)) ≡ true =
    ap (λ (b : Begun). (b.epoch.0 == epoch.0) && (b.pass.0 == pass.0)) (sym c.in_ok-begun.ensures.begun) ∙ sym c.is_begun.ensures ∙ c.if-not-is_begun.false in
    let same = and_parts ((begun_of a.replayed k).epoch.0 == epoch.0) ((begun_of a.replayed k).pass.0 == pass.0) numbers in
    let turns : c.begin_turn.new.turns.items ≡ set a.turns.items k.0 (begun_turn (begun_of a.replayed k)) =
    c.in_ok-begin_turn.ensures.ok ∙ ap (λ (b : Begun). set a.turns.items k.0 (begun_turn b)) c.in_ok-begun.ensures.begun in
    let stands : v ≡ record w { cluster = next a.replayed (events.Begin k (begun_of a.replayed k)); turns = set a.turns.items k.0 (begun_turn (begun_of a.replayed k)) } =
    (λ i. record { cluster = c.in_ok-begun.ensures.ok i; turns = turns i; marks = a.marks.items }) in
    subst (λ (x : Standing). IsAnsweredAs x (answered x (logs.Begin k epoch pass)) None v) c.self.view_is
    (begin_made w v k epoch pass both.0 both.1 same.0 same.1 (turn_below a.replayed a.turns.items k c.self.invariant.1 both.0) stands)
