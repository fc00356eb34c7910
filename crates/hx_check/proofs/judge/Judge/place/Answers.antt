use Rattle.std.proofs.Common.{◌≡◌, ◌<◌, ◌==◌, ◌&&◌, true, List, length, sym, ◌∙◌, subst}
use Rattle.std.proofs.lemmas.Bool.{and_parts}
use Rattle.hx_cluster.specs.declared.happenings.Event.TheVariants as events
use Rattle.hx_cluster.specs.Steps.{has_controller}
use Rattle.hx_check.specs.Standing.{Standing}
use Rattle.std.proofs.Common.{map}
use Rattle.std.specs.List.{list_all}
use Rattle.hx_cluster.specs.declared.happenings.Proposal.{Proposal}
use Rattle.hx_cluster.specs.Reads.{pass_of}
use Rattle.hx_cluster.specs.Events.{is_epoch, is_pass, is_proposable, dispatched_of}
use Rattle.hx_check.specs.Answers.{is_move, proposal_of}
use Rattle.hx_check.specs.Judging.{may_place}
use Rattle.hx_check.proofs.Judged.{all_proposable}
use Rattle.hx_check.proofs.Turning.{turn_below, kept_next}
use Rattle.hx_check.proofs.judge.Judge.place.Goals as goal
use Rattle.hx_check.proofs.judge.Judge.place.Goals.{Else-not-may_place}

-- each move may be made, and the controller is there
may : (c : Else-not-may_place) → (list_all (is_move c.self.inside.replayed) c.args.moves.now ≡ true) × (has_controller c.self.inside.replayed c.args.c ≡ true)
may c =
    let x = c.self.inside.replayed in
    let k = c.args.c in
    let moves = c.args.moves.now in
    let yes = subst (λ (x : Standing). may_place x.cluster k c.args.epoch c.args.pass moves ≡ true) (sym c.self.view_is) (sym c.may_place.ensures ∙ c.if-not-may_place.false) in
    let both = and_parts (list_all (is_move x) moves && is_epoch x c.args.epoch) (is_pass x k c.args.pass) yes in
    ((and_parts (list_all (is_move x) moves) (is_epoch x c.args.epoch) both.0).0, (and_parts (has_controller x k) ((pass_of x k).0 == c.args.pass.0) both.1).0)

pub dispatch-requires-clause-there : goal.dispatch-requires-clause-there
dispatch-requires-clause-there c = (may (goal.at.dispatch-requires-clause-there c).Else-not-may_place).1

pub dispatch-requires-clause-range : goal.dispatch-requires-clause-range
dispatch-requires-clause-range c =
    let x = c.self.inside.replayed in
    let moves = c.args.moves.now in
    let told : c.as_slice.result.now ≡ map proposal_of moves = c.as_slice.ensures.value ∙ c.in_ok-proposals.ensures in
    subst (λ (qs : List Proposal). list_all (is_proposable x) qs ≡ true) (sym told) (all_proposable x moves (may (goal.at.dispatch-requires-clause-range c).Else-not-may_place).0)

pub invariant_of-self-2 : goal.invariant_of-self-2
invariant_of-self-2 c =
    let a = c.self.inside in
    let qs = c.as_slice.result.now in
    kept_next a.replayed c.dispatch.new.self (events.Dispatch c.args.c c.args.epoch c.args.pass qs (dispatched_of a.replayed c.args.c qs)) a.hops.items a.turns.items c.in_ok-answer.ensures.ok c.self.invariant

pub returns-clause-turn : goal.returns-clause-turn
returns-clause-turn c =
    let a = c.self.inside in
    let there = (may (goal.at.returns-clause-turn c).Else-not-may_place).1 in
    λ yes. subst (λ (x : Standing). c.args.c.0 < length x.turns) c.self.view_is (turn_below a.replayed a.turns.items c.args.c c.self.invariant.1 there)
