use Rattle.std.proofs.Common.{◌≡◌, true, false, length, Option, None, Some, subst, arith}
use Rattle.std.specs.Prelude.{MatchOption}
use Rattle.std.proofs.lemmas.Result.{err_from_is_err_and}
use Rattle.hx_cluster.specs.Views.{is_well_formed}
use Rattle.hx_pass.specs.Drafts.{Draft, draft}
use Rattle.hx_control.specs.Steps.{is_of_cluster}
use Rattle.hx_control.proofs.Sending.{view_unformed}
use Rattle.hx_control.specs.declared.controller.Planned.TheVariants as wanted
use Rattle.hx_control.specs.Turning.{IsPlanned}
use Rattle.hx_control.proofs.Ending.{plan_done, plan_refused, plan_wants, still_turn}
use Rattle.hx_control.proofs.Wanted.{none_planned, view_planned}
use Rattle.hx_control.proofs.controller.Controller.make_plan.Goals as goal
use Rattle.hx_control.proofs.controller.Controller.make_plan.Goals.{In-Some}

-- the view of a draft is well formed
found : (c : In-Some) → (is_well_formed c.args.spec.now.models (length c.args.spec.now.instances) c.self.inside.view ≡ true) × (c.in-Some.draft ≡ draft c.args.spec.now.models c.args.spec.now.rules c.self.inside.view)
found c =
    subst (λ (o : Option Draft). MatchOption o (is_well_formed c.args.spec.now.models (length c.args.spec.now.instances) c.self.inside.view ≡ false)
    (λ d. (is_well_formed c.args.spec.now.models (length c.args.spec.now.instances) c.self.inside.view ≡ true) × (d ≡ draft c.args.spec.now.models c.args.spec.now.rules c.self.inside.view)))
    c.in-Some.is c.in_ok-draft.ensures.made

-- and was planned last
last : (c : In-Some) → c.draft_of.new.planner ≡ Some c.self.inside.view
last c = subst (λ (o : Option Draft). MatchOption o (c.draft_of.new.planner ≡ None) (λ _. c.draft_of.new.planner ≡ Some c.self.inside.view)) c.in-Some.is c.in_ok-draft.ensures.planned

-- so its ideals are known
wants : (c : In-Some) → IsPlanned wanted.Shown c.self.inside.spare c.self.inside.view.ideals c.draft_of.new.planner
wants c = view_planned c.self.inside.spare c.self.inside.view c.draft_of.new.planner (last c)

pub draft_of-requires-clause-hops : goal.draft_of-requires-clause-hops
draft_of-requires-clause-hops c = c.requires.hops

pub draft_of-requires-clause-same : goal.draft_of-requires-clause-same
draft_of-requires-clause-same c = c.self.invariant.wants.shows

pub invariant_of-self : goal.invariant_of-self
invariant_of-self c =
    still_turn c.self.inside c.args.self.now c.self.inside.formed c.self.inside.planned c.draft_of.new.planner c.self.view_is c.requires.next c.requires.none c.self.invariant c.self.invariant.formed
    (none_planned c.self.inside.planned c.self.inside.spare c.self.inside.view.ideals c.draft_of.new.planner c.in_err-draft.ensures.refused)

pub returns-in_err-draft : goal.returns-in_err-draft
returns-in_err-draft c =
    let p = err_from_is_err_and c.from_residual.result c.from_residual.ensures.1 in
    rw (p.1, p.2) (plan_wants c.args.spec.now c.args.board.now c.self.inside c.args.self.now c.self.view_is)

pub invariant_of-self-in_default : goal.invariant_of-self-in_default
invariant_of-self-in_default c =
    let none : c.draft_of.new.planner ≡ None =
    subst (λ (o : Option Draft). MatchOption o (c.draft_of.new.planner ≡ None) (λ _. c.draft_of.new.planner ≡ Some c.self.inside.view)) c.in_default.is c.in_ok-draft.ensures.planned in
    still_turn c.self.inside c.args.self.now c.self.inside.formed c.self.inside.planned c.draft_of.new.planner c.self.view_is c.requires.next c.requires.none c.self.invariant c.self.invariant.formed
    (none_planned c.self.inside.planned c.self.inside.spare c.self.inside.view.ideals c.draft_of.new.planner none)

pub keep_of_board-requires : goal.keep_of_board-requires
keep_of_board-requires c = record { board = c.requires.board; formed = (found (goal.at.keep_of_board-requires c).In-Some).0 }

pub returns-in_default : goal.returns-in_default
returns-in_default c =
    let bad : is_well_formed c.args.spec.now.models (length c.args.spec.now.instances) c.self.inside.view ≡ false =
    subst (λ (o : Option Draft). MatchOption o (is_well_formed c.args.spec.now.models (length c.args.spec.now.instances) c.self.inside.view ≡ false)
    (λ d. (is_well_formed c.args.spec.now.models (length c.args.spec.now.instances) c.self.inside.view ≡ true) × (d ≡ draft c.args.spec.now.models c.args.spec.now.rules c.self.inside.view)))
    c.in_default.is c.in_ok-draft.ensures.made in
    let of : is_of_cluster c.args.spec.now c.args.board.now.cluster c.self.inside.view ≡ false =
    view_unformed c.args.spec.now c.args.board.now c.self.inside.view c.history.ensures.history c.requires.board bad in
    plan_refused c.args.spec.now c.args.board.now c.self.inside c.args.self.now c.self.view_is c.requires.next of

pub invariant_of-self-in_err-keep_of_board : goal.invariant_of-self-in_err-keep_of_board
invariant_of-self-in_err-keep_of_board c =
    still_turn c.self.inside c.args.self.now c.keep_of_board.new.formed wanted.Shown c.draft_of.new.planner c.self.view_is c.requires.next c.requires.none c.self.invariant
    (c.in_err-keep_of_board.ensures.found c.self.invariant.formed) (wants (goal.at.invariant_of-self-in_err-keep_of_board c).In-Some)

pub returns-in_err-keep_of_board : goal.returns-in_err-keep_of_board
returns-in_err-keep_of_board c =
    let p = err_from_is_err_and c.from_residual-in_err-keep_of_board.result c.from_residual-in_err-keep_of_board.ensures.1 in
    rw (p.1, p.2) (plan_wants c.args.spec.now c.args.board.now c.self.inside c.args.self.now c.self.view_is)

pub invariant_of-self-then-not-branch : goal.invariant_of-self-then-not-branch
invariant_of-self-then-not-branch c =
    still_turn c.self.inside c.args.self.now c.keep_of_board.new.formed wanted.Shown c.draft_of.new.planner c.self.view_is c.requires.next c.requires.none c.self.invariant
    (c.in_ok-keep_of_board.ensures.found c.self.invariant.formed) (wants (goal.at.invariant_of-self-then-not-branch c).In-Some)

pub returns-then-not-branch : goal.returns-then-not-branch
returns-then-not-branch c =
    let of : is_of_cluster c.args.spec.now c.args.board.now.cluster c.self.inside.view ≡ false = grind (arith, c.in_ok-keep_of_board.ensures.is, c.if-not-branch.true) in
    plan_refused c.args.spec.now c.args.board.now c.self.inside c.args.self.now c.self.view_is c.requires.next of

pub invariant_of-self-2 : goal.invariant_of-self-2
invariant_of-self-2 c =
    let at = (goal.at.invariant_of-self-2 c).In-Some in
    record {
      left = c.self.invariant.left;
      few = c.self.invariant.few;
      formed = c.in_ok-keep_of_board.ensures.found c.self.invariant.formed;
      drafted = last at;
      posts = λ is. last at;
      wants = wants at;
    }

pub returns : goal.returns
returns c =
    let of : is_of_cluster c.args.spec.now c.args.board.now.cluster c.self.inside.view ≡ true = grind (arith, c.in_ok-keep_of_board.ensures.is, c.if-not-branch.false) in
    plan_done c.args.spec.now c.args.board.now c.self.inside c.args.self.now c.in-Some.draft c.self.view_is c.requires.next c.requires.none of (found (goal.at.returns c).In-Some).1
