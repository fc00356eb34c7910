use Rattle.std.proofs.Common.{◌≡◌, ◌⊎◌, ◌∙◌, Option, Some, true, false, inl, inr, refl, sym, ap, subst, arith}
use Rattle.std.proofs.lemmas.Result.{err_from_is_err_and}
use Rattle.hx_cluster.specs.declared.planning.Plan.{Plan}
use Rattle.hx_pass.specs.Drafts.{finished}
use Rattle.hx_control.specs.declared.ControlFault.{ControlFault}
use Rattle.hx_control.specs.declared.ControlFault.TheVariants as faults
use Rattle.hx_gen.specs.Modelled.{has_models}
use Rattle.hx_control.specs.Controllers.{Controller}
use Rattle.hx_control.specs.Steps.{step_of, is_of_cluster}
use Rattle.hx_control.specs.Turning.{with_plan}
use Rattle.hx_control.specs.Made.{step_fault}
use Rattle.hx_control.proofs.Sending.{of_cluster_modelled}
use Rattle.hx_control.proofs.Ending.{dispatch_of_other, dispatched_draft, fault_of_draft}
use Rattle.hx_control.proofs.controller.Controller.dispatch_draft.Goals as goal
use Rattle.hx_control.proofs.controller.Controller.dispatch_draft.Goals.{In_ok-plan}

-- what is sent is refused as the whole plan is
same : (c : In_ok-plan)
    → step_fault c.args.board.now (step_of c.args.spec.now c.args.board.now.cluster (with_plan c.args.self.now c.in_ok-plan.plan))
    ≡ step_fault c.args.board.now (step_of c.args.spec.now c.args.board.now.cluster (with_plan c.args.self.now (finished c.args.self.now.turn.view c.args.draft.now)))
same c =
    fault_of_draft c.args.spec.now c.args.board.now c.args.self.now c.in_ok-plan.plan (finished c.args.self.now.turn.view c.args.draft.now) c.requires.next c.in_ok-plan.ensures.proposals

pub is_of_board-requires : goal.is_of_board-requires
is_of_board-requires c = record { board = c.requires.board; formed = c.self.invariant.formed }

pub returns-in_err-is_of_board : goal.returns-in_err-is_of_board
returns-in_err-is_of_board c =
    let p = err_from_is_err_and c.from_residual.result c.from_residual.ensures.1 in
    rw (p.1, p.2) (record { refused = inl refl; answer = tt; err = refl })

pub returns-then-not-branch : goal.returns-then-not-branch
returns-then-not-branch c =
    let of : is_of_cluster c.args.spec.now c.args.board.now.cluster c.self.inside.view ≡ false = grind (arith, c.in_ok-is_of_board.ensures.is, c.if-not-branch.true) in
    record {
      refused = inr
          (dispatch_of_other c.args.spec.now c.args.board.now c.self.inside c.args.self.now (finished c.args.self.now.turn.view c.args.draft.now) c.self.view_is
          c.requires.next of);
      answer = tt;
      err = refl;
    }

pub plan_to_send-requires : goal.plan_to_send-requires
plan_to_send-requires c =
    let of : is_of_cluster c.args.spec.now c.args.board.now.cluster c.self.inside.view ≡ true = grind (arith, c.in_ok-is_of_board.ensures.is, c.if-not-branch.false) in
    record {
      hops = c.requires.hops;
      models = subst (λ (x : Controller). has_models c.args.spec.now.models x.turn.view ≡ true) c.self.view_is
          (of_cluster_modelled c.args.spec.now c.args.board.now.cluster c.self.inside.view of);
      planned = c.requires.planned;
      kept = c.requires.kept;
    }

pub returns-in_err-plan : goal.returns-in_err-plan
returns-in_err-plan c =
    let p = err_from_is_err_and c.from_residual-in_err-plan.result c.from_residual-in_err-plan.ensures.1 in
    rw (p.1, p.2) (record { refused = inl refl; answer = tt; err = refl })

pub dispatch-requires : goal.dispatch-requires
dispatch-requires c = record {
  controller = c.requires.controller;
  board = c.requires.board;
  planned = c.in_ok-plan.ensures.proposals ∙ ap (λ (p : Plan). p.proposals) c.requires.planned;
  next = c.requires.next;
}

pub returns-in_err-answer : goal.returns-in_err-answer
returns-in_err-answer c =
    let at = (goal.at.returns-in_err-answer c).In_ok-plan in
    let p = err_from_is_err_and c.from_residual-in_err-answer.result c.from_residual-in_err-answer.ensures.1 in
    let fault = c.in_err-answer.field-0.0 in
    rw (p.1, p.2) (record {
      refused = subst (λ (o : Option ControlFault). (fault ≡ faults.OutOfMemory) ⊎ (o ≡ Some fault)) (same at) c.in_err-answer.ensures.refused;
      answer = tt;
      err = c.in_err-answer.ensures.err;
    })

pub outcome-requires : goal.outcome-requires
outcome-requires c = record { placed = c.in_ok-answer.ensures.few.0; mail = c.in_ok-answer.ensures.few.1 }

pub returns : goal.returns
returns c = record {
  refused = sym (same (goal.at.returns c).In_ok-plan) ∙ c.in_ok-answer.ensures.refused;
  answer =
      dispatched_draft c.args.spec.now c.args.board.now c.dispatch.new.board c.args.self.now c.args.draft.now c.in_ok-plan.plan c.in_ok-answer.answer c.outcome.result
      c.in_ok-plan.ensures c.in_ok-answer.ensures.answer.0 c.in_ok-answer.ensures.answer.1 c.outcome.ensures;
  err = tt;
}
