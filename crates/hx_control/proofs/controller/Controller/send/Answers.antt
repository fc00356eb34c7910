use Rattle.std.proofs.Common.{◌≡◌, None, Some, refl, sym, ap, subst}
use Rattle.std.specs.Prelude.{Ok, Err}
use Rattle.std.proofs.lemmas.Result.{err_from_is_err_and}
use Rattle.hx_pass.specs.Drafts.{finished}
use Rattle.hx_control.specs.Controllers.{Controller}
use Rattle.hx_control.specs.Steps.{step_of}
use Rattle.hx_control.specs.Turning.{controller, with_plan}
use Rattle.hx_control.specs.Made.{Tries}
use Rattle.hx_control.specs.declared.controller.Next.TheVariants as nexts
use Rattle.hx_control.proofs.Ending.{planned_of, planned_as, send_done}
use Rattle.hx_control.proofs.controller.Controller.send.Goals as goal
use Rattle.hx_control.proofs.controller.Controller.send.Goals.{In-Some}

-- the turn has the plan of its draft
same : (c : In-Some) → with_plan c.args.self.now (finished c.args.self.now.turn.view c.in-Some.draft) ≡ c.args.self.now
same c = planned_as c.self.inside c.args.self.now c.in-Some.draft c.self.view_is c.in-Some.is

pub dispatch_draft-requires-clause-planned : goal.dispatch_draft-requires-clause-planned
dispatch_draft-requires-clause-planned c =
    planned_of c.args.spec.now c.args.self.now (finished c.args.self.now.turn.view c.in-Some.draft) (same (goal.at.dispatch_draft-requires-clause-planned c).In-Some) c.requires.planned

pub dispatch_draft-requires-clause-kept : goal.dispatch_draft-requires-clause-kept
dispatch_draft-requires-clause-kept c = sym (ap (λ (x : Controller). x.plan) (same (goal.at.dispatch_draft-requires-clause-kept c).In-Some))

pub returns-in_err-outcome : goal.returns-in_err-outcome
returns-in_err-outcome c =
    let p = err_from_is_err_and c.from_residual.result c.from_residual.ensures.1 in
    rw (p.1, p.2)
    (subst (λ (x : Controller). Tries (step_of c.args.spec.now c.args.board.now.cluster x) c.args.board.now c.dispatch_draft.new.board x x (Err c.in_err-outcome.field-0.0)) (same (goal.at.returns-in_err-outcome c).In-Some)
    (record { refused = c.in_err-outcome.ensures.refused; made = tt; kept = (c.in_err-outcome.ensures.err, refl) }))

pub returns : goal.returns
returns c =
    let p = finished c.args.self.now.turn.view c.in-Some.draft in
    subst (λ (x : Controller). Tries (step_of c.args.spec.now c.args.board.now.cluster x) c.args.board.now c.dispatch_draft.new.board x (controller (record c.self.inside { next = nexts.Post; draft = None })) (Ok (Some c.in_ok-outcome.outcome)))
    (same (goal.at.returns c).In-Some)
    (send_done c.args.spec.now c.args.board.now c.dispatch_draft.new.board c.self.inside c.args.self.now p c.in_ok-outcome.outcome c.self.view_is c.requires.next
    c.in_ok-outcome.ensures.refused c.in_ok-outcome.ensures.answer)
