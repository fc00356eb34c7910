use Rattle.std.proofs.Common.{◌≡◌, ◌<◌, ◌∙◌, List, true, false, length, inl, inr, refl, sym, ap, subst, arith}
use Rattle.std.specs.Prelude.{◌^◌}
use Rattle.std.specs.List.{list_all}
use Rattle.std.proofs.lemmas.Result.{err_from_is_err_and}
use Rattle.hx_cluster.specs.declared.happenings.Proposal.{Proposal}
use Rattle.hx_cluster.specs.Events.{is_proposable}
use Rattle.hx_cluster.specs.Steps.{has_controller}
use Rattle.hx_control.specs.Controllers.{Controller}
use Rattle.hx_control.specs.Steps.{is_of_cluster}
use Rattle.hx_control.proofs.Sending.{proposals_fit, placed_few, few_of}
use Rattle.hx_control.proofs.Ending.{dispatch_of_other, dispatch_refused, dispatch_made, dispatch_answered, dispatch_done}
use Rattle.hx_control.proofs.controller.Controller.dispatch.Goals as goal
use Rattle.hx_control.proofs.controller.Controller.dispatch.Goals.{After-as_slice-proposals}

-- what the turn was shown is of the board
is_of : (c : After-as_slice-proposals) → is_of_cluster c.args.spec.now c.args.board.now.cluster c.self.inside.view ≡ true
is_of c = grind (arith, c.in_ok-is_of_board.ensures.is, c.if-not-branch.false)

-- and so is what the plan proposes
fit : (c : After-as_slice-proposals) → list_all (is_proposable c.args.board.now.cluster) c.as_slice-proposals.result.now ≡ true
fit c =
    let of : is_of_cluster c.args.spec.now c.args.board.now.cluster c.args.self.now.turn.view ≡ true =
    ap (λ (v : Controller). is_of_cluster c.args.spec.now c.args.board.now.cluster v.turn.view) (sym c.self.view_is) ∙ is_of c in
    subst (λ (qs : List Proposal). list_all (is_proposable c.args.board.now.cluster) qs ≡ true) (sym c.as_slice-proposals.ensures)
    (proposals_fit c.args.spec.now c.args.board.now c.args.plan.now c.args.self.now.turn.view c.in_ok-is_of_board.ensures.history c.requires.board c.requires.planned of)

pub is_of_board-requires : goal.is_of_board-requires
is_of_board-requires c = record { board = c.requires.board; formed = c.self.invariant.formed }

pub returns-then-len-most : goal.returns-then-len-most
returns-then-len-most c = record { refused = inl refl; answer = tt; few = tt; err = refl }

pub returns-in_err-is_of_board : goal.returns-in_err-is_of_board
returns-in_err-is_of_board c =
    let p = err_from_is_err_and c.from_residual.result c.from_residual.ensures.1 in
    rw (p.1, p.2) (record { refused = inl refl; answer = tt; few = tt; err = refl })

pub returns-then-not-branch : goal.returns-then-not-branch
returns-then-not-branch c =
    let of : is_of_cluster c.args.spec.now c.args.board.now.cluster c.self.inside.view ≡ false = grind (arith, c.in_ok-is_of_board.ensures.is, c.if-not-branch.true) in
    record {
      refused = inr (dispatch_of_other c.args.spec.now c.args.board.now c.self.inside c.args.self.now c.args.plan.now c.self.view_is c.requires.next of);
      answer = tt;
      few = tt;
      err = refl;
    }

pub dispatch-requires : goal.dispatch-requires
dispatch-requires c = record {
  controller = ap (λ (v : Controller). has_controller c.args.board.now.cluster v.id) c.self.view_is ∙ c.requires.controller;
  proposals = fit (goal.at.dispatch-requires c).After-as_slice-proposals;
}

pub returns-in_err-dispatch : goal.returns-in_err-dispatch
returns-in_err-dispatch c =
    let at = (goal.at.returns-in_err-dispatch c).After-as_slice-proposals in
    let p = err_from_is_err_and c.from_residual-in_err-dispatch.result c.from_residual-in_err-dispatch.ensures.1 in
    rw (p.1, p.2) (record {
      refused =
          dispatch_refused c.args.spec.now c.args.board.now c.self.inside c.args.self.now c.args.plan.now c.self.view_is c.requires.next c.requires.controller (is_of at)
          c.as_slice-proposals.result.now c.as_slice-proposals.ensures c.in_err-dispatch.field-0.0 c.in_err-dispatch.ensures.refused;
      answer = tt;
      few = tt;
      err = c.in_err-dispatch.ensures.err;
    })

pub returns : goal.returns
returns c =
    let at = (goal.at.returns c).After-as_slice-proposals in
    let spec = c.args.spec.now in
    let b = c.args.board.now in
    let x = c.args.self.now in
    let ps = c.as_slice-proposals.result.now in
    let is = c.in_ok-dispatch.ensures in
    record {
      refused = dispatch_made spec b c.self.inside x c.args.plan.now c.self.view_is c.requires.next c.requires.controller (is_of at) ps c.as_slice-proposals.ensures is.refused;
      answer = (
        dispatch_answered spec b c.self.inside x c.args.plan.now c.self.view_is c.requires.next c.requires.controller (is_of at) ps c.as_slice-proposals.ensures c.in_ok-dispatch.field-0 is.answer,
        dispatch_done spec b c.self.inside x c.args.plan.now c.self.view_is c.requires.next c.requires.controller (is_of at) ps c.as_slice-proposals.ensures c.dispatch.new.self c.in_ok-dispatch.field-0 is.ok,
      );
      few = (
        placed_few b.cluster c.self.inside.id ps c.in_ok-dispatch.field-0 is.answer
            (few_of c.len.result (length ps) (c.len.ensures ∙ ap length (sym c.as_slice-proposals.ensures)) c.if-len-most.false),
        subst (λ (v : Controller). length v.turn.view.mail < 2 ^ 32) c.self.view_is
            (few_of c.len-else-len-most.result (length c.self.inside.view.mail) c.len-else-len-most.ensures c.if-len-most-2.false),
      );
      err = tt;
    }
