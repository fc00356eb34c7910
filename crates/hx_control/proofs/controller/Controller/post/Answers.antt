use Rattle.std.proofs.Common.{◌≡◌, true, false, arith}
use Rattle.std.proofs.lemmas.Result.{err_from_is_err_and}
use Rattle.hx_pass.specs.Turns.{posted_of}
use Rattle.hx_control.specs.Steps.{is_of_cluster}
use Rattle.hx_control.proofs.Sending.{rows_fit}
use Rattle.hx_control.proofs.Ending.{other_board, rows_of_turn, post_refused, post_done}
use Rattle.hx_control.proofs.controller.Controller.post.Goals as goal
use Rattle.hx_control.proofs.controller.Controller.post.Goals.{After-posted}

-- the rows that are lent are those of what the turn was shown, which is of the board
rows_are : (c : After-posted) → c.posted.result.now ≡ posted_of c.self.inside.view
rows_are c = rows_of_turn c.self.inside c.args.self.now c.posted.result.now c.self.view_is c.requires.next c.self.invariant c.posted.ensures

is_of : (c : After-posted) → is_of_cluster c.args.spec.now c.args.board.now.cluster c.self.inside.view ≡ true
is_of c = grind (arith, c.in_ok-is_of_board.ensures.is, c.if-not-branch.false)

pub returns-then-not-branch : goal.returns-then-not-branch
returns-then-not-branch c =
    let of : is_of_cluster c.args.spec.now c.args.board.now.cluster c.self.inside.view ≡ false = grind (arith, c.in_ok-is_of_board.ensures.is, c.if-not-branch.true) in
    other_board c.args.spec.now c.args.board.now c.self.inside c.args.self.now c.self.view_is c.requires.next of

pub publish-requires-clause-rows : goal.publish-requires-clause-rows
publish-requires-clause-rows c =
    let at = (goal.at.publish-requires-clause-rows c).After-posted in
    rows_fit c.args.spec.now c.args.board.now c.posted.result.now c.self.inside.view c.in_ok-is_of_board.ensures.history c.requires.board (rows_are at) (is_of at)

pub returns-in_err-publish : goal.returns-in_err-publish
returns-in_err-publish c =
    let at = (goal.at.returns-in_err-publish c).After-posted in
    let p = err_from_is_err_and c.from_residual-in_err-publish.result c.from_residual-in_err-publish.ensures.1 in
    rw (p.1, p.2) (post_refused c.args.spec.now c.args.board.now c.self.inside c.args.self.now c.self.view_is c.requires.next (is_of at) c.posted.result.now
    (rows_are at) c.publish.new.self c.in_err-publish.field-0.0 c.in_err-publish.ensures.refused c.in_err-publish.ensures.err)

pub returns : goal.returns
returns c =
    let at = (goal.at.returns c).After-posted in
    post_done c.args.spec.now c.args.board.now c.self.inside c.args.self.now c.self.view_is c.requires.next (is_of at) c.posted.result.now
    (rows_are at) c.publish.new.self c.restart.new.self c.in_ok-publish.ensures.refused c.in_ok-publish.ensures.ok c.restart.ensures
