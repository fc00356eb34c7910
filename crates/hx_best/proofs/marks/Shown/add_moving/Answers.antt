use Rattle.hx_best.specs.Targets.{targets_at}
use Rattle.hx_best.proofs.Moves.{still_more, done_at}
use Rattle.hx_best.proofs.marks.Shown.add_moving.Goals as goal

pub returns-then-branch : goal.returns-then-branch
returns-then-branch c all has =
    let x = c.args.self.now.0 in
    let p = c.args.self.now.1 in
    still_more x.models x.view all c.args.found.now.items (targets_at x.models x.view x.resource p) has
    (done_at x.models x.view x.resource p c.requires (c.in_ok-is_still.ensures c.if-branch.true))
