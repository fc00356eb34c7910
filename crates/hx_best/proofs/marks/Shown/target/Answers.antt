use Rattle.std.proofs.Common.{sym}
use Rattle.hx_best.proofs.Found.{one_target}
use Rattle.hx_best.proofs.marks.Shown.target.Goals as goal

pub returns : goal.returns
returns c = one_target c.args.self.now.0 c.args.self.now.1 c.args.shown c.state_of-state.result c.args.mark c.state_of-state.ensures c.requires.marked c.part.result c.goal.result c.place.result c.args.past
    (sym c.if-not-is_one.ensures) c.part.ensures c.goal.ensures c.requires.behind c.place.ensures
