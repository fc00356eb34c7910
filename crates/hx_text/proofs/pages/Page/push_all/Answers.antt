use Rattle.std.proofs.Common.{subst, sym}
use Rattle.std.specs.List.{flat_map}
use Rattle.hx_text.specs.Texts.{piece_text, PutsFront}
use Rattle.hx_text.proofs.Printing.{midway_front, prints_err}
use Rattle.hx_text.proofs.pages.Page.push_all.Goals as goal

pub returns-in_err-push : goal.returns-in_err-push
returns-in_err-push c =
    let text = flat_map piece_text c.args.pieces.now in
    prints_err _ text c.args.self.now c.push.new.self c.from_residual.result c.from_residual.ensures.1
    (subst (PutsFront text c.args.self.now) (sym c.in_err-push.ensures.err) (midway_front text c.args.self.now c.loop-piece.self _ c.loop-piece.invariant))
