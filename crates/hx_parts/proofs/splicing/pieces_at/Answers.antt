use Rattle.hx_parts.proofs.Pieces.{taken}
use Rattle.hx_parts.proofs.splicing.pieces_at.Goals as goal

pub returns : goal.returns
returns g c =
    let pieces =
    taken g.T.OfPart.part_of c.args.part c.args.items.now c.front.result c.run.result c.split_at.result.0.now c.split_at.result.1.now c.split_at-2.result.0.now c.split_at-2.result.1.now c.requires
    c.front.ensures.fits c.front.ensures.point c.split_at.ensures.front c.split_at.ensures.back c.run.ensures.fits c.run.ensures.run c.run.ensures.stops c.split_at-2.ensures.front c.split_at-2.ensures.back in
    record { before = pieces.before; at = pieces.at; behind = pieces.behind; by_part = pieces.by_part }
