use Rattle.std.proofs.Common.{List, [], sym, subst}
use Rattle.hx_cluster.specs.declared.planning.Target.{Target}
use Rattle.hx_best.specs.Still.{HasMoving}
use Rattle.hx_best.proofs.Moves.{same_moving}
use Rattle.hx_best.proofs.moving.moving_among.Goals as goal

pub returns : goal.returns
returns c =
    let models = c.args.models.now in
    let view = c.args.index.now in
    c.in_ok-add_moving_among.ensures [] (subst (λ (ts : List Target). HasMoving models view [] ts) (sym c.in_ok-found.ensures.items) (same_moving models view []))
