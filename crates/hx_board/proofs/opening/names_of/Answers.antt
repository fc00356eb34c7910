use Rattle.std.proofs.Common.{ℕ, List, ap, ◌∙◌}
use Rattle.hx_ids.specs.Names.{interned}
use Rattle.hx_board.proofs.Copies.{interned-next}
use Rattle.hx_board.proofs.opening.names_of.Goals as goal

pub loop-place-preserved : goal.loop-place-preserved
loop-place-preserved c =
    let next : List (List ℕ) → List (List ℕ) = λ names. interned names c.name.result.now in
    c.in_ok-intern.ensures.names
    ∙ ap next c.loop-place.invariant
    ∙ interned-next c.args.names.now c.loop-place.place c.name.result.now c.len-count.ensures.distinct c.name.ensures
