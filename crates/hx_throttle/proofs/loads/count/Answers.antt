use Rattle.std.proofs.Common.{◌∙◌, refl, sym, ap, arith}
use Rattle.std.proofs.lemmas.Option.{slice_get-get_or}
use Rattle.hx_throttle.specs.Table.{Table, load_at}
use Rattle.hx_throttle.proofs.Counting.{counted_more, counted_same, counted_all}
use Rattle.hx_throttle.proofs.loads.count.Goals as goal
use Rattle.hx_throttle.proofs.loads.count.Goals.{then-matches+in_ok-raise, else-matches}

pub loop-place-preserved : goal.loop-place-preserved
loop-place-preserved c = λ n r key at.
    let here = slice_get-get_or c.args.rules.now c.loop-place.place _ c.loop-place-test.true in
    elim c.if-matches.branch [
      | then-matches+in_ok-raise w ↦
          ap (λ (t : Table). load_at t n key) w.loads-is
          ∙ counted_more c.args.rules.now c.args.keyed c.loop-place.place _ _ _ n r key _ _ _ refl here at (sym c.matches.ensures ∙ w.if-matches.true) w.key.ensures (c.loop-place.invariant n r key at) (w.in_ok-raise.ensures n key)
      | else-matches w ↦
          ap (λ (t : Table). load_at t n key) w.loads-is
          ∙ counted_same c.args.rules.now c.args.keyed c.loop-place.place _ n r key _ _ here at (sym c.matches.ensures ∙ w.if-matches.false) (c.loop-place.invariant n r key at)
    ]

pub returns : goal.returns
returns c = λ n r key at. counted_all c.args.rules.now c.args.keyed c.loop-place.place n r key _ _ (omega arith) at (c.loop-place.invariant n r key at)
