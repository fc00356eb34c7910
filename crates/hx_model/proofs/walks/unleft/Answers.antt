use Rattle.std.proofs.Common.{◌+◌, not, sym, ap, ◌∙◌}
use Rattle.hx_ids.specs.declared.StateId.{StateId}
use Rattle.hx_model.specs.declared.Bound.{Bound}
use Rattle.hx_model.specs.declared.Bound.TheVariants.{Count}
use Rattle.hx_model.specs.Model.{error}
use Rattle.hx_model.specs.Walks.{reaches}
use Rattle.hx_model.proofs.Places.{found_here, is_far}
use Rattle.hx_model.proofs.walks.unleft.Goals as goal

pub returns-then-at-none : goal.returns-then-at-none
returns-then-at-none c =
    let m = c.args.parts.now in
    let d : StateId × Bound = (error, Count 0) in
    let is = sym (c.distances-dists.ensures.dists _ c.at.ensures.byte) ∙ sym c.at.ensures.dist ∙ c.if-at-none.true ∙ ap (λ n. n + 2) c.len-none.ensures in
    found_here (λ s. not (reaches m s m.initial)) (λ p. p.0) m.states c.as_slice-entry-items.result.now c.loop-entry.entry-index d _ c.as_slice-entry-items.ensures c.loop-entry-test.true (is_far _ _ is) c.loop-entry.invariant
