use Rattle.std.proofs.Common.{rules, ◌≡◌, ◌∙◌, ◌+◌, ◌-◌, ◌<◌, length, take, sym, ap, arith}
use Rattle.std.specs.Prelude.{min}
use Rattle.std.proofs.lemmas.List.{get_or_default, take_rest}
use Rattle.std.proofs.lemmas.Grind.{common_steps}
use Rattle.std.proofs.lemmas.Fn.{always_returns_same}
use Rattle.hx_ids.specs.declared.PartId.{PartId}
use Rattle.hx_cluster.specs.Ends.{part_before}
use Rattle.hx_parts.proofs.Pieces.{begins, near_begins, front_point, is_before}
use Rattle.hx_parts.proofs.splicing.front.Goals as goal
use Rattle.hx_parts.proofs.splicing.front.Goals.{then-loop-step-test+else-comes_before, else-loop-step-test}

pub loop-step-preserved : goal.loop-step-preserved
loop-step-preserved g c =
    let part_of = g.T.OfPart.part_of in
    let p = c.args.part in
    let xs = c.args.items.now in
    let n = c.loop-step.from + c.loop-step.step in
    let less : n < length xs = omega arith in
    record {
      fits = omega arith;
      some = search rules;
      front = λ k d ge lt.
          begins part_of p xs c.requires k n d (omega arith) less
          (ap (λ x. part_before (part_of x) p) (sym (c.index-items-from.is ∙ get_or_default xs n c.index-items-from.result d less))
          ∙ ap (λ (q : PartId). part_before q p) (sym c.part.ensures) ∙ sym c.comes_before.ensures ∙ c.if-comes_before.true);
    }

pub returns-clause-point : goal.returns-clause-point
returns-clause-point g c =
    let part_of = g.T.OfPart.part_of in
    let p = c.args.part in
    let xs = c.args.items.now in
    let from = c.loop-step.from in
    let step = c.loop-step.step in
    let w = c.min.result in
    let near = ap (take w) (take_rest xs from) in
    let least : w ≡ min step (length xs - from) = grind (arith, common_steps) in
    front_point part_of p xs c.requires from w _ near c.loop-step.invariant.fits c.loop-step.invariant.front step least
    (λ d less. elim c.loop-step-test.branch [
      | then-loop-step-test+else-comes_before v ↦
          ap (λ x. part_before (part_of x) p) (sym (v.index-items-from.is ∙ get_or_default xs (from + step) v.index-items-from.result d (omega arith)))
          ∙ ap (λ (q : PartId). part_before q p) (sym v.part.ensures) ∙ sym v.comes_before.ensures ∙ v.if-comes_before.false
      | else-loop-step-test v ↦ absurd (omega arith)
    ])
    c.partition_point.result c.partition_point.ensures.bound
    (c.partition_point.ensures.partitioned (is_before part_of p) (always_returns_same _ _ _ (λ a r f' k. search rules)) (near_begins part_of p xs c.requires from w _ near))
