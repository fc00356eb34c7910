use Rattle.std.proofs.Common.{◌≡◌, ◌<◌, List, length, get_or, ap, subst, arith}
use Rattle.hx_cluster.specs.declared.description.Resource.{Resource}
use Rattle.hx_print.specs.Texts.{viewed_parts}
use Rattle.hx_sim.proofs.Standing.{few_resources}
use Rattle.hx_sim.proofs.Viewing.{views_more}
use Rattle.hx_sim.proofs.rows.viewed_parts.Goals as goal

pub overflow_cast-id : goal.overflow_cast-id
overflow_cast-id c =
    let few = few_resources c.args.board.now c.history.ensures.history in
    let same = ap (λ (rs : List Resource). length rs) c.resources-resource-items.ensures in
    omega (arith, few, same)

pub loop-number-preserved : goal.loop-number-preserved
loop-number-preserved c =
    let b = c.args.board.now.cluster in
    let n = c.loop-number.number in
    let x = c.resource-item.result in
    views_more c.args.rows.now b c.requires n x c.loop-number.parts.items c.add_viewed.new.parts.items (viewed_parts b)
    (subst (λ (rs : List Resource). n < length rs) c.resources-resource-items.ensures c.loop-number-test.true)
    (subst (λ (rs : List Resource). x ≡ get_or rs n x) c.resources-resource-items.ensures c.resource-item.is)
    c.in_ok-add_viewed.ensures
    c.loop-number.invariant
