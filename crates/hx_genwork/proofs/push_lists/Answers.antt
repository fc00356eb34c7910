use Rattle.std.proofs.Common.{◌≡◌, suc, ◌+◌, ◌-◌, ◌++◌, map, ap, sym, ◌∙◌, arith}
use Rattle.std.specs.Prelude.{◌==◌}
use Rattle.hx_genwork.specs.Made.{instances_array, lists_after, list_of, drawn}
use Rattle.hx_genwork.proofs.Printing.{items_left, item_put}
use Rattle.hx_genwork.proofs.push_lists.Goals as goal

pub loop-place-preserved : goal.loop-place-preserved
loop-place-preserved c =
    let place = c.loop-place.place in
    let left = c.args.size - (place + 1) in
    let next : c.args.size - place ≡ suc left = omega arith in
    let list = ap (λ x. list_of x) (c.drawn-x.ensures) in
    ap (λ x. c.push_instances.new.page ++ items_left (place + 1 == 0) (map instances_array (lists_after x left))) c.drawn-x.ensures
    ∙ item_put place (instances_array (list_of (drawn c.loop-place.x))) (map instances_array (lists_after (drawn c.loop-place.x) left)) _ c.loop-place.page c.push_comma.new.page c.push_instances.new.page
    (ap (λ n. c.loop-place.page ++ items_left (place == 0) (map instances_array (lists_after c.loop-place.x n))) (sym next) ∙ c.loop-place.invariant)
    c.in_ok-push_comma.ensures
    (c.in_ok-push_instances.ensures ∙ ap (λ l. c.push_comma.new.page ++ instances_array l) (c.list_of.ensures ∙ list))
