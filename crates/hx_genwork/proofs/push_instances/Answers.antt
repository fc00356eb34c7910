use Rattle.std.proofs.Common.{◌+◌, ◌++◌, map, drop, get_or, ap, sym, ◌∙◌}
use Rattle.std.specs.Prelude.{◌==◌}
use Rattle.std.proofs.lemmas.List.{drop_more}
use Rattle.hx_genwork.specs.Made.{quoted, instance_name}
use Rattle.hx_genwork.proofs.Printing.{items_left, item_put}
use Rattle.hx_genwork.proofs.push_instances.Goals as goal

pub loop-place-preserved : goal.loop-place-preserved
loop-place-preserved c =
    let place = c.loop-place.place in
    let xs = c.args.instances.now in
    item_put place (quoted (instance_name (get_or xs place 0))) (map (λ n. quoted (instance_name n)) (drop (place + 1) xs)) _ c.loop-place.page c.push_comma.new.page c.push_quoted_name.new.page
    (ap (λ ys. c.loop-place.page ++ items_left (place == 0) (map (λ n. quoted (instance_name n)) ys)) (sym (drop_more xs place 0 c.loop-place-test.true)) ∙ c.loop-place.invariant)
    c.in_ok-push_comma.ensures c.in_ok-push_quoted_name.ensures
