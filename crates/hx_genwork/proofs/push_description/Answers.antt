use Rattle.std.proofs.Common.{◌++◌, map, decimal, ap, ◌∙◌}
use Rattle.std.proofs.lemmas.Result.{IfOk-weaker}
use Rattle.hx_genwork.specs.Made.{instances_array, all_instances, lists_after, array}
use Rattle.hx_genwork.proofs.Printing.{eight_put}
use Rattle.hx_genwork.proofs.push_description.Goals as goal

pub returns : goal.returns
returns c =
    IfOk-weaker c.push_str-5.result _ _ (λ _ last. eight_put c.args.page.now _ (instances_array all_instances) _ _ (decimal c.args.size) _ (array (map instances_array (lists_after c.args.seed c.args.size))) _
    c.push_str.new.self c.push_instances.new.page c.push_str-2.new.self c.push_str-3.new.self c.push_u64.new.self c.push_str-4.new.self c.push_lists.new.page c.push_str-5.new.self
    c.in_ok-push_str.ensures.ok
    (c.in_ok-push_instances.ensures ∙ ap (λ instances. c.push_str.new.self ++ instances_array instances) c.all_instances.ensures)
    c.in_ok-push_str-2.ensures.ok
    c.in_ok-push_str-3.ensures.ok
    (c.in_ok-push_u64.ensures.ok ∙ ap (λ n. c.push_str-3.new.self ++ decimal n) c.from.ensures)
    c.in_ok-push_str-4.ensures.ok
    c.in_ok-push_lists.ensures
    last) c.push_str-5.ensures.ok
