use Rattle.std.proofs.Common.{◌++◌, codes, take, ap, ◌∙◌}
use Rattle.std.specs.List.{flat_map}
use Rattle.std.proofs.lemmas.List.{take_all}
use Rattle.std.proofs.lemmas.Result.{IfOk-weaker}
use Rattle.hx_genwork.specs.Made.{all_instances, join_line, drain_lines}
use Rattle.hx_genwork.proofs.Printing.{then_put}
use Rattle.hx_genwork.proofs.push_script.Goals as goal

pub returns : goal.returns
returns c =
    let old = c.args.page.now in
    let all = c.all_instances-instances in
    let joins = flat_map join_line all_instances in
    let drains = flat_map drain_lines all_instances in
    let first = c.loop-n.invariant ∙ ap (λ xs. old ++ flat_map join_line xs) (ap (take c.loop-n.n-index) all.ensures ∙ take_all c.loop-n.n-index all_instances c.loop-n-test.false) in
    let second = then_put old c.loop-n.page c.push_str.new.self joins (codes "lead c1\nsettle\n") first c.in_ok-push_str.ensures.ok in
    let third = c.loop-n-2.invariant ∙ ap (λ xs. c.push_str.new.self ++ flat_map drain_lines xs) (ap (take c.loop-n-2.n-index) all.ensures ∙ take_all c.loop-n-2.n-index all_instances c.loop-n-2-test.false) in
    IfOk-weaker c.push_str-2.result _ _ (λ _ last. then_put old c.loop-n-2.page c.push_str-2.new.self _ _ (then_put old c.push_str.new.self c.loop-n-2.page _ drains second third) last) c.push_str-2.ensures.ok
