use Rattle.std.proofs.Common.{◌∙◌, ◌++◌, [], ap, Option, arith}
use Rattle.std.proofs.lemmas.Grind.{common_steps}
use Rattle.std.specs.Prelude.{option_map}
use Rattle.std.specs.List.{cons_option}
use Rattle.hx_gen.specs.declared.Ranked.{Ranked}
use Rattle.hx_gen.specs.Candidates.{candidate_of}
use Rattle.hx_gen.specs.Stage.{ranked_as}
use Rattle.hx_gen.proofs.Ranks.{ranked_more}
use Rattle.hx_gen.proofs.steps.Stage.ranked.Goals as goal

pub loop-target-preserved : goal.loop-target-preserved
loop-target-preserved c =
    let s = c.args.self.now in
    ranked_more (λ t. option_map (ranked_as s) (candidate_of s.models s.view t)) c.loop-target.ranked.items c.push_some.new.items.items c.args.targets.now c.loop-target.target-index _ c.loop-target-test.true c.loop-target.invariant
    (c.in_ok-push_some.ensures ∙ ap (λ (o : Option Ranked). c.loop-target.ranked.items ++ cons_option o []) c.next.ensures)

pub returns : goal.returns
returns c = grind (arith, common_steps)
