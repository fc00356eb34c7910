use Rattle.std.proofs.Common.{◌≡◌, ◌<◌, [], length, rules, arith}
use Rattle.std.proofs.lemmas.Grind.{common_steps}
use Rattle.hx_worlds.specs.World.{Missing}
use Rattle.hx_scene.specs.Scenes.{at}
use Rattle.hx_scene.proofs.Adopting.{ending_first, ending_next, can_end, all_ended}
use Rattle.hx_scene.proofs.jobs.end_all.Goals as goal

pub loop-jobs-init : goal.loop-jobs-init
loop-jobs-init g c = ending_first c.args.jobs.now.items c.args.participants.now.items c.requires

pub end_at-requires-clause-can : goal.end_at-requires-clause-can
end_at-requires-clause-can g c κs within j e = can_end c.loop-jobs.jobs.items c.loop-jobs.participants.items 0 j c.loop-jobs.invariant e

pub loop-jobs-preserved : goal.loop-jobs-preserved
loop-jobs-preserved g c =
    let lt : 0 < length c.loop-jobs.jobs.items = search rules in
    ending_next c.loop-jobs.jobs.items c.loop-jobs.participants.items 0 c.loop-jobs.invariant lt c.end_at.new.jobs.items c.end_at.new.participants.items (at c.requires.scene Missing)
    c.end_at.ensures.jobs c.end_at.ensures.plain c.end_at.ensures.kept

pub returns-clause-rest : goal.returns-clause-rest
returns-clause-rest g c =
    let none : c.loop-jobs.jobs.items ≡ [] = grind (arith, common_steps) in
    all_ended c.loop-jobs.jobs.items c.loop-jobs.participants.items c.loop-jobs.invariant none
