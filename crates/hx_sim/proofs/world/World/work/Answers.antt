use Rattle.hx_cluster.specs.Reads.{fetched}
use Rattle.hx_ids.specs.declared.InstanceId.{InstanceId}
use Rattle.hx_worlds.specs.World.{State}
use Rattle.hx_worlds.specs.Runs.{Deed, and_then}
use Rattle.hx_worlds.specs.Jobs.{fetch_and_deliver, run_accepted}
use Rattle.hx_scene.proofs.Reaching.{does_err, does_then_deed, fails_after, fails_inside_deed, then_do}
use Rattle.hx_sim.proofs.Lasting.{instance_lasts}
use Rattle.hx_sim.proofs.world.World.work.Goals as goal

-- what is left of the work once the open jobs are done
abbrev rest : InstanceId → State → Deed
rest i y = and_then (fetch_and_deliver i (fetched y.world.cluster i) y) (λ z. run_accepted i z)

pub returns-in_err-carry_all : goal.returns-in_err-carry_all
returns-in_err-carry_all g c = does_err _ _ _ _ _ _ _ _ c.from_residual.ensures.1 (fails_inside_deed _ _ _ _ _ _ c.in_err-carry_all.ensures (rest c.args.instance))

pub fetch_and_deliver-requires-after_bounds : goal.fetch_and_deliver-requires-after_bounds
fetch_and_deliver-requires-after_bounds g c κs within = instance_lasts c.in_ok-carry_all.ensures c.args.instance c.requires

pub returns-in_err-fetch_and_deliver : goal.returns-in_err-fetch_and_deliver
returns-in_err-fetch_and_deliver g c =
    let i = c.args.instance in
    does_err _ _ _ _ _ _ _ _ c.from_residual-in_err-fetch_and_deliver.ensures.1
    (fails_after (then_do c.in_ok-carry_all.ensures (rest i)) _ _ _ (fails_inside_deed _ _ _ _ _ _ c.in_err-fetch_and_deliver.ensures (λ z. run_accepted i z)))

pub run_accepted-requires-after_bounds : goal.run_accepted-requires-after_bounds
run_accepted-requires-after_bounds g c κs within =
    instance_lasts c.in_ok-fetch_and_deliver.ensures c.args.instance (instance_lasts c.in_ok-carry_all.ensures c.args.instance c.requires)

pub returns : goal.returns
returns g c =
    let i = c.args.instance in
    does_then_deed c.in_ok-carry_all.ensures (rest i) _ _ _ _ (does_then_deed c.in_ok-fetch_and_deliver.ensures (λ z. run_accepted i z) _ _ _ _ c.run_accepted.ensures)
