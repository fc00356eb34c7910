use Rattle.std.proofs.Common.{arith, ap}
use Rattle.std.proofs.lemmas.List.{drop_all}
use Rattle.hx_cluster.specs.declared.description.Resource.{Resource}
use Rattle.hx_worlds.specs.Settles.{all_parts}
use Rattle.hx_replicas.proofs.Ledgers.{sum_by-drop-one}
use Rattle.hx_sim.proofs.settles.all_parts.Goals as goal

pub loop-resource-init : goal.loop-resource-init
loop-resource-init c = omega arith

pub loop-resource-preserved : goal.loop-resource-preserved
loop-resource-preserved c =
    let x = c.resource-item.result in
    let more = sum_by-drop-one (λ (r : Resource). r.ideal.parts) c.args.resources.now c.loop-resource.resource-index x c.loop-resource-test.true in
    let this = ap (λ (r : Resource). r.ideal.parts) c.resource-item.is in
    omega (arith, more, this, c.parts.ensures, c.from.ensures, c.in_ok-parts.ensures.1, c.loop-resource.invariant)

pub returns : goal.returns
returns c =
    let none = ap all_parts (drop_all c.loop-resource.resource-index c.args.resources.now c.loop-resource-test.false) in
    omega (arith, none, c.loop-resource.invariant)
