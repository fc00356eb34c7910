use Rattle.std.proofs.Common.{ℕ, List, ◌≡◌, ◌++◌, subst}
use Rattle.hx_ids.specs.declared.PartId.{PartId}
use Rattle.hx_cluster.specs.declared.planning.Target.{Target}
use Rattle.hx_best.specs.Targets.{targets_at}
use Rattle.hx_best.specs.Places.{Placing}
use Rattle.hx_best.proofs.Found.{added_more}
use Rattle.hx_best.proofs.aims.add_targets_of.Goals as goal

pub loop-index-preserved : goal.loop-index-preserved
loop-index-preserved c =
    let x = c.args.places.now in
    let at : ℕ → List Target = λ k. targets_at x.models x.view x.resource (record { resource = c.args.resource; index = k }) in
    let pushed : c.add_targets.new.found.items ≡ c.loop-index.found.items ++ at c.loop-index.index =
    subst (λ (s : Placing × PartId). c.add_targets.new.found.items ≡ c.loop-index.found.items ++ targets_at s.0.models s.0.view s.0.resource s.1) c.of-shown.ensures c.in_ok-add_targets.ensures in
    added_more at c.loop-index.index c.args.found.now.items c.loop-index.found.items c.add_targets.new.found.items c.loop-index.invariant pushed
