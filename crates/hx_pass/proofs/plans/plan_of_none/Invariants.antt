use Rattle.hx_best.specs.Targets.{all_targets}
use Rattle.hx_pass.proofs.plans.plan_of_none.Given as goal

-- all targets
abbrev pub ghost-at_best : goal.ghost-at_best
ghost-at_best a = all_targets a.of.now.0.now a.of.now.1.now
