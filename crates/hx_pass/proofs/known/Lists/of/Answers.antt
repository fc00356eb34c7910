use Rattle.std.proofs.Common.{rules, ◌≡◌, true, length}
use Rattle.hx_cluster.specs.Views.{is_well_formed}
use Rattle.hx_gen.proofs.Modelled.{well_formed-modelled}
use Rattle.hx_pass.proofs.known.Lists.of.Goals as goal

pub choose-requires-clause-models : goal.choose-requires-clause-models
choose-requires-clause-models c =
    let formed : is_well_formed c.as_slice-models.result.now (length c.args.described.now.spec.now.instances) c.args.view.now ≡ true = search rules in
    well_formed-modelled c.as_slice-models.result.now (length c.args.described.now.spec.now.instances) c.args.view.now formed
