use Rattle.hx_gen.proofs.Modelled.{all_targets-modelled}
use Rattle.hx_gen.proofs.laws.targets_have_models.Goals as goal

pub returns : goal.returns
returns c = all_targets-modelled
