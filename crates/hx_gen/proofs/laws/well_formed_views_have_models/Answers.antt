use Rattle.hx_gen.proofs.Modelled.{well_formed-modelled}
use Rattle.hx_gen.proofs.laws.well_formed_views_have_models.Goals as goal

pub returns : goal.returns
returns c = well_formed-modelled
