use Rattle.hx_app.proofs.Lengths.{length-made}
use Rattle.hx_app.proofs.made_laws.made_inputs_are_short.Goals as goal

pub returns : goal.returns
returns c = length-made
