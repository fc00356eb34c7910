use Rattle.hx_app.proofs.Descriptions.{input_spec-made}
use Rattle.hx_app.proofs.made_laws.made_descriptions_are_read.Goals as goal

pub returns : goal.returns
returns c = input_spec-made
