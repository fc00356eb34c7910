use Rattle.hx_app.proofs.Made.{IsOk-made}
use Rattle.hx_app.proofs.run_laws.made_inputs_are_read.Goals as goal

pub returns : goal.returns
returns c = IsOk-made
