use Rattle.hx_app.proofs.Scripts.{script_of-script}
use Rattle.hx_app.proofs.made_laws.made_scripts_are_read.Goals as goal

pub returns : goal.returns
returns c = script_of-script
