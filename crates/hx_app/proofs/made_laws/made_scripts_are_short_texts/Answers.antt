use Rattle.hx_app.proofs.Scripts.{lines_fault-script}
use Rattle.hx_app.proofs.made_laws.made_scripts_are_short_texts.Goals as goal

pub returns : goal.returns
returns c = lines_fault-script
