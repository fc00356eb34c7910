use Rattle.hx_scripted.proofs.DoingLines.{lawful_scripts}
use Rattle.hx_scripted.proofs.scripts_are_lawful.Goals as goal

pub returns : goal.returns
returns c = lawful_scripts
