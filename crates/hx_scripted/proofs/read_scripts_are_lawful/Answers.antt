use Rattle.hx_scripted.proofs.ReadScripts.{lawful_read}
use Rattle.hx_scripted.proofs.read_scripts_are_lawful.Goals as goal

pub returns : goal.returns
returns c = lawful_read
