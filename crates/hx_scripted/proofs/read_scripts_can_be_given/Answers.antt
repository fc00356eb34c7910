use Rattle.hx_scripted.proofs.ReadScripts.{given_read}
use Rattle.hx_scripted.proofs.read_scripts_can_be_given.Goals as goal

pub returns : goal.returns
returns c = given_read
