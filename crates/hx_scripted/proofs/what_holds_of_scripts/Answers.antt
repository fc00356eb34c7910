use Rattle.hx_scripted.proofs.DoingLines.{holds_of_scripts}
use Rattle.hx_scripted.proofs.what_holds_of_scripts.Goals as goal

pub returns : goal.returns
returns c = holds_of_scripts
