use Rattle.hx_worlds.proofs.BroughtByLines.{prints_its_history}
use Rattle.hx_worlds.proofs.script_prints_its_history.Goals as goal

pub returns : goal.returns
returns c = prints_its_history
