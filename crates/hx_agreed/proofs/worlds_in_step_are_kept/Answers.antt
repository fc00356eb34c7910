use Rattle.hx_agreed.proofs.Worlds.{in_step_kept}
use Rattle.hx_agreed.proofs.worlds_in_step_are_kept.Goals as goal

pub returns : goal.returns
returns c = in_step_kept
