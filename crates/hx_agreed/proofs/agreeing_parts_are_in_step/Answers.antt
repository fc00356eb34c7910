use Rattle.hx_agreed.proofs.OfParts.{of_parts_in_step, of_parts_of_history}
use Rattle.hx_agreed.proofs.agreeing_parts_are_in_step.Goals as goal

pub returns : goal.returns
returns c = λ spec w valid p legal. (of_parts_in_step spec w valid p legal, of_parts_of_history spec w valid p legal)
