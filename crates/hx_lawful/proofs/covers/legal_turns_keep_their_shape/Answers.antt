use Rattle.hx_lawful.proofs.Whole.{turn_law}
use Rattle.hx_lawful.proofs.covers.legal_turns_keep_their_shape.Goals as goal

pub returns : goal.returns
returns c = λ spec h k valid legal. turn_law spec valid h legal k
