use Rattle.hx_lawful.proofs.Whole.{shown_law}
use Rattle.hx_lawful.proofs.covers.what_was_shown_is_well_formed.Goals as goal

pub returns : goal.returns
returns c = λ spec h k valid legal. shown_law spec valid h legal k
