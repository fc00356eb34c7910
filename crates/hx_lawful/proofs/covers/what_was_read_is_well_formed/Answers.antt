use Rattle.hx_lawful.proofs.Whole.{read_law}
use Rattle.hx_lawful.proofs.covers.what_was_read_is_well_formed.Goals as goal

pub returns : goal.returns
returns c = λ spec h k valid legal. read_law spec valid h legal k
