use Rattle.hx_gen.proofs.ByPart.{candidates-by_part}
use Rattle.hx_gen.proofs.laws.candidates_stand_by_part.Goals as goal

pub returns : goal.returns
returns c = candidates-by_part
