use Rattle.hx_settled.proofs.Explaining.{candidates_found}
use Rattle.hx_settled.proofs.each_candidate_is_of_its_target.Goals as goal

pub returns : goal.returns
returns c = candidates_found
