use Rattle.hx_pass.proofs.FoundAgain.{waiting_again}
use Rattle.hx_pass.proofs.laws.waiting_candidates_are_found_by_part.Goals as goal

pub returns : goal.returns
returns c = λ models marked v w differ old new out before among spliced. waiting_again models marked v w differ old new out before among spliced
