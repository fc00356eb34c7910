use Rattle.hx_pass.proofs.FoundAgain.{accepted_again}
use Rattle.hx_pass.proofs.laws.accepted_candidates_are_found_by_part.Goals as goal

pub returns : goal.returns
returns c = λ models marked v w differ out spliced. accepted_again models marked v w differ out spliced
