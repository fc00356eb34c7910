use Rattle.hx_pass.proofs.PostedAgain.{posted_again}
use Rattle.hx_pass.proofs.laws.posted_rows_are_found_by_part.Goals as goal

pub returns : goal.returns
returns c = λ marked v w differ out spliced. posted_again marked v w differ out spliced
