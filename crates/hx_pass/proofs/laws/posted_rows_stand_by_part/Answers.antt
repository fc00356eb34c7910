use Rattle.hx_pass.proofs.PostedAgain.{posted_by_part}
use Rattle.hx_pass.proofs.laws.posted_rows_stand_by_part.Goals as goal

pub returns : goal.returns
returns c = λ v. posted_by_part v
