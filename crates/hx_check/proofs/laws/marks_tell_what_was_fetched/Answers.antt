use Rattle.hx_check.proofs.Marking.{marks_tell}
use Rattle.hx_check.proofs.laws.marks_tell_what_was_fetched.Goals as goal

pub returns : goal.returns
returns c = λ spec h valid legal. marks_tell spec h valid legal
