use Rattle.hx_pass.proofs.FormedAgain.{formed_again}
use Rattle.hx_pass.proofs.laws.views_are_well_formed_by_part.Goals as goal

pub returns : goal.returns
returns c = λ models instances marked v w differ formed. formed_again models marked v w differ instances formed
