use Rattle.hx_lists.proofs.Choices.{choice_exists, choice_is_one}
use Rattle.hx_throttle.specs.Throttle.{is_sent}
use Rattle.hx_throttle.proofs.throttles_name_one_list.Goals as goal

pub returns-clause-some : goal.returns-clause-some
returns-clause-some c = λ rules view accepted. choice_exists (is_sent rules view) accepted

pub returns-clause-one : goal.returns-clause-one
returns-clause-one c = λ rules view accepted a b p q. choice_is_one (is_sent rules view) accepted a b p q
