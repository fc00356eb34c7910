use Rattle.hx_lists.proofs.Choices.{choice_exists, choice_is_one}
use Rattle.hx_select.specs.Selection.{has_room}
use Rattle.hx_select.proofs.bounds_name_one_list.Goals as goal

pub returns-clause-some : goal.returns-clause-some
returns-clause-some c = λ models view candidates. choice_exists (has_room models view) candidates

pub returns-clause-one : goal.returns-clause-one
returns-clause-one c = λ models view candidates a b p q. choice_is_one (has_room models view) candidates a b p q
