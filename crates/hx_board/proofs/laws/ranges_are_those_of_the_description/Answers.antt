use Rattle.hx_board.proofs.Histories.{instances_stay, controllers_stay, states_stay}
use Rattle.hx_board.proofs.laws.ranges_are_those_of_the_description.Goals as goal

pub returns : goal.returns
returns c = record { instances = instances_stay; controllers = controllers_stay; states = states_stay }
