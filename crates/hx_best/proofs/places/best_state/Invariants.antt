use Rattle.std.proofs.Common.{◌≡◌, drop}
use Rattle.hx_best.specs.Goals.{best_among, best_state}
use Rattle.hx_best.proofs.places.best_state.Given as goal

-- what is left of the states takes what is left of the place
abbrev pub invariant-loop-state : goal.invariant-loop-state
invariant-loop-state l = best_among (drop l.state-index l.model.states) l.model.initial l.replicas l.live l.left ≡ best_state l.model l.replicas l.live l.fn.place
