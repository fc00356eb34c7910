use Rattle.std.proofs.Common.{◌≡◌, map}
use Rattle.std.specs.Prelude.{unwrap_or, option_copied}
use Rattle.hx_lists.specs.Lists.{numbers_below}
use Rattle.hx_cluster.specs.Ends.{no_model}
use Rattle.hx_best.specs.Goals.{best_state}
use Rattle.hx_best.proofs.places.best_states.Given as goal

-- the states so far
abbrev pub invariant-loop-place : goal.invariant-loop-place
invariant-loop-place l = l.best.items ≡ map (best_state (unwrap_or (option_copied l.model) no_model) l.replicas l.live) (numbers_below l.place)
