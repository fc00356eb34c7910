use Rattle.std.proofs.Common.{refl}
use Rattle.std.specs.Prelude.{unwrap_or, option_copied}
use Rattle.hx_cluster.specs.Ends.{no_model}
use Rattle.hx_best.specs.Goals.{best_state}
use Rattle.hx_best.proofs.Best.{map-numbers_below_more}
use Rattle.hx_best.proofs.places.best_states.Goals as goal

pub loop-place-preserved : goal.loop-place-preserved
loop-place-preserved c =
    rw (c.in_ok-push.ensures.items, map-numbers_below_more (best_state (unwrap_or (option_copied c.args.model) no_model) c.args.replicas c.args.live) c.loop-place.place, c.loop-place.invariant, c.state_at.ensures)
    refl
