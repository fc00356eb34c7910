use Rattle.hx_print.proofs.Followed.{roll_next}
use Rattle.hx_print.proofs.roll.rolls_follow_clusters.Goals as goal

pub returns : goal.returns
returns c = roll_next
