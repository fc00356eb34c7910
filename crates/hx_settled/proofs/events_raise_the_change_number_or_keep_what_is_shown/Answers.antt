use Rattle.hx_settled.proofs.Changing.{counted_safe}
use Rattle.hx_settled.proofs.events_raise_the_change_number_or_keep_what_is_shown.Goals as goal

pub returns : goal.returns
returns c = counted_safe
