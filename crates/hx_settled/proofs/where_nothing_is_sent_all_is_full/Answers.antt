use Rattle.hx_settled.proofs.Filling.{all_full_at}
use Rattle.hx_settled.proofs.where_nothing_is_sent_all_is_full.Goals as goal

pub returns : goal.returns
returns c = all_full_at
