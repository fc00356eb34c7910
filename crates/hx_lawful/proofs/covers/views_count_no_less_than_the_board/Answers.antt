use Rattle.hx_cluster.specs.Ends.{limit_at}
use Rattle.hx_safe.proofs.Whole.{whole_from}
use Rattle.hx_lawful.proofs.Filling.{counts_shown}
use Rattle.hx_lawful.proofs.covers.views_count_no_less_than_the_board.Goals as goal

pub returns : goal.returns
returns c = λ b view p t limit safe ranged shows at. counts_shown b view p t limit shows (whole_from (limit_at b) b safe ranged).kept.sound safe.sessions.numbers at
