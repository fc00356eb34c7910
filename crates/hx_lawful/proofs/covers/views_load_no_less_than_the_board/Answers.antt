use Rattle.hx_lawful.proofs.Loading.{loads_shown}
use Rattle.hx_lawful.proofs.covers.views_load_no_less_than_the_board.Goals as goal

pub returns : goal.returns
returns c = λ b view r key safe shows. loads_shown b view r key shows safe.mail
