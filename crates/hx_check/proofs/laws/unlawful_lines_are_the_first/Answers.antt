use Rattle.hx_check.proofs.Built.{first_unlawful}
use Rattle.hx_check.proofs.laws.unlawful_lines_are_the_first.Goals as goal

pub returns : goal.returns
returns c = λ spec lines line cause valid is. first_unlawful spec lines line cause valid is
