use Rattle.hx_check.proofs.Built.{lawful_built}
use Rattle.hx_check.proofs.laws.lawful_lines_build_a_lawful_history.Goals as goal

pub returns : goal.returns
returns c = λ spec lines n valid is. lawful_built spec lines n valid is
