use Rattle.std.proofs.Common.{arith}
use Rattle.hx_app.proofs.Cuts.{cut_of-made}
use Rattle.hx_app.proofs.made_laws.made_inputs_are_cut.Goals as goal

pub returns : goal.returns
returns c = λ seed size most. cut_of-made seed size (omega arith)
