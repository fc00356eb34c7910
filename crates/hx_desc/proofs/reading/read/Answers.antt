use Rattle.hx_desc.proofs.ValidSpec.{valid_answer}
use Rattle.hx_desc.proofs.reading.read.Goals as goal

pub returns-in-Some-clause-valid : goal.returns-in-Some-clause-valid
returns-in-Some-clause-valid c = valid_answer c.in-Some.input.description.now c.spec_of.result c.spec_of.ensures
