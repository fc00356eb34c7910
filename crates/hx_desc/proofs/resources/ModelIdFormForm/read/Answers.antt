use Rattle.hx_desc.proofs.resources.ModelIdFormForm.read.Goals as goal

pub returns-clause-known : goal.returns-clause-known
returns-clause-known c = c.in_ok-place.ensures.range
