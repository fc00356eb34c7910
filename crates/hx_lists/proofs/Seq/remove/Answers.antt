use Rattle.std.proofs.Common.{arith, rules}
use Rattle.std.proofs.lemmas.Grind.{elements}
use Rattle.hx_lists.proofs.Seq.remove.Goals as goal

pub returns-clause-rest : goal.returns-clause-rest
returns-clause-rest g c = search rules

pub returns-clause-value : goal.returns-clause-value
returns-clause-value g c = grind (arith, elements)
