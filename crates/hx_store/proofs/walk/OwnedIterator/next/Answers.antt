use Rattle.std.proofs.Common.{arith}
use Rattle.std.proofs.lemmas.Grind.{common_steps}
use Rattle.hx_store.proofs.walk.OwnedIterator.next.Goals as goal

pub returns-in_err-key : goal.returns-in_err-key
returns-in_err-key g c = grind (arith, common_steps)
