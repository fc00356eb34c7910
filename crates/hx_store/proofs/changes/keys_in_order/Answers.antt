use Rattle.std.proofs.Common.{arith}
use Rattle.std.proofs.lemmas.Grind.{elements}
use Rattle.hx_store.proofs.changes.keys_in_order.Goals as goal

pub returns : goal.returns
returns g c = grind (arith, elements)
