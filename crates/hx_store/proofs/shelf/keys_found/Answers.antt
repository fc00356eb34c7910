use Rattle.std.proofs.Common.{arith}
use Rattle.std.proofs.lemmas.Grind.{common_steps}
use Rattle.hx_store.proofs.shelf.keys_found.Goals as goal

pub loop-key-preserved-then-key-to : goal.loop-key-preserved-then-key-to
loop-key-preserved-then-key-to g c = grind (arith, common_steps)
