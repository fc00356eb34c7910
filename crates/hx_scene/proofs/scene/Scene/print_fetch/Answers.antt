use Rattle.std.proofs.Common.{refl}
use Rattle.hx_text.proofs.Printing.{puts_none}
use Rattle.hx_scene.proofs.scene.Scene.print_fetch.Goals as goal

pub returns-in_default-clause-prints : goal.returns-in_default-clause-prints
returns-in_default-clause-prints g c = record { ok = tt; err = puts_none _ c.args.out.now c.args.out.now refl }
