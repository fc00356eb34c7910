use Rattle.std.proofs.Common.{refl}
use Rattle.hx_scene.proofs.Reaching.{nothing_done}
use Rattle.hx_sim.proofs.world.World.tell_outcome.Goals as goal

pub returns-in_default : goal.returns-in_default
returns-in_default g c = rw (c.in_default.is-0, c.in_default.is-1) (nothing_done _ tt _ _ (λ a. refl))

pub returns-in_default-2 : goal.returns-in_default-2
returns-in_default-2 g c = rw c.in_default.is-0 (nothing_done _ tt _ _ (λ a. refl))
