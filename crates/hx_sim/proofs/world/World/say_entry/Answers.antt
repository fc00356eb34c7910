use Rattle.hx_board.specs.declared.faults.RoomFault.TheVariants as rooms
use Rattle.hx_scene.proofs.Reaching.{does_err, cut_here, nothing_done}
use Rattle.hx_sim.proofs.Said.{nothing_found}
use Rattle.hx_sim.proofs.world.World.say_entry.Goals as goal

pub returns-in_err-shown-in-Full : goal.returns-in_err-shown-in-Full
returns-in_err-shown-in-Full g c = does_err _ _ _ _ _ _ _ rooms.OutOfMemory c.from_residual.ensures.1 (cut_here _ _ _)

pub returns-in-Failed : goal.returns-in-Failed
returns-in-Failed g c = rw (c.in-Failed.is, ← c.self.view_is) c.say_failed.ensures

pub returns-in_ok-shown-in-Full : goal.returns-in_ok-shown-in-Full
returns-in_ok-shown-in-Full g c = rw (c.in-Full.is, ← c.self.view_is) c.say_full.ensures

pub returns-in_default : goal.returns-in_default
returns-in_default g c = nothing_done _ tt _ _ (λ a. nothing_found c.args.entry.now.target _ _ c.in_default.not-Failed c.in_default.not-Full)
