use Rattle.hx_scene.proofs.Reaching.{nothing_done}
use Rattle.hx_sim.proofs.Said.{nothing_noted}
use Rattle.hx_sim.proofs.world.World.note_fault.Goals as goal

pub returns-in-NotLeader : goal.returns-in-NotLeader
returns-in-NotLeader g c = rw (c.in-NotLeader.is, ← c.self.view_is) c.note.ensures.does

pub returns-in-Fenced : goal.returns-in-Fenced
returns-in-Fenced g c = rw (c.in-Fenced.is, ← c.self.view_is) c.note-in-Fenced.ensures.does

pub returns-in_default : goal.returns-in_default
returns-in_default g c = nothing_done _ tt _ _ (λ a. nothing_noted _ _ _ c.in_default.not-NotLeader c.in_default.not-Fenced)
