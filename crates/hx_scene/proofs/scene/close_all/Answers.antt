use Rattle.std.proofs.lemmas.List.Elements.{All-take}
use Rattle.hx_scene.specs.Ending.{IsAtRest}
use Rattle.hx_scene.proofs.scene.close_all.Goals as goal

pub loop-participant-preserved : goal.loop-participant-preserved
loop-participant-preserved g c = rw c.pop.ensures.rest (All-take IsAtRest _ c.loop-participant.participants.items c.loop-participant.invariant)
