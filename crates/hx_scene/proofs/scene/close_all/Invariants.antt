use Rattle.std.specs.List.{All}
use Rattle.hx_scene.specs.Ending.{IsAtRest}
use Rattle.hx_scene.proofs.scene.close_all.Given as goal

abbrev pub invariant-loop-participant : goal.invariant-loop-participant
invariant-loop-participant g l = All IsAtRest l.participants.items

abbrev pub decreases-loop-participant : goal.decreases-loop-participant
decreases-loop-participant g l = goal.left-loop-participant g l
