use Rattle.std.proofs.Common.{length}
use Rattle.hx_scene.proofs.Adopting.{AreEnding}
use Rattle.hx_scene.proofs.jobs.end_all.Given as goal

abbrev pub invariant-loop-jobs : goal.invariant-loop-jobs
invariant-loop-jobs g l = AreEnding l.jobs.items l.participants.items

abbrev pub decreases-loop-jobs : goal.decreases-loop-jobs
decreases-loop-jobs g l = length l.jobs.items
