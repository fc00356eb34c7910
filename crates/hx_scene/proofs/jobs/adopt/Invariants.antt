use Rattle.hx_scene.proofs.Adopting.{IsAdopting}
use Rattle.hx_scene.proofs.jobs.adopt.Given as goal

abbrev pub invariant-loop-id : goal.invariant-loop-id
invariant-loop-id g l = IsAdopting l.fn.instance l.fn.jobs.items l.jobs.items l.fn.participants.items l.participants.items l.id-index
