use Rattle.hx_select.proofs.Walk.{IsWalkedByPart}
use Rattle.hx_select.proofs.accepted_on.Given as goal

abbrev pub invariant-loop-candidate : goal.invariant-loop-candidate
invariant-loop-candidate l = IsWalkedByPart l.models l.index l.candidates l.candidate-index l.accepted l.fillings.part l.fillings.fillings.items
