use Rattle.hx_select.proofs.Walk.{IsWalked}
use Rattle.hx_select.proofs.select_on.Given as goal

abbrev pub invariant-loop-candidate : goal.invariant-loop-candidate
invariant-loop-candidate l = IsWalked l.models l.index l.candidates l.candidate-index l.accepted l.full l.fillings.counts l.fillings.taken
