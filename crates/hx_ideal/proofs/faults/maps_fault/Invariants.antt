use Rattle.std.proofs.Common.{◌≡◌, length, take, drop}
use Rattle.hx_lists.specs.First.{answer_behind, first_answer}
use Rattle.hx_ideal.specs.Faults.{map_fault}
use Rattle.hx_ideal.proofs.faults.maps_fault.Given as goal

abbrev pub invariant-loop-part : goal.invariant-loop-part
invariant-loop-part l = answer_behind (λ before entries. map_fault l.instances l.states (length before) entries) (take l.part l.maps) (drop l.part l.maps) ≡ first_answer (λ before entries. map_fault l.instances l.states (length before) entries) l.maps
