use Rattle.std.proofs.Common.{◌≡◌, length, take, drop}
use Rattle.hx_lists.specs.First.{answer_behind, first_answer}
use Rattle.hx_ideal.specs.Faults.{list_fault}
use Rattle.hx_ideal.proofs.faults.lists_fault.Given as goal

abbrev pub invariant-loop-part : goal.invariant-loop-part
invariant-loop-part l = answer_behind (λ before list. list_fault l.instances (length before) list) (take l.part l.lists) (drop l.part l.lists) ≡ first_answer (λ before list. list_fault l.instances (length before) list) l.lists
