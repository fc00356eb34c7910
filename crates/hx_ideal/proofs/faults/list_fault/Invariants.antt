use Rattle.std.proofs.Common.{◌≡◌, map, take, drop}
use Rattle.hx_lists.specs.First.{answer_behind, first_answer}
use Rattle.hx_ideal.specs.Faults.{id_fault}
use Rattle.hx_lists.proofs.Known.{AreKnown}
use Rattle.hx_ideal.proofs.faults.list_fault.Given as goal

-- the answer stands behind the entries so far, which have no fault
abbrev pub invariant-loop-place : goal.invariant-loop-place
invariant-loop-place l = record {
  told : answer_behind (id_fault l.instances l.part) (take l.place l.list) (drop l.place l.list) ≡ first_answer (id_fault l.instances l.part) l.list;
  known : AreKnown l.instances (map (λ i. i.0) (take l.place l.list));
}
