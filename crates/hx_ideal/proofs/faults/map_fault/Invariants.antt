use Rattle.std.proofs.Common.{◌≡◌, map, take, drop}
use Rattle.hx_lists.specs.First.{answer_behind, first_answer}
use Rattle.hx_ideal.specs.Faults.{entry_fault}
use Rattle.hx_lists.proofs.Known.{AreKnown}
use Rattle.hx_ideal.proofs.faults.map_fault.Given as goal

-- the answer stands behind the entries so far, which have no fault
abbrev pub invariant-loop-place : goal.invariant-loop-place
invariant-loop-place l = record {
  told : answer_behind (entry_fault l.instances l.states l.part) (take l.place l.map) (drop l.place l.map) ≡ first_answer (entry_fault l.instances l.states l.part) l.map;
  known : AreKnown l.instances (map (λ e. e.0.0) (take l.place l.map));
}
