use Rattle.std.proofs.Common.{◌≡◌, ◌+◌, ◌≤◌, ◌++◌, map, take, drop}
use Rattle.std.specs.List.{sum_by}
use Rattle.hx_replicas.specs.Layout.{wiped, count_of}
use Rattle.hx_replicas.proofs.slots.wipe_all.Given as goal

abbrev pub invariant-loop-slot : goal.invariant-loop-slot
invariant-loop-slot g l = record {
  items : l.slot-items ≡ map wiped (take l.slot-index l.fn.slots.items) ++ drop l.slot-index l.fn.slots.items;
  made : g.F.Factory.made l.factory ≡ g.F.Factory.made l.fn.factory;
  balanced : g.F.Factory.made l.fn.factory ≡ g.F.Factory.retired l.factory + sum_by count_of (drop l.slot-index l.fn.slots.items);
  later : g.F.Factory.faults l.fn.factory ≤ g.F.Factory.faults l.factory;
  tried : g.F.Factory.tried l.factory ≡ g.F.Factory.tried l.fn.factory;
  listed : g.F.Factory.listed l.factory ≡ g.F.Factory.listed l.fn.factory;
}
