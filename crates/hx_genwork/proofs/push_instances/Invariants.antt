use Rattle.std.proofs.Common.{◌≡◌, ◌++◌, map, drop}
use Rattle.std.specs.Prelude.{◌==◌}
use Rattle.std.specs.List.{join_with_byte}
use Rattle.hx_genwork.specs.Made.{quoted, instance_name}
use Rattle.hx_genwork.proofs.Printing.{items_left}
use Rattle.hx_genwork.proofs.push_instances.Given as goal

-- what stands and what is left are the whole
abbrev pub invariant-loop-place : goal.invariant-loop-place
invariant-loop-place l = l.page ++ items_left (l.place == 0) (map (λ n. quoted (instance_name n)) (drop l.place l.instances)) ≡ l.initial.page ++ join_with_byte 44 (map (λ n. quoted (instance_name n)) l.instances)
