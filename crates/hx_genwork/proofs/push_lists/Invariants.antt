use Rattle.std.proofs.Common.{◌≡◌, ◌-◌, ◌++◌, map}
use Rattle.std.specs.Prelude.{◌==◌}
use Rattle.std.specs.List.{join_with_byte}
use Rattle.hx_genwork.specs.Made.{instances_array, lists_after}
use Rattle.hx_genwork.proofs.Printing.{items_left}
use Rattle.hx_genwork.proofs.push_lists.Given as goal

-- what stands and what is left are the whole
abbrev pub invariant-loop-place : goal.invariant-loop-place
invariant-loop-place l = l.page ++ items_left (l.place == 0) (map instances_array (lists_after l.x (l.size - l.place))) ≡ l.initial.page ++ join_with_byte 44 (map instances_array (lists_after l.fn.seed l.size))
