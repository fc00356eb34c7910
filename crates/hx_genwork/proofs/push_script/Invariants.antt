use Rattle.std.proofs.Common.{◌≡◌, ◌++◌, take}
use Rattle.std.specs.List.{flat_map}
use Rattle.hx_genwork.specs.Made.{join_line, drain_lines}
use Rattle.hx_genwork.proofs.push_script.Given as goal

-- the lines of the instances so far
abbrev pub invariant-loop-n : goal.invariant-loop-n
invariant-loop-n l = l.page ≡ l.initial.page ++ flat_map join_line (take l.n-index l.n-items)

abbrev pub invariant-loop-n-2 : goal.invariant-loop-n-2
invariant-loop-n-2 l = l.page ≡ l.initial.page ++ flat_map drain_lines (take l.n-index l.n-items)
