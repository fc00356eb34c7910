use Rattle.std.proofs.Common.{◌≡◌, ◌+◌, ◌++◌, map, drop}
use Rattle.hx_logs.specs.Walk.{indented_before}
use Rattle.hx_logs.proofs.reading.gather_indented.Given as goal

-- what was gathered, and what is left
abbrev pub invariant-loop-place : goal.invariant-loop-place
invariant-loop-place l = indented_before (drop (l.head + 1) l.lines) ≡ map (λ w. w.now) l.indented.items ++ indented_before (drop l.place l.lines)
