use Rattle.std.proofs.Common.{◌≡◌, ◌+◌, ◌*◌, ◌%◌, length, map}
use Rattle.std.specs.Prelude.{slice_get}
use Rattle.std.specs.List.{filter_map}
use Rattle.hx_lists.specs.Lists.{numbers_below}
use Rattle.hx_best.proofs.marks.fill_turn.Given as goal

-- the instances so far
abbrev pub invariant-loop-turn : goal.invariant-loop-turn
invariant-loop-turn l = l.list.items ≡ filter_map (slice_get l.instances) (map (λ j. (l.fn.part * l.taken + j) % length l.instances) (numbers_below l.turn))
