use Rattle.std.proofs.Common.{◌≡◌, ◌+◌, ◌*◌, ◌%◌, map}
use Rattle.hx_lists.specs.Lists.{numbers_below}
use Rattle.hx_place.proofs.list_of.Given as goal

-- the places up to here
abbrev pub invariant-loop-j : goal.invariant-loop-j
invariant-loop-j l = l.places.items ≡ map (λ j. (l.fn.part * l.k + j) % l.instances) (numbers_below l.j)
