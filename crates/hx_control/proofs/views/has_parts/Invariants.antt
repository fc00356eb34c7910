use Rattle.std.proofs.Common.{◌≡◌, ◌-◌, length}
use Rattle.std.specs.List.{list_all}
use Rattle.hx_lists.specs.Lists.{numbers_from, numbers_below}
use Rattle.hx_control.specs.Steps.{has_parts_of}
use Rattle.hx_control.proofs.views.has_parts.Given as goal

abbrev pub invariant-loop-place : goal.invariant-loop-place
invariant-loop-place l =
    list_all (has_parts_of l.board.cluster l.view) (numbers_below (length l.view.ideals.resources))
    ≡ list_all (has_parts_of l.board.cluster l.view) (numbers_from l.place (length l.view.ideals.resources - l.place))
