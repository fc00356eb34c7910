use Rattle.std.proofs.Common.{◌≡◌, take}
use Rattle.std.specs.List.{All}
use Rattle.hx_control.specs.Controllers.{idle_controller}
use Rattle.hx_agree.proofs.staff.are_idle.Given as goal

abbrev pub invariant-loop-controller : goal.invariant-loop-controller
invariant-loop-controller l =
    All (λ k. k ≡ idle_controller k.id) (take l.controller-index l.controllers)
