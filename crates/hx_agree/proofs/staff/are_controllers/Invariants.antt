use Rattle.std.proofs.Common.{◌≡◌, drop, map}
use Rattle.hx_agree.specs.Tests.{are_in_order}
use Rattle.hx_agree.proofs.staff.are_controllers.Given as goal

abbrev pub invariant-loop-place : goal.invariant-loop-place
invariant-loop-place l =
    are_in_order 0 (map (λ k. k.id.0) l.controllers) ≡ are_in_order l.place (map (λ k. k.id.0) (drop l.place l.controllers))
