use Rattle.std.proofs.Common.{◌≡◌, drop, map}
use Rattle.hx_agree.specs.Tests.{are_in_order}
use Rattle.hx_agree.proofs.staff.are_participants.Given as goal

abbrev pub invariant-loop-place : goal.invariant-loop-place
invariant-loop-place g l =
    are_in_order 0 (map (λ p. p.instance.0) l.participants) ≡ are_in_order l.place (map (λ p. p.instance.0) (drop l.place l.participants))
