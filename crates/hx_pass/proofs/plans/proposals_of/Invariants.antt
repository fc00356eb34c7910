use Rattle.std.proofs.Common.{◌≡◌, take}
use Rattle.std.specs.Prelude.{map}
use Rattle.hx_pass.specs.Plans.{proposal}
use Rattle.hx_pass.proofs.plans.proposals_of.Given as goal

-- the proposals so far
abbrev pub invariant-loop-candidate : goal.invariant-loop-candidate
invariant-loop-candidate l = l.proposals ≡ map proposal (take l.candidate-index l.sent)
