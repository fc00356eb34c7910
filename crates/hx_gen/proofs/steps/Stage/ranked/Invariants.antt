use Rattle.std.proofs.Common.{◌≡◌, take}
use Rattle.std.specs.Prelude.{option_map}
use Rattle.std.specs.List.{filter_map}
use Rattle.hx_gen.specs.Candidates.{candidate_of}
use Rattle.hx_gen.specs.Stage.{ranked_as}
use Rattle.hx_gen.proofs.steps.Stage.ranked.Given as goal

-- the candidates of the targets so far
abbrev pub invariant-loop-target : goal.invariant-loop-target
invariant-loop-target l = l.ranked.items ≡ filter_map (λ t. option_map (ranked_as l.self) (candidate_of l.self.models l.self.view t)) (take l.target-index l.targets)
