use Rattle.std.proofs.Common.{◌≡◌, take}
use Rattle.std.specs.Prelude.{map}
use Rattle.hx_report.specs.Findings.{entry}
use Rattle.hx_report.proofs.report_on.Given as goal

-- the targets so far
abbrev pub invariant-loop-target : goal.invariant-loop-target
invariant-loop-target l = l.entries ≡ map (entry l.index l.fates.0 l.fates.1) (take l.target-index l.targets)
