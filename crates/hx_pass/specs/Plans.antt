-- The plan of a pass: the stages over all resources in order of number, throttled together.
use Rattle.std.specs.Prelude.{List, map}
use Rattle.hx_model.specs.declared.ModelParts.{ModelParts}
use Rattle.hx_cluster.specs.declared.description.Rule.{Rule}
use Rattle.hx_cluster.specs.declared.happenings.Proposal.{Proposal}
use Rattle.hx_cluster.specs.declared.planning.View.{View}
use Rattle.hx_cluster.specs.declared.planning.Candidate.{Candidate}
use Rattle.hx_cluster.specs.declared.planning.Selection.{Selection}
use Rattle.hx_cluster.specs.declared.planning.Throttled.{Throttled}
use Rattle.hx_cluster.specs.declared.planning.Plan.{Plan}
use Rattle.hx_best.specs.Targets.{all_targets}
use Rattle.hx_gen.specs.Candidates.{candidates}
use Rattle.hx_select.specs.Selection.{selection}
use Rattle.hx_throttle.specs.Throttle.{throttled}
use Rattle.hx_report.specs.Findings.{report}

abbrev pub all_candidates : List ModelParts → View → List Candidate
all_candidates models view = candidates models view (all_targets models view)

abbrev pub selection_of : List ModelParts → View → Selection
selection_of models view = selection models view (all_candidates models view)

abbrev pub throttled_of : List ModelParts → List Rule → View → Throttled
throttled_of models rules view = throttled rules view (selection_of models view).accepted

abbrev pub proposal : Candidate → Proposal
proposal c = record { session = c.session; part = c.part; from = c.from; to = c.to }

abbrev pub plan_over : List ModelParts → View → Selection → Throttled → Plan
plan_over models view selection throttled = record {
  proposals = map proposal throttled.sent;
  report = report (all_targets models view) view selection throttled;
}

abbrev pub plan : List ModelParts → List Rule → View → Plan
plan models rules view = plan_over models view (selection_of models view) (throttled_of models rules view)
