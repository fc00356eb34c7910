-- A plan whose report isn't made yet.
use Rattle.std.specs.Prelude.{List, map}
use Rattle.hx_model.specs.declared.ModelParts.{ModelParts}
use Rattle.hx_cluster.specs.declared.description.Rule.{Rule}
use Rattle.hx_cluster.specs.declared.happenings.Proposal.{Proposal}
use Rattle.hx_cluster.specs.declared.planning.View.{View}
use Rattle.hx_cluster.specs.declared.planning.Candidate.{Candidate}
use Rattle.hx_cluster.specs.declared.planning.Report.{Report}
use Rattle.hx_cluster.specs.declared.planning.Plan.{Plan}
use Rattle.hx_pass.specs.Plans.{throttled_of, proposal, plan}

-- the models and rules, and what is sent of the candidates
pub record Draft : Type 0 where
  pub models : List ModelParts
  pub rules : List Rule
  pub sent : List Candidate

abbrev pub draft : List ModelParts → List Rule → View → Draft
draft models rules view = record { models = models; rules = rules; sent = (throttled_of models rules view).sent }

-- its proposals, and the report of the plan that its models and rules make of a view
abbrev pub proposed : Draft → List Proposal
proposed d = map proposal d.sent

abbrev pub reported : View → Draft → Report
reported view d = (plan d.models d.rules view).report

-- the plan with its report
abbrev pub finished : View → Draft → Plan
finished view d = record { proposals = proposed d; report = reported view d }
