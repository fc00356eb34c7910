use Rattle.std.proofs.Common.{◌∙◌, ap, sym}
use Rattle.hx_cluster.specs.declared.planning.Plan.{Plan}
use Rattle.hx_pass.proofs.drafts.Draft.report.Goals as goal

pub returns : goal.returns
returns c = ap (λ (p : Plan). p.report) (c.in_ok-plan.ensures ∙ sym c.requires.planned)
