use Rattle.std.proofs.Common.{◌≡◌, [], sym, subst}
use Rattle.std.specs.Prelude.{IfOk}
use Rattle.hx_pass.specs.Plans.{plan}
use Rattle.hx_pass.specs.Drafts.{finished, reported}
use Rattle.hx_control.specs.Controllers.{Controller}
use Rattle.hx_control.proofs.Sending.{report_if}
use Rattle.hx_control.proofs.controller.Controller.report_to_send.Goals as goal

pub report-requires-clause-planned : goal.report-requires-clause-planned
report-requires-clause-planned c =
    subst (λ (x : Controller). finished x.turn.view c.args.draft.now ≡ plan c.args.spec.now.models c.args.spec.now.rules x.turn.view) (sym c.self.view_is)
    c.requires.planned

pub returns : goal.returns
returns c =
    report_if c.report.result (reported c.args.self.now.turn.view c.args.draft.now) (c.args.proposals.now ≡ []) (c.args.self.now.turn.view.mail ≡ [])
    (subst (λ (x : Controller). IfOk c.report.result (λ report. report ≡ reported x.turn.view c.args.draft.now)) c.self.view_is c.report.ensures)

pub report_without-requires-clause-planned : goal.report_without-requires-clause-planned
report_without-requires-clause-planned c =
    subst (λ (x : Controller). finished x.turn.view c.args.draft.now ≡ plan c.args.spec.now.models c.args.spec.now.rules x.turn.view) (sym c.self.view_is)
    c.requires.planned

pub returns-then-is_still : goal.returns-then-is_still
returns-then-is_still c =
    report_if c.report_without.result (reported c.args.self.now.turn.view c.args.draft.now) (c.args.proposals.now ≡ []) (c.args.self.now.turn.view.mail ≡ [])
    (subst (λ (x : Controller). IfOk c.report_without.result (λ report. report ≡ reported x.turn.view c.args.draft.now)) c.self.view_is c.report_without.ensures)
