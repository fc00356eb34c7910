use Rattle.std.proofs.Common.{true, ◌∙◌}
use Rattle.hx_app.proofs.Answered.{summary_done, summary_ends_full}
use Rattle.hx_app.proofs.answers.summarized.Goals as goal

pub returns-in-None : goal.returns-in-None
returns-in-None c =
    summary_done c.args.scenario true c.in_ok-run.run' c.in_ok-run.ensures c.done.result c.in-None.is c.done.ensures.status (c.done.ensures.text ∙ c.in_ok-summary_page-in-None.ensures)

pub returns : goal.returns
returns c =
    summary_ends_full c.args.scenario true c.in_ok-run.run' c.in_ok-run.ensures c.ended_full.result c.in-Some.weight c.new.result c.in-Some.is c.new.ensures c.ended_full.ensures.status c.ended_full.ensures.text
