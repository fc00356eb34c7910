use Rattle.std.proofs.Common.{Ok, Err, List, ℕ, ◌≤◌, length, sym, ap, subst, ◌∙◌}
use Rattle.hx_genwork.specs.Made.{made}
use Rattle.hx_app.specs.declared.input.InputRefusal.{InputRefusal}
use Rattle.hx_app.specs.Constants.{most_bytes}
use Rattle.hx_app.specs.Input.{scenario_of}
use Rattle.hx_app.specs.Refusals.{Refuses}
use Rattle.hx_app.specs.Answers.{summary_answer}
use Rattle.hx_app.proofs.Answered.{answers_found}
use Rattle.hx_app.proofs.Made.{made_fits}
use Rattle.hx_app.proofs.answers.generated.Goals as goal

pub read_scenario-requires : goal.read_scenario-requires
read_scenario-requires c =
    subst (λ (bytes : List ℕ). length bytes ≤ most_bytes) (sym (c.as_bytes.ensures ∙ c.in_ok-input.ensures)) (made_fits c.args.task.seed c.args.task.size c.requires.size.1)

pub returns-in-Ok : goal.returns-in-Ok
returns-in-Ok c =
    answers_found summary_answer (scenario_of (made c.args.task.seed c.args.task.size)) (Ok c.in-Ok.scenario) c.summarized.result
    (ap scenario_of (sym (c.as_bytes.ensures ∙ c.in_ok-input.ensures)) ∙ c.in-Ok.ensures.ok) c.summarized.ensures

pub returns-in-Err-Fault : goal.returns-in-Err-Fault
returns-in-Err-Fault c =
    answers_found summary_answer (scenario_of (made c.args.task.seed c.args.task.size)) (Err c.in-Err-Fault.fault) c.refused.result
    (ap scenario_of (sym (c.as_bytes.ensures ∙ c.in_ok-input.ensures))
    ∙ subst (λ (refusal : InputRefusal). Refuses (scenario_of c.as_bytes.result.now) refusal) c.in-Err-Fault.field-0-is c.in-Err-Fault.ensures.err) c.refused.ensures
