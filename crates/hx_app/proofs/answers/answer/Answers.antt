use Rattle.std.proofs.Common.{Ok, Err, subst}
use Rattle.hx_app.specs.declared.input.InputRefusal.{InputRefusal}
use Rattle.hx_app.specs.Input.{scenario_of}
use Rattle.hx_app.specs.Refusals.{Refuses}
use Rattle.hx_app.specs.Answers.{sim_answer}
use Rattle.hx_app.proofs.Answered.{answers_found}
use Rattle.hx_app.proofs.answers.answer.Goals as goal

pub returns-in-Ok : goal.returns-in-Ok
returns-in-Ok c = answers_found sim_answer (scenario_of c.args.bytes.now) (Ok c.in-Ok.scenario) c.simulated.result c.in-Ok.ensures.ok c.simulated.ensures

pub returns-in-Err-Fault : goal.returns-in-Err-Fault
returns-in-Err-Fault c =
    answers_found sim_answer (scenario_of c.args.bytes.now) (Err c.in-Err-Fault.fault) c.refused.result
    (subst (λ (refusal : InputRefusal). Refuses (scenario_of c.args.bytes.now) refusal) c.in-Err-Fault.field-0-is c.in-Err-Fault.ensures.err) c.refused.ensures
