use Rattle.hx_app.proofs.Answered.{sim_done, sim_ends_full}
use Rattle.hx_app.proofs.answers.simulated.Goals as goal

pub returns-in-None : goal.returns-in-None
returns-in-None c = sim_done c.args.scenario c.in_ok-run.run' c.in_ok-run.ensures c.done.result c.in-None.is c.done.ensures.status c.done.ensures.text

pub returns : goal.returns
returns c =
    sim_ends_full c.args.scenario c.in_ok-run.run' c.in_ok-run.ensures c.ended_full.result c.in-Some.weight c.in-Some.is c.ended_full.ensures.status c.ended_full.ensures.text
