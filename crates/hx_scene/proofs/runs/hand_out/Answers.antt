use Rattle.hx_scene.proofs.Handing.{all_handing}
use Rattle.hx_scene.proofs.runs.hand_out.Goals as goal

pub returns-clause-some : goal.returns-clause-some
returns-clause-some g c =
    all_handing c.args.participant.now c.reserve.new.self c.job_of.new.self c.job_of.result c.reserve.ensures.rest c.reserve.ensures.ledger c.job_of.ensures.ledger c.job_of.ensures.rest
    c.job_of.ensures.plain c.job_of.ensures.handed
