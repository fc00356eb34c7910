use Rattle.hx_scene.proofs.Taken.{put_out, put_listed, taken_of, refused_of}
use Rattle.hx_scene.proofs.runs.run_taken.Goals as goal

pub returns-in-Ok-clause-takes : goal.returns-in-Ok-clause-takes
returns-in-Ok-clause-takes g c =
    taken_of c.args.participant.now c.run.result c.message.ensures c.in-Ok.ensures.refused c.in-Ok.ensures.ok (record { message = c.run.ensures.message; runs = c.run.ensures.runs }) c.push_reserved.ensures.items

pub finish-requires-clause-out : goal.finish-requires-clause-out
finish-requires-clause-out g c κs within = put_out c.args.participant.now c.put_back.result c.put_back.ensures c.requires.out

pub finish-requires-clause-listed : goal.finish-requires-clause-listed
finish-requires-clause-listed g c κs within = put_listed c.args.participant.now c.put_back.result c.put_back.ensures c.requires.listed

pub returns-in-Err-clause-takes : goal.returns-in-Err-clause-takes
returns-in-Err-clause-takes g c =
    refused_of c.args.instance c.args.jobs.now.items c.in-Err.field-0 c.put_back.result c.message.ensures c.in-Err.ensures.refused c.in-Err.ensures.err c.put_back.ensures c.finish.ensures.plain c.finish.ensures.made c.finish.ensures.listed
