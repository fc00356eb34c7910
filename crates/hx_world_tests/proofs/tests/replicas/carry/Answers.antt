use Rattle.std.proofs.Common.{◌≡◌, is_some}
use Rattle.hx_replicas.proofs.Outs.{out-job, run-held, run-listed}
use Rattle.hx_world_tests.proofs.tests.replicas.carry.Goals as goal

pub finish-requires-clause-out : goal.finish-requires-clause-out
finish-requires-clause-out g c κs within =
    let job = c.in-Some.job in
    let ran = c.run-ran.result in
    let plain = rw c.in-Some.is at c.in-Ok.ensures.plain in
    let handed = rw c.in-Some.is at c.in-Ok.ensures.handed in
    let held : is_some ran.handler ≡ is_some job.handler = run-held job.message job.handler ran.handler _ c.run-ran.ensures.runs in
    rw (c.done.ensures, c.run-ran.ensures.message, held) (out-job c.args.p.now c.job_of.new.self job plain handed)

pub finish-requires-clause-listed : goal.finish-requires-clause-listed
finish-requires-clause-listed g c κs within =
    let job = c.in-Some.job in
    let handed = rw c.in-Some.is at c.in-Ok.ensures.handed in
    rw (c.done.ensures, c.in-Ok.ensures.rest.listed) (run-listed job.message job.handler c.run-ran.result.handler _ c.args.p.now.listed c.run-ran.ensures.runs handed.listed)
