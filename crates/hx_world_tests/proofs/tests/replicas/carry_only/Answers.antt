use Rattle.std.proofs.Common.{◌≡◌, ◌++◌, ◌∷◌, [], List, is_some, length, get_or, arith, length-append, ap}
use Rattle.std.specs.List.{All}
use Rattle.hx_replicas.specs.Participants.{accepted_all}
use Rattle.hx_replicas.specs.Jobs.{ParticipantState, Job, IsHanded}
use Rattle.hx_replicas.proofs.Outs.{out-job, run-held, run-listed, hand_out-only}
use Rattle.hx_world_tests.proofs.tests.replicas.carry_only.Goals as goal

last-only : {X : Type 0} (xs ys : List X) (x : X) → length xs ≡ 1 → xs ≡ ys ++ x ∷ [] → xs ≡ x ∷ []
last-only xs [] x one is = is
last-only xs (y ∷ ys) x one is = absurd (omega (arith, ap length is, length-append ys (x ∷ [])))

handed-only : (a b : ParticipantState) (js : List Job) (job : Job) → js ≡ job ∷ [] → All (IsHanded a b) js → IsHanded a b job
handed-only a b js job only all = let h : IsHanded a b (get_or js 0 job) = all 0 job (rw only (omega arith)) in rw only at h

pub finish-requires-clause-out : goal.finish-requires-clause-out
finish-requires-clause-out g c κs within =
    let job = c.in-Some.job in
    let js = c.in-Ok.jobs.items in
    let only = last-only js c.pop.new.self.items job (omega (arith, c.if-len-ne1.false)) c.in-Some.ensures.items in
    let a = c.args.p.now in
    let b = c.jobs.new.self in
    let handed = handed-only a b js job only c.in-Ok.ensures.handed in
    let plain = hand_out-only a.plain b.plain js job (accepted_all a.plain) only c.in-Ok.ensures.asked c.in-Ok.ensures.plain in
    let ran = c.run-ran.result in
    let held : is_some ran.handler ≡ is_some job.handler = run-held job.message job.handler ran.handler _ c.run-ran.ensures.runs in
    rw (c.done.ensures, c.run-ran.ensures.message, held) (out-job a b job plain handed)

pub finish-requires-clause-listed : goal.finish-requires-clause-listed
finish-requires-clause-listed g c κs within =
    let job = c.in-Some.job in
    let js = c.in-Ok.jobs.items in
    let only = last-only js c.pop.new.self.items job (omega (arith, c.if-len-ne1.false)) c.in-Some.ensures.items in
    let handed = handed-only c.args.p.now c.jobs.new.self js job only c.in-Ok.ensures.handed in
    rw (c.done.ensures, c.in-Ok.ensures.rest.listed) (run-listed job.message job.handler c.run-ran.result.handler _ c.args.p.now.listed c.run-ran.ensures.runs handed.listed)
