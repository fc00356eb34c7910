use Rattle.std.proofs.Common.{arith}
use Rattle.hx_cluster.specs.declared.happenings.Event.TheVariants as events
use Rattle.hx_worlds.specs.Jobs.{do_ack}
use Rattle.hx_worlds.specs.Runs.{note}
use Rattle.hx_print.specs.declared.Note.TheVariants as notes
use Rattle.hx_scene.proofs.Reaching.{does_after}
use Rattle.hx_scene.specs.Fields.{scene_of}
use Rattle.hx_scene.proofs.Making.{Makes, ComesTo, makes_given, comes_to}
use Rattle.hx_scene.proofs.Written.{StandsAt, stands_found, mark_is, found_nowhere, found_within}
use Rattle.hx_scene.proofs.Written.{within as within_jobs}
use Rattle.hx_scene.proofs.Acked.{ended_scene, job_can, ack_none, ack_before, ack_makes, ack_comes}
use Rattle.hx_scene.proofs.scene.Scene.ack.Goals as goal
use Rattle.hx_scene.proofs.scene.Scene.ack.Goals.{After-index-job, In-Ok, In-Err}
use Rattle.hx_scene.proofs.scene.Scene.ack.Given.{Over}

-- the job that was found stands in the scene
stands : (g : Over) (c : After-index-job g) → StandsAt (scene_of c.self.inside) c.args.instance c.args.id c.in-Some.place c.index-job.result.now
stands g c = stands_found c.args.instance c.args.id c.in-Some.place c.self.invariant.0 c.deref.ensures.value c.place_of.ensures c.in-Some.is c.index-job.ensures

-- it was acknowledged, and ends
acked : (g : Over) (c : In-Ok g) → Makes (λ x. do_ack c.args.voice c.args.instance c.args.id x) (events.Ack c.index-job.result.now.ran.message.session c.index-job.result.now.ran.message.id) (scene_of c.self.inside)
    c.ack-acked.new.self (ended_scene (scene_of c.self.inside) c.ack-acked.new.self c.end_at.new.jobs.items c.end_at.new.participants.items)
acked g c =
    ack_makes (stands_found c.args.instance c.args.id c.in-Some.place c.self.invariant.0 c.deref.ensures.value c.place_of.ensures c.in-Some.is c.index-job.ensures) c.end_at.ensures.jobs c.end_at.ensures.plain c.end_at.ensures.kept
    c.session-session.ensures c.id-number.ensures c.args.voice (mark_is c.job.view_is c.if-not-job.false) c.in-Ok.ensures.refused c.in-Ok.ensures.ok

-- its session had ended, and so it does
over : (g : Over) (c : In-Err g) → ComesTo (λ x. do_ack c.args.voice c.args.instance c.args.id x) (λ x. note c.args.voice notes.SessionEnded x) (scene_of c.self.inside)
    (ended_scene (scene_of c.self.inside) c.ack-acked.new.self c.end_at.new.jobs.items c.end_at.new.participants.items)
over g c =
    ack_comes (stands_found c.args.instance c.args.id c.in-Some.place c.self.invariant.0 c.deref.ensures.value c.place_of.ensures c.in-Some.is c.index-job.ensures) c.end_at.ensures.jobs c.end_at.ensures.plain c.end_at.ensures.kept
    c.session-session.ensures c.id-number.ensures c.args.voice c.in-Err.field-0 (mark_is c.job.view_is c.if-not-job.false) c.in-Err.ensures.refused c.in-Err.ensures.err

pub returns-in_default : goal.returns-in_default
returns-in_default g c =
    comes_to c.self.view_is (ack_none _ c.args.instance c.args.id (found_nowhere (scene_of c.self.inside) c.args.instance c.args.id c.deref.ensures.value c.place_of.ensures c.in_default.is) c.args.voice) c.args.out.now c.note.new.self c.note.new.out c.note.result c.note.ensures.does

pub index-job-requires : goal.index-job-requires
index-job-requires g c = omega (arith, found_within (scene_of c.self.inside) c.args.instance c.args.id c.in-Some.place c.deref.ensures.value c.place_of.ensures c.in-Some.is, c.self.inside.jobs.ok.0)

pub returns-then-not-job : goal.returns-then-not-job
returns-then-not-job g c =
    let h = stands g (goal.at.returns-then-not-job g c).After-index-job in
    comes_to c.self.view_is (λ p. ack_before h c.args.voice p (mark_is c.job.view_is c.if-not-job.true)) c.args.out.now c.note-then-not-job.new.self c.note-then-not-job.new.out c.note-then-not-job.result c.note-then-not-job.ensures.does

pub end_at-requires-clause-place : goal.end_at-requires-clause-place
end_at-requires-clause-place g c κs within = within_jobs (stands g (goal.at.end_at-requires-clause-place g c).After-index-job)

pub end_at-requires-clause-can : goal.end_at-requires-clause-can
end_at-requires-clause-can g c κs within j e = job_can (scene_of c.self.inside) c.in-Some.place j c.self.invariant.0 e

pub invariant_of-self : goal.invariant_of-self
invariant_of-self g c = ((acked g (goal.at.invariant_of-self g c).In-Ok).scene c.history.ensures.history, c.self.invariant.1)

pub returns-in-Ok : goal.returns-in-Ok
returns-in-Ok g c =
    rw (← c.self.view_is) (makes_given (acked g (goal.at.returns-in-Ok g c).In-Ok) c.args.out.now c.print_given.new.out c.print_given.result (rw (c.session-session.ensures, c.id-number.ensures) at c.print_given.ensures.prints) c.print_given.ensures.memory)

pub invariant_of-self-in-Err : goal.invariant_of-self-in-Err
invariant_of-self-in-Err g c = ((over g (goal.at.invariant_of-self-in-Err g c).In-Err).scene, c.self.invariant.1)

pub returns-in-Err : goal.returns-in-Err
returns-in-Err g c =
    rw (← c.self.view_is) (does_after ((over g (goal.at.returns-in-Err g c).In-Err).reaches c.args.out.now) _ c.note-in-Err.new.self c.note-in-Err.new.out c.note-in-Err.result c.note-in-Err.ensures.does)
