use Rattle.std.proofs.Common.{◌≡◌, arith}
use Rattle.hx_cluster.specs.declared.happenings.Event.TheVariants as events
use Rattle.hx_worlds.specs.Jobs.{do_write}
use Rattle.hx_worlds.specs.Runs.{note}
use Rattle.hx_print.specs.declared.Note.TheVariants as notes
use Rattle.hx_scene.proofs.Reaching.{does_after}
use Rattle.hx_scene.specs.Fields.{scene_of}
use Rattle.hx_scene.specs.Scenes.{OpenState}
use Rattle.hx_scene.proofs.Making.{Makes, ComesTo, makes_given, comes_to}
use Rattle.hx_scene.proofs.Written.{StandsAt, stands_found, mark_is, found_nowhere, found_within, marked_scene, write_none, written_before, write_makes}
use Rattle.hx_scene.proofs.Written.{within as within_jobs}
use Rattle.hx_scene.proofs.Acked.{ended_scene, job_can, write_comes}
use Rattle.hx_scene.proofs.scene.Scene.write.Goals as goal
use Rattle.hx_scene.proofs.scene.Scene.write.Goals.{After-index-job, After-index_mut, After-end_at}
use Rattle.hx_scene.proofs.scene.Scene.write.Given.{Over}

-- the job that was found stands in the scene
stands : (g : Over) (c : After-index-job g) → StandsAt (scene_of c.self.inside) c.args.instance c.args.id c.in-Some.place c.index-job.result.now
stands g c = stands_found c.args.instance c.args.id c.in-Some.place c.self.invariant.0 c.deref.ensures.value c.place_of.ensures c.in-Some.is c.index-job.ensures

-- its outcome was written, and it is marked
written : (g : Over) (c : After-index_mut g) {k : OpenState} → k ≡ c.index_mut.result.now
    → Makes (λ x. do_write c.args.voice c.args.instance c.args.id x) (events.Write c.index-job.result.now.ran.message.session c.index-job.result.now.ran.message.id c.index-job.result.now.ran.outcome)
    (scene_of c.self.inside) c.write-written.new.self (marked_scene (scene_of c.self.inside) c.in-Some.place c.write-written.new.self k)
written g c =
    write_makes (stands_found c.args.instance c.args.id c.in-Some.place c.self.invariant.0 c.deref.ensures.value c.place_of.ensures c.in-Some.is c.index-job.ensures) c.args.voice
    (mark_is c.job.view_is c.if-job.false) c.session-session.ensures c.id-number.ensures c.outcome-outcome.ensures c.in-Ok.ensures.refused c.in-Ok.ensures.ok c.index_mut.ensures.value

-- its session had ended, and so it does
over : (g : Over) (c : After-end_at g) → ComesTo (λ x. do_write c.args.voice c.args.instance c.args.id x) (λ x. note c.args.voice notes.SessionEnded x) (scene_of c.self.inside)
    (ended_scene (scene_of c.self.inside) c.write-written.new.self c.end_at.new.jobs.items c.end_at.new.participants.items)
over g c =
    write_comes (stands_found c.args.instance c.args.id c.in-Some.place c.self.invariant.0 c.deref.ensures.value c.place_of.ensures c.in-Some.is c.index-job.ensures) c.end_at.ensures.jobs c.end_at.ensures.plain
    c.end_at.ensures.kept c.session-session.ensures c.id-number.ensures c.args.voice c.in-Err.field-0 (mark_is c.job.view_is c.if-job.false) c.in-Err.ensures.refused c.in-Err.ensures.err

pub returns-in_default : goal.returns-in_default
returns-in_default g c =
    comes_to c.self.view_is (write_none _ c.args.instance c.args.id (found_nowhere (scene_of c.self.inside) c.args.instance c.args.id c.deref.ensures.value c.place_of.ensures c.in_default.is) c.args.voice) c.args.out.now c.note.new.self c.note.new.out c.note.result c.note.ensures.does

pub index-job-requires : goal.index-job-requires
index-job-requires g c = omega (arith, found_within (scene_of c.self.inside) c.args.instance c.args.id c.in-Some.place c.deref.ensures.value c.place_of.ensures c.in-Some.is, c.self.inside.jobs.ok.0)

pub returns-then-job : goal.returns-then-job
returns-then-job g c =
    let h = stands g (goal.at.returns-then-job g c).After-index-job in
    comes_to c.self.view_is (λ p. written_before h c.args.voice p (mark_is c.job.view_is c.if-job.true)) c.args.out.now c.note-then-job.new.self c.note-then-job.new.out c.note-then-job.result c.note-then-job.ensures.does

pub index_mut-requires : goal.index_mut-requires
index_mut-requires g c =
    let lt = within_jobs (stands g (goal.at.index_mut-requires g c).After-index-job) in
    omega (arith, lt, c.self.inside.jobs.ok.0)

pub invariant_of-self : goal.invariant_of-self
invariant_of-self g c = ((written g (goal.at.invariant_of-self g c).After-index_mut c.behind-self.view_is).scene c.history.ensures.history, c.self.invariant.1)

pub returns-in-Ok : goal.returns-in-Ok
returns-in-Ok g c =
    rw (← c.self.view_is) (makes_given (written g (goal.at.returns-in-Ok g c).After-index_mut c.behind-self.view_is) c.args.out.now c.print_given.new.out c.print_given.result (rw (c.session-session.ensures, c.id-number.ensures, c.outcome-outcome.ensures) at c.print_given.ensures.prints) c.print_given.ensures.memory)

pub end_at-requires-clause-place : goal.end_at-requires-clause-place
end_at-requires-clause-place g c κs within = within_jobs (stands g (goal.at.end_at-requires-clause-place g c).After-index-job)

pub end_at-requires-clause-can : goal.end_at-requires-clause-can
end_at-requires-clause-can g c κs within j e = job_can (scene_of c.self.inside) c.in-Some.place j c.self.invariant.0 e

pub invariant_of-self-in-Err : goal.invariant_of-self-in-Err
invariant_of-self-in-Err g c = ((over g (goal.at.invariant_of-self-in-Err g c).After-end_at).scene, c.self.invariant.1)

pub returns-in-Err : goal.returns-in-Err
returns-in-Err g c =
    rw (← c.self.view_is) (does_after ((over g (goal.at.returns-in-Err g c).After-end_at).reaches c.args.out.now) _ c.note-in-Err.new.self c.note-in-Err.new.out c.note-in-Err.result c.note-in-Err.ensures.does)
