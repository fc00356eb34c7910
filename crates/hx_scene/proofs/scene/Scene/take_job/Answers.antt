use Rattle.std.proofs.Common.{List, arith, subst, sym}
use Rattle.std.specs.Prelude.{IfNone}
use Rattle.hx_worlds.specs.Jobs.{do_take}
use Rattle.hx_worlds.specs.declared.Voice.{Voice}
use Rattle.hx_worlds.specs.declared.Voice.TheVariants.{Quiet}
use Rattle.hx_worlds.specs.Runs.{note}
use Rattle.hx_print.specs.declared.Note.TheVariants as notes
use Rattle.hx_scene.specs.Scenes.{OpenState}
use Rattle.hx_scene.specs.Taking.{IsStill}
use Rattle.hx_scene.specs.Doing.{IsCut}
use Rattle.hx_scene.proofs.Reaching.{cut_here}
use Rattle.hx_scene.specs.Fields.{scene_of}
use Rattle.hx_scene.proofs.Standing.{has_staff}
use Rattle.hx_scene.proofs.Making.{ComesTo, IsCutHere, cut_for}
use Rattle.hx_scene.proofs.Taking.{with_staff}
use Rattle.hx_scene.proofs.Taken.{IsHandedOut, handed_of, handed_out, handed_listed, still_here, none_comes, run_comes, run_scene}
use Rattle.hx_scene.proofs.scene.Scene.take_job.Goals as goal
use Rattle.hx_scene.proofs.scene.Scene.take_job.Goals.{In_err-job, In_default, In-Some}
use Rattle.hx_scene.proofs.scene.Scene.take_job.Given.{Over}

-- nothing was handed out for want of memory
cut : (g : Over) (c : In_err-job g) (v : Voice)
    → IsCutHere (λ x. do_take v c.args.instance c.args.id x) (scene_of c.self.inside) (record (with_staff (scene_of c.self.inside) c.args.instance c.hand_out.new.participant) { jobs = c.reserve.new.self.items })
cut g c v =
    still_here (λ x. do_take v c.args.instance c.args.id x) c.self.invariant.0 (has_staff _ c.self.invariant.0 c.args.instance (rw (← c.self.view_is) at c.requires)) c.index_mut-participant.ensures.value
    c.in_err-job.ensures.err c.reserve.ensures.items

-- there is no such message
none : (g : Over) (c : In_default g) (v : Voice) → ComesTo (λ x. do_take v c.args.instance c.args.id x) (λ x. note v notes.NoJob x) (scene_of c.self.inside)
    (record (with_staff (scene_of c.self.inside) c.args.instance c.hand_out.new.participant) { jobs = c.reserve.new.self.items })
none g c v =
    let still : IsStill c.index_mut-participant.result.now c.hand_out.new.participant = subst (λ o. IfNone o (IsStill c.index_mut-participant.result.now c.hand_out.new.participant)) c.in_default.is c.in_ok-job.ensures.none in
    none_comes v c.args.id c.self.invariant.0 (has_staff _ c.self.invariant.0 c.args.instance (rw (← c.self.view_is) at c.requires)) c.index_mut-participant.ensures.value still c.in_ok-job.ensures.asked c.in_default.is
    c.reserve.ensures.items

-- it is handed out
handed : (g : Over) (c : In-Some g) → IsHandedOut (scene_of c.self.inside) c.args.instance c.args.id c.hand_out.new.participant c.in-Some.job
handed g c =
    handed_of (scene_of c.self.inside) c.args.instance c.args.id c.index_mut-participant.result.now c.hand_out.new.participant c.in_ok-job.field-0 c.in-Some.job c.self.invariant.0
    (has_staff _ c.self.invariant.0 c.args.instance (rw (← c.self.view_is) at c.requires)) c.index_mut-participant.ensures.value c.in_ok-job.ensures.asked c.in_ok-job.ensures.some c.in-Some.is c.if-self-ge-MOST_HANDED.false

pub returns-then-self-ge-MOST_HANDED-clause-err : goal.returns-then-self-ge-MOST_HANDED-clause-err
returns-then-self-ge-MOST_HANDED-clause-err g c v p = cut_here _ _ _

pub returns-in_err-reserve-clause-err : goal.returns-in_err-reserve-clause-err
returns-in_err-reserve-clause-err g c =
    rw (← c.self.view_is)
    (cut_for c.from_residual.result
    (λ v p. subst (λ (js : List OpenState). IsCut (λ x. do_take v c.args.instance c.args.id x) (scene_of c.self.inside) p (record (scene_of c.self.inside) { jobs = js }) p) (sym {A = List OpenState} c.reserve.ensures.items)
    (cut_here (λ x. do_take v c.args.instance c.args.id x) (scene_of c.self.inside) p)))

pub index_mut-participant-requires : goal.index_mut-participant-requires
index_mut-participant-requires g c =
    let lt = has_staff _ c.self.invariant.0 c.args.instance (rw (← c.self.view_is) at c.requires) in
    omega (arith, lt, c.self.inside.participants.ok.0)

pub invariant_of-self-in_err-job : goal.invariant_of-self-in_err-job
invariant_of-self-in_err-job g c = ((cut g (goal.at.invariant_of-self-in_err-job g c).In_err-job Quiet).scene, c.self.invariant.1)

pub returns-in_err-job-clause-err : goal.returns-in_err-job-clause-err
returns-in_err-job-clause-err g c = rw (← c.self.view_is) (cut_for c.from_residual-in_err-job.result (λ v p. (cut g (goal.at.returns-in_err-job-clause-err g c).In_err-job v).cut p))

pub invariant_of-self-in_default : goal.invariant_of-self-in_default
invariant_of-self-in_default g c = ((none g (goal.at.invariant_of-self-in_default g c).In_default Quiet).scene, c.self.invariant.1)

pub returns-in_default-clause-ok : goal.returns-in_default-clause-ok
returns-in_default-clause-ok g c = rw (← c.self.view_is) (λ v p. (none g (goal.at.returns-in_default-clause-ok g c).In_default v).reaches p)

pub run_taken-requires-clause-out : goal.run_taken-requires-clause-out
run_taken-requires-clause-out g c κs within = handed_out (handed g (goal.at.run_taken-requires-clause-out g c).In-Some)

pub run_taken-requires-clause-listed : goal.run_taken-requires-clause-listed
run_taken-requires-clause-listed g c κs within = handed_listed (handed g (goal.at.run_taken-requires-clause-listed g c).In-Some)

pub invariant_of-self-2 : goal.invariant_of-self-2
invariant_of-self-2 g c = (run_scene (handed g (goal.at.invariant_of-self-2 g c).In-Some) c.reserve.ensures.items c.run_taken.new.participant c.run_taken.new.board c.run_taken.new.jobs.items c.run_taken.result c.run_taken.ensures.takes c.run_taken.ensures.history, c.self.invariant.1)

pub returns-clause-ok : goal.returns-clause-ok
returns-clause-ok g c = rw (← c.self.view_is) (run_comes (handed g (goal.at.returns-clause-ok g c).In-Some) c.reserve.ensures.items c.run_taken.new.participant c.run_taken.new.board c.run_taken.new.jobs.items c.run_taken.result c.run_taken.ensures.takes)
