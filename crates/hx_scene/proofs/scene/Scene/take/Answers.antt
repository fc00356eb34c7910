use Rattle.hx_worlds.specs.Jobs.{do_take}
use Rattle.hx_scene.proofs.Reaching.{does_after}
use Rattle.hx_scene.proofs.Making.{wants_memory, made_given}
use Rattle.hx_scene.proofs.scene.Scene.take.Goals as goal

pub returns-in_err-session : goal.returns-in_err-session
returns-in_err-session g c =
    wants_memory (λ x. do_take c.args.voice c.args.instance c.args.id x) _ c.args.self.now c.args.out.now c.take_job.new.self c.args.out.now c.from_residual.result c.from_residual.ensures.1
    (c.in_err-session.ensures.err c.args.voice c.args.out.now)

pub returns-in-Ok : goal.returns-in-Ok
returns-in-Ok g c = made_given ((rw c.in-Ok.is at c.in_ok-session.ensures.ok) c.args.voice) c.args.out.now c.print_given.new.out c.print_given.result c.print_given.ensures.prints c.print_given.ensures.memory

pub returns-in-Err : goal.returns-in-Err
returns-in-Err g c = does_after ((rw c.in-Err.is at c.in_ok-session.ensures.ok) c.args.voice c.args.out.now) _ c.note.new.self c.note.new.out c.note.result c.note.ensures.does
