use Rattle.hx_scene.proofs.Charging.{scene_of_same}
use Rattle.hx_scene.proofs.Happening.{no_memory, step_given, step_noted, step_none, scene_of_step}
use Rattle.hx_scene.proofs.scene.Scene.make.Goals as goal

pub invariant_of-self : goal.invariant_of-self
invariant_of-self g c = (
  scene_of_step c.admin.new.self c.args.voice c.args.step.now c.self.invariant.0 c.history.ensures.history (rw (← c.self.view_is) at c.requires.range) c.in-Ok.ensures.refused c.in-Ok.ensures.ok,
  c.self.invariant.1,
)

pub returns-in-Ok : goal.returns-in-Ok
returns-in-Ok g c =
    rw (← c.self.view_is)
    (step_given c.args.voice c.args.step.now c.in-Ok.did _ c.admin.new.self c.args.out.now c.print_made.new.out c.print_made.result c.in-Ok.ensures.refused c.in-Ok.ensures.ok
    c.in-Ok.ensures.did (rw (← c.self.view_is) at c.requires.roll) c.print_made.ensures.prints c.print_made.ensures.memory)

pub returns-in-Err-Step : goal.returns-in-Err-Step
returns-in-Err-Step g c =
    rw (← c.self.view_is)
    (step_noted c.args.voice c.args.step.now c.in-Err-Step.fault _ c.note.new.self c.admin.new.self c.args.out.now c.note.new.out c.note.result
    (rw c.in-Err-Step.field-0-is at c.in-Err-Step.ensures.refused) c.in-Err-Step.ensures.err c.note.ensures.does)

pub returns-in-Err-HistoryFull : goal.returns-in-Err-HistoryFull
returns-in-Err-HistoryFull g c =
    rw (← c.self.view_is)
    (step_none c.args.voice c.args.step.now _ c.admin.new.self c.args.out.now c.in-Err-HistoryFull.weight (rw c.in-Err-HistoryFull.field-0-is at c.in-Err-HistoryFull.ensures.refused)
    c.in-Err-HistoryFull.ensures.err)

pub returns-in-Err-OutOfMemory : goal.returns-in-Err-OutOfMemory
returns-in-Err-OutOfMemory g c = rw (← c.self.view_is) (no_memory _ _ c.admin.new.self c.args.out.now c.in-Err-OutOfMemory.ensures.err)

pub invariant_of-self-in-Err-Step : goal.invariant_of-self-in-Err-Step
invariant_of-self-in-Err-Step g c = (scene_of_same c.admin.new.self c.self.invariant.0 c.in-Err-Step.ensures.err, c.self.invariant.1)

pub invariant_of-self-in-Err-HistoryFull : goal.invariant_of-self-in-Err-HistoryFull
invariant_of-self-in-Err-HistoryFull g c = (scene_of_same c.admin.new.self c.self.invariant.0 c.in-Err-HistoryFull.ensures.err, c.self.invariant.1)

pub invariant_of-self-in-Err-OutOfMemory : goal.invariant_of-self-in-Err-OutOfMemory
invariant_of-self-in-Err-OutOfMemory g c = (scene_of_same c.admin.new.self c.self.invariant.0 c.in-Err-OutOfMemory.ensures.err, c.self.invariant.1)
