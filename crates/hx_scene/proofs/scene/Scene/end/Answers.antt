use Rattle.hx_scene.proofs.Dying.{died_given, die_noted, die_none, die_wanted}
use Rattle.hx_scene.proofs.scene.Scene.end.Goals as goal

pub returns-in-Ok : goal.returns-in-Ok
returns-in-Ok g c =
    died_given c.args.voice c.args.instance c.args.out.now c.print_made.new.out c.print_made.result c.in-Ok.ensures.refused c.in-Ok.ensures.ok c.requires.roll c.print_made.ensures.prints c.print_made.ensures.memory

pub returns-in-Step : goal.returns-in-Step
returns-in-Step g c =
    die_noted c.args.voice c.args.instance c.in-Step.fault c.note.new.self c.args.out.now c.note.new.out c.note.result (rw c.in-Step.is at c.in-Err.ensures.refused) c.in-Err.ensures.err c.note.ensures.does

pub returns-in-HistoryFull : goal.returns-in-HistoryFull
returns-in-HistoryFull g c = die_none c.args.voice c.args.instance c.args.out.now c.in-HistoryFull.weight (rw c.in-HistoryFull.is at c.in-Err.ensures.refused) c.in-Err.ensures.err

pub returns-in-OutOfMemory : goal.returns-in-OutOfMemory
returns-in-OutOfMemory g c = die_wanted c.args.voice c.args.instance c.args.out.now c.in-Err.ensures.err
