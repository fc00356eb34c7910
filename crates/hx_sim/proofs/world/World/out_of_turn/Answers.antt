use Rattle.std.proofs.Common.{sym, ap, ◌∙◌}
use Rattle.hx_print.specs.declared.Note.TheVariants as notes
use Rattle.hx_print.specs.declared.Word.{Word}
use Rattle.hx_worlds.specs.World.{controller_of}
use Rattle.hx_worlds.specs.Runs.{note}
use Rattle.hx_worlds.specs.Turns.{out_of_turn}
use Rattle.hx_scene.specs.Scenes.{at, world_of}
use Rattle.hx_scene.proofs.Reaching.{does_as}
use Rattle.hx_sim.specs.Words.{word_for}
use Rattle.hx_sim.proofs.Stages.{tells_next}
use Rattle.hx_sim.proofs.world.World.out_of_turn.Goals as goal

pub returns : goal.returns
returns g c =
    let x = controller_of (world_of c.args.self.now) c.args.controller in
    does_as (out_of_turn c.args.voice c.args.controller) (note c.args.voice (notes.OutOfTurn c.word_of-word.result)) c.args.self.now
    (λ a. ap (λ (w : Word). note c.args.voice (notes.OutOfTurn w) (at c.args.self.now a)) (sym (c.word_of-word.ensures ∙ ap word_for c.stage.ensures ∙ (tells_next x x.turn.left).word)))
    (λ r. tt) c.args.out.now _ _ _ (rw (← c.self.view_is) c.note.ensures.does)
