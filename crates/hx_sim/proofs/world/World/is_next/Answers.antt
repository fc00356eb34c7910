use Rattle.std.proofs.Common.{sym, ap, ◌∙◌}
use Rattle.hx_worlds.specs.World.{controller_of}
use Rattle.hx_scene.specs.Scenes.{world_of}
use Rattle.hx_sim.specs.Words.{is_at}
use Rattle.hx_sim.proofs.Stages.{tells_next, next_at}
use Rattle.hx_sim.proofs.world.World.is_next.Goals as goal

pub returns : goal.returns
returns g c =
    let x = controller_of (world_of c.args.self.now) c.args.controller in
    c.is_at.ensures ∙ ap (is_at c.args.word) c.stage.ensures ∙ sym (next_at (tells_next x x.turn.left) c.args.word)
