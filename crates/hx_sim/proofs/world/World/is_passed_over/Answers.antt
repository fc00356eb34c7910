use Rattle.std.proofs.Common.{◌==◌, length, sym, ap, ◌∙◌}
use Rattle.hx_worlds.specs.World.{controller_of}
use Rattle.hx_worlds.specs.Turns.{is_passed_over}
use Rattle.hx_scene.specs.Scenes.{world_of}
use Rattle.hx_sim.proofs.Stages.{passed_over_at, not_passed_over_at}
use Rattle.hx_sim.proofs.world.World.is_passed_over.Goals as goal

pub returns-in-Ideals : goal.returns-in-Ideals
returns-in-Ideals g c =
    let x = c.controller-turn.result.now in
    ap (λ n. n == 0) c.shown.ensures
    ∙ sym (passed_over_at x x.turn.left (length x.turn.view.live) (sym c.stage.ensures ∙ c.in-Ideals.is))
    ∙ ap is_passed_over (c.controller-turn.ensures ∙ ap (λ s. controller_of (world_of s) c.args.controller) c.self.view_is)

pub returns-in_default : goal.returns-in_default
returns-in_default g c =
    let x = c.controller-turn.result.now in
    sym (not_passed_over_at x x.turn.left (length x.turn.view.live) (λ e. c.in_default.not-Ideals (c.stage.ensures ∙ e)))
    ∙ ap is_passed_over (c.controller-turn.ensures ∙ ap (λ s. controller_of (world_of s) c.args.controller) c.self.view_is)
