use Rattle.std.proofs.Common.{◌≡◌, ap, ◌∙◌, length, List}
use Rattle.hx_ids.specs.declared.InstanceId.{InstanceId}
use Rattle.hx_ids.specs.declared.SessionId.{SessionId}
use Rattle.hx_cluster.specs.declared.description.Spec.{Spec}
use Rattle.hx_board.specs.Board.{Held}
use Rattle.hx_cluster.specs.Ends.{shown_of}
use Rattle.hx_worlds.specs.Settles.{all_parts, most_states}
use Rattle.hx_sim.proofs.Enough.{enough}
use Rattle.hx_sim.proofs.world.World.enough_rounds.Goals as goal

pub returns : goal.returns
returns g c =
    let b : c.board-board.result.now ≡ c.self.inside.scene.board = c.board-board.ensures.board in
    rw (← c.self.view_is)
    (enough c.self.inside.scene c.board-board.ensures.scene (length c.as_slice.result.now) c.in-Some.parts c.most_states-states.result c.in-Some-rounds_for.rounds
    (ap (λ (xs : List (SessionId × InstanceId)). length xs) (c.as_slice.ensures.value ∙ c.in_ok-shown.ensures ∙ ap (λ (h : Held). shown_of h.cluster.live) b))
    (c.in-Some.ensures ∙ ap all_parts (c.resources.ensures ∙ ap (λ (h : Held). h.cluster.resources) b))
    (c.most_states-states.ensures ∙ ap most_states (c.as_slice-2.ensures ∙ ap (λ (x : Spec). x.models) c.spec.ensures))
    c.in-Some-rounds_for.ensures)
