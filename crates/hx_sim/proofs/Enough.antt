-- The number of rounds that are enough, from what a board tells.
use Rattle.std.proofs.Common.{◌≡◌, ℕ, ◌+◌, ◌*◌, length, sym, ap, ◌∙◌}
use Rattle.std.proofs.lemmas.List.{length-map}
use Rattle.hx_cluster.specs.Ends.{shown_of}
use Rattle.hx_worlds.specs.Settles.{all_parts, most_states, enough_rounds}
use Rattle.hx_scene.specs.Scenes.{SceneState}
use Rattle.hx_scene.specs.Kept.{IsScene}
use Rattle.hx_sim.proofs.Standing.{fixed_there}

abbrev rounds_of : ℕ → ℕ → ℕ → ℕ
rounds_of live parts states = (2 * (live * parts) + 2) * (live * parts * (states + 2) + 2)

pub enough : (s : SceneState) → IsScene s → (live parts states rounds : ℕ) → live ≡ length (shown_of s.board.cluster.live) → parts ≡ all_parts s.board.cluster.resources
    → states ≡ most_states s.spec.models → rounds ≡ (2 * (live * parts) + 2) * (live * parts * (states + 2) + 2) → rounds ≡ enough_rounds s.board.cluster
enough s h live parts states rounds lives part state is =
    let c = s.board.cluster in
    let many : live ≡ length c.live = lives ∙ length-map c.live (λ l. (l.session, l.instance)) in
    let models : s.spec.models ≡ c.models = sym (fixed_there s h).models in
    is
    ∙ ap (λ n. rounds_of n parts states) many
    ∙ ap (λ n. rounds_of (length c.live) n states) part
    ∙ ap (λ n. rounds_of (length c.live) (all_parts c.resources) n) (state ∙ ap most_states models)
