-- What is said changes no cluster.
use Rattle.std.proofs.Common.{◌≡◌, ℕ, Bool, true, false, List, [], ◌∷◌, refl}
use Rattle.std.specs.Prelude.{nat_lt, ◌+◌, if◌then◌else◌}
use Rattle.hx_worlds.specs.World.{Answers, State}
use Rattle.hx_worlds.specs.Items.{Says}
use Rattle.hx_worlds.specs.Runs.{GoesOn, Stops, charged, state_of, say}
use Rattle.hx_scene.specs.Scenes.{SceneState, at}
use Rattle.hx_scene.specs.Doing.{Ends}
use Rattle.hx_scene.proofs.Reaching.{kept}

by_room : (full : Bool) (n : ℕ) (text : List ℕ) (x : State)
    → (state_of {A = Unit {0}} (if full then Stops [] x else GoesOn (Says n text ∷ []) (charged n x) tt)).world.cluster ≡ x.world.cluster
by_room true n text x = refl
by_room false n text x = refl

pub said_cluster : {s u : SceneState} {p q : List ℕ} (n : ℕ) (text : State → List ℕ) → Ends (λ x. say n (text x) x) s p tt u q → u.board.cluster ≡ s.board.cluster
said_cluster {s} {u} n text e =
    kept e (λ (x : State). x.world.cluster ≡ s.board.cluster)
    (λ (a : Answers). record { left = by_room (nat_lt s.board.limit ((at s a).world.weight + n)) n (text (at s a)) (at s a) }) []
