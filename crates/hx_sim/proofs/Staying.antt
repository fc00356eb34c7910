-- Controllers that there are, which no operation changes.
use Rattle.std.proofs.Common.{◌≡◌, ℕ, true, List, ap, ◌∙◌}
use Rattle.std.specs.Prelude.{nat_lt, Result}
use Rattle.hx_ids.specs.declared.ControllerId.{ControllerId}
use Rattle.hx_cluster.specs.declared.state.Cluster.{Cluster}
use Rattle.hx_cluster.specs.Steps.{has_controller}
use Rattle.hx_lawful.proofs.Whole.{fixed_along}
use Rattle.hx_board.specs.declared.faults.RoomFault.{RoomFault}
use Rattle.hx_worlds.specs.World.{Missing, State}
use Rattle.hx_worlds.specs.Items.{Item, events_in}
use Rattle.hx_worlds.specs.Runs.{Run}
use Rattle.hx_worlds.specs.Brings.{Brings, past_of}
use Rattle.hx_scene.specs.Scenes.{SceneState, at}
use Rattle.hx_scene.specs.Doing.{Reaches, Does}
use Rattle.hx_scene.proofs.Reaching.{does_bring}

still_there : (s u : SceneState) (k : ControllerId) (items : List Item) → Brings (past_of (at s Missing)) items (past_of (at u Missing)) → has_controller s.board.cluster k ≡ true
    → has_controller u.board.cluster k ≡ true
still_there s u k items b there =
    ap (λ (c : Cluster). has_controller c k) b.cluster
    ∙ ap (λ (n : ℕ). nat_lt k.0 n) (fixed_along s.board.cluster (events_in items)).controllers
    ∙ there

pub still_controller : {A R : Type 0} (f : State → Run A) (answer : R → A) (s : SceneState) (p : List ℕ) (u : SceneState) (q : List ℕ) (result : Result R RoomFault)
    → Does f answer s p u q result → (k : ControllerId) → has_controller s.board.cluster k ≡ true → has_controller u.board.cluster k ≡ true
still_controller f answer s p u q result e k there = let b = does_bring f answer s p u q result e in still_there s u k b.0 b.1 there

pub reached_controller : {A : Type 0} {f g : State → Run A} {s u : SceneState} {p q : List ℕ} → Reaches f s p g u q → (k : ControllerId) → has_controller s.board.cluster k ≡ true
    → has_controller u.board.cluster k ≡ true
reached_controller {A} {f} {g} {s} {u} e k there = still_there s u k e.items (e.brings Missing) there
