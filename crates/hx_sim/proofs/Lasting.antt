-- What no operation on a scene changes: which instances and controllers there are.
use Rattle.std.proofs.Common.{◌≡◌, ℕ, List, true, sym, ap, ◌∙◌, subst}
use Rattle.std.specs.Prelude.{nat_lt}
use Rattle.hx_ids.specs.declared.InstanceId.{InstanceId}
use Rattle.hx_cluster.specs.declared.state.Cluster.{Cluster}
use Rattle.hx_cluster.specs.Steps.{has_instance}
use Rattle.hx_safe.proofs.Fixed.{IsFixed}
use Rattle.hx_lawful.proofs.Whole.{fixed_along}
use Rattle.hx_worlds.specs.World.{Missing, State}
use Rattle.hx_worlds.specs.Items.{events_in}
use Rattle.hx_worlds.specs.Runs.{Run}
use Rattle.hx_scene.specs.Scenes.{SceneState}
use Rattle.hx_scene.specs.Doing.{Reaches}

-- the cluster has what it had
pub fixed_after : {A : Type 0} {f g : State → Run A} {s u : SceneState} {p q : List ℕ} → Reaches f s p g u q → IsFixed s.board.cluster u.board.cluster
fixed_after {A} {f} {g} {s} {u} e =
    subst (λ (c : Cluster). IsFixed s.board.cluster c) (sym (e.brings Missing).cluster) (fixed_along s.board.cluster (events_in e.items))

pub instance_lasts : {A : Type 0} {f g : State → Run A} {s u : SceneState} {p q : List ℕ} → Reaches f s p g u q → (i : InstanceId) → has_instance s.board.cluster i ≡ true
    → has_instance u.board.cluster i ≡ true
instance_lasts {A} {f} {g} {s} {u} e i there = ap (nat_lt i.0) (fixed_after e).instances ∙ there
