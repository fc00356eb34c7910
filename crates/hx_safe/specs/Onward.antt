-- What holds between a cluster and a later one, whatever happened between them.
use Rattle.std.specs.Prelude.{◌≡◌, ◌≤◌, Bool, true, false, ◌==◌, ◌&&◌, List, [], ◌∷◌, nat_lt}
use Rattle.hx_ids.specs.declared.SessionId.{SessionId}
use Rattle.hx_cluster.specs.declared.description.Resource.{Resource}
use Rattle.hx_cluster.specs.declared.state.Cluster.{Cluster}
use Rattle.hx_cluster.specs.Ends.{is_live, shown_of, instance_in}

-- the second list begins with items that are like those of the first
abbrev pub is_front : {X : Type 0} → (X → X → Bool) → List X → List X → Bool
is_front like [] ys = true
is_front like (x ∷ xs) [] = false
is_front like (x ∷ xs) (y ∷ ys) = like x y && is_front like xs ys

-- resources with the same name, model and number of parts, and with the same number of replicas
abbrev pub is_same_kind : Resource → Resource → Bool
is_same_kind x y =
    (x.name == y.name) && (x.model.0 == y.model.0) && (x.ideal.parts == y.ideal.parts)

abbrev pub has_same_replicas : Resource → Resource → Bool
has_same_replicas x y = x.ideal.replicas == y.ideal.replicas

-- models and rules are the same; resources are added at the end alone; epoch and next session don't
-- fall; and a session with an old number that is live was live before, for the same instance
pub record IsOn (c d : Cluster) : Type 0 where
  pub models : d.models ≡ c.models
  pub rules : d.rules ≡ c.rules
  pub resources : is_front is_same_kind c.resources d.resources ≡ true
  pub replicas : is_front has_same_replicas c.resources d.resources ≡ true
  pub epoch : c.epoch.0 ≤ d.epoch.0
  pub next_session : c.next_session ≤ d.next_session
  pub live : (s : SessionId) → nat_lt s.0 c.next_session ≡ true → is_live d.live s ≡ true
      → is_live c.live s ≡ true
  pub instances : (s : SessionId) → nat_lt s.0 c.next_session ≡ true → is_live d.live s ≡ true
      → instance_in (shown_of d.live) s ≡ instance_in (shown_of c.live) s
