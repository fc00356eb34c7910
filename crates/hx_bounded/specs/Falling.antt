-- Clusters in a round, as its messages are taken, written and acknowledged.
use Rattle.std.specs.Prelude.{◌≡◌, ◌<◌, ◌⊎◌, ℕ, Bool, true, false, not, ◌==◌, Some}
use Rattle.std.specs.List.{list_any}
use Rattle.hx_model.specs.Model.{error}
use Rattle.hx_cluster.specs.declared.state.Message.{Message}
use Rattle.hx_cluster.specs.declared.state.Cluster.{Cluster}
use Rattle.hx_cluster.specs.declared.happenings.Outcome.{Outcome}
use Rattle.hx_cluster.specs.declared.happenings.Outcome.TheVariants as outcomes
use Rattle.hx_cluster.specs.Ends.{message_of}
use Rattle.hx_pass.specs.Left.{left_of}
use Rattle.hx_settled.specs.Places.{tries_left, is_spendable}
use Rattle.hx_settled.specs.Ways.{IsOnItsWay}
use Rattle.hx_bounded.specs.Measure.{all_walks}

-- a transition from ERROR doesn't fail
abbrev pub is_honest : Message → Outcome → Bool
is_honest m outcomes.Ok = true
is_honest m outcomes.Failed = not (m.from.0 == error.0)

-- a pending message whose transition isn't written
pub record IsUnwritten (c : Cluster) (m : Message) : Type 0 where
  pub pending : message_of c.mail m.session m.part ≡ Some m
  pub unwritten : m.written ≡ false

-- so many tries are left as at the round's dispatch, and each message is still on its way; fewer
-- transitions are left, or as many, and then a message is to come
abbrev pub is_to_write : Message → Bool
is_to_write m = not m.written

pub record IsOnTheWay (tries left : ℕ) (c : Cluster) : Type 0 where
  pub tries_same : tries_left c ≡ tries
  pub ways : (m : Message) → IsUnwritten c m → IsOnItsWay c m
  pub fewer : (left_of c < left) ⊎ ((left_of c ≡ left) × (list_any is_to_write c.mail ≡ true))

-- a replica leaves ERROR only by a reset that was asked for; and fewer tries are left than at the
-- round's dispatch, or each message is still on its way
pub record IsFalling (walks tries left : ℕ) (c : Cluster) : Type 0 where
  pub size : all_walks c ≡ walks
  pub resets : (m : Message) → IsUnwritten c m → is_spendable c m outcomes.Ok ≡ true
  pub falls : (tries_left c < tries) ⊎ IsOnTheWay tries left c
