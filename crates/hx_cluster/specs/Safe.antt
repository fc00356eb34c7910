-- What holds of every cluster that can be reached.
use Rattle.std.specs.Prelude.{◌≡◌, ℕ, ◌≤◌, Bool, true, not, ◌==◌, ◌&&◌, ◌||◌, List, [], ◌∷◌, Option, None, Some, slice_get, nat_lt, nat_le, if◌then◌else◌}
use Rattle.std.specs.List.{list_all}
use Rattle.hx_lists.specs.Lists.{count}
use Rattle.hx_ids.specs.declared.StateId.{StateId}
use Rattle.hx_ids.specs.declared.SessionId.{SessionId}
use Rattle.hx_ids.specs.declared.InstanceId.{InstanceId}
use Rattle.hx_ids.specs.declared.MsgId.{MsgId}
use Rattle.hx_ids.specs.declared.ControllerId.{ControllerId}
use Rattle.hx_ids.specs.declared.PartId.{PartId}
use Rattle.hx_ids.specs.declared.Live.{Live}
use Rattle.hx_model.specs.Model.{is_legal, has_state, error, dropped}
use Rattle.hx_cluster.specs.declared.description.Rule.{Rule}
use Rattle.hx_cluster.specs.declared.state.Row.{Row}
use Rattle.hx_cluster.specs.declared.state.Message.{Message}
use Rattle.hx_cluster.specs.declared.state.Cluster.{Cluster}
use Rattle.hx_cluster.specs.declared.happenings.Event.{Event}
use Rattle.hx_cluster.specs.Ends.{is_row, is_message, is_session, is_live, state_of, model_of, count_of, limit_at, load_of}
use Rattle.hx_cluster.specs.Steps.{is_of, is_down, is_error}
use Rattle.hx_cluster.specs.Messages.{standing_of}
use Rattle.hx_cluster.specs.Events.{has_part, next}

-- no part has more replicas with a state among their ends than are allowed, for each state for which a number is given
abbrev pub IsBoundedBy : (PartId → StateId → Option ℕ) → Cluster → Type 0
IsBoundedBy allowed c = (p : PartId) (t : StateId) (most : ℕ) → allowed p t ≡ Some most → count_of c p t ≤ most

-- no throttle is passed
abbrev pub IsThrottled : Cluster → Type 0
IsThrottled c = (n : ℕ) (r : Rule) (key : ℕ) → slice_get c.rules n ≡ Some r → load_of c r key ≤ r.limit

-- where a message's replica stands: at from until the write, then at to or in ERROR, or nowhere where to is DROPPED
abbrev pub is_row_written : Message → Option StateId → Bool
is_row_written m None = m.to.0 == dropped.0
is_row_written m (Some t) = (t.0 == m.to.0) || (t.0 == error.0)

abbrev pub is_at_its_place : Cluster → Message → Bool
is_at_its_place c m =
    if m.written then is_row_written m (state_of c.rows m.session m.part)
    else (standing_of c m.session m.part).0 == m.from.0

-- a pending message is of a live session, legal, numbered below the next one, written only if taken, and its replica is in its place
abbrev pub is_pending : Cluster → Message → Bool
is_pending c m =
    is_live c.live m.session && has_part c m.part && is_legal (model_of c.models c.resources m.part.resource) m.from m.to
    && nat_lt m.id.0 c.next_msg && (not m.written || m.taken) && is_at_its_place c m

-- each message is so; numbers are distinct, and a session has at most one message of a part
pub record HasMail (c : Cluster) : Type 0 where
  pub pending : list_all (is_pending c) c.mail ≡ true
  pub numbers : (id : MsgId) → count (λ m. m.id.0 == id.0) c.mail ≤ 1
  pub single : (s : SessionId) (p : PartId) → count (is_message s p) c.mail ≤ 1

-- a row is of a live session, its part is there, and its state is one of the part's model or ERROR
abbrev pub is_kept : Cluster → Row → Bool
is_kept c r =
    is_live c.live r.session && has_part c r.part
    && (has_state (model_of c.models c.resources r.part.resource) r.state || (r.state.0 == error.0))

-- each row is so, a session has at most one row of a part, and a reset flag names a row in ERROR
pub record HasRows (c : Cluster) : Type 0 where
  pub kept : list_all (is_kept c) c.rows ≡ true
  pub single : (s : SessionId) (p : PartId) → count (is_row s p) c.rows ≤ 1
  pub flags : list_all (λ f. is_error (state_of c.rows f.0 f.1)) c.resets ≡ true

-- beats don't fall along the list, and none is above the clock
abbrev pub beats_rise : ℕ → List Live → ℕ → Bool
beats_rise low [] clock = nat_le low clock
beats_rise low (l ∷ ls) clock = nat_le low l.beat && beats_rise l.beat ls clock

abbrev pub leader_is_up : Cluster → Option ControllerId → Bool
leader_is_up c None = true
leader_is_up c (Some k) = not (is_down c k)

-- live sessions have distinct numbers, below the next one, and distinct instances; the leader isn't down
pub record HasSessions (c : Cluster) : Type 0 where
  pub numbers : (s : SessionId) → count (is_session s) c.live ≤ 1
  pub below : list_all (λ l. nat_lt l.session.0 c.next_session) c.live ≡ true
  pub instances : (i : InstanceId) → count (is_of i) c.live ≤ 1
  pub beats : beats_rise 0 c.live c.clock ≡ true
  pub leader : leader_is_up c c.leader ≡ true

pub record IsSafeBy (allowed : PartId → StateId → Option ℕ) (c : Cluster) : Type 0 where
  pub bounded : IsBoundedBy allowed c
  pub throttled : IsThrottled c
  pub mail : HasMail c
  pub rows : HasRows c
  pub sessions : HasSessions c

-- what is allowed is the state's limit
abbrev pub IsBounded : Cluster → Type 0
IsBounded c = IsBoundedBy (limit_at c) c

abbrev pub IsSafe : Cluster → Type 0
IsSafe c = IsSafeBy (limit_at c) c

-- it holds before each event and after the last
abbrev pub SafeAlong : Cluster → List Event → Type 0
SafeAlong c [] = IsSafe c
SafeAlong c (e ∷ es) = IsSafe c × SafeAlong (next c e) es
