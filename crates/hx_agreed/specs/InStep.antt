-- Worlds whose participants, open jobs and bag are in step with their cluster. Each line keeps them so, and they agree.
use Rattle.std.specs.Prelude.{◌≡◌, ◌≤◌, ◌<◌, Bool, true, false, ◌==◌, ◌&&◌, List, [], ◌∷◌, map, length, Option, None, Some, is_some, is_none, if◌then◌else◌, nat_lt, nat_le, slice_index_or, ◌⊎◌}
use Rattle.std.specs.List.{list_any}
use Rattle.hx_lists.specs.Lists.{count}
use Rattle.hx_ids.specs.declared.InstanceId.{InstanceId}
use Rattle.hx_ids.specs.declared.StateId.{StateId}
use Rattle.hx_ids.specs.declared.SessionId.{SessionId}
use Rattle.hx_ids.specs.declared.MsgId.{MsgId}
use Rattle.hx_ids.specs.declared.PartId.{PartId}
use Rattle.hx_model.specs.Model.{is_legal, dropped}
use Rattle.hx_cluster.specs.declared.state.Message.{Message}
use Rattle.hx_cluster.specs.declared.state.Cluster.{Cluster}
use Rattle.hx_cluster.specs.Ends.{is_live, state_of, message_of, model_of}
use Rattle.hx_cluster.specs.Steps.{session_of}
use Rattle.hx_cluster.specs.Messages.{initial_of, is_same, state_after}
use Rattle.hx_cluster.specs.Events.{has_part}
use Rattle.hx_replicas.specs.declared.slots.Work.{Work}
use Rattle.hx_replicas.specs.declared.slots.Work.TheVariants.{Idle, Accepted, Out}
use Rattle.hx_replicas.specs.Participants.{Participant, Slot, new_participant, slot_of, is_out, is_session, all_idle}
use Rattle.hx_replicas.specs.Layout.{AreDistinct}
use Rattle.hx_worlds.specs.World.{World, Job}
use Rattle.hx_worlds.specs.Jobs.{is_job}
use Rattle.hx_worlds.specs.Agree.{is_below, is_known_at, StandsAsRow, is_lent_to, IsTakenAs}

-- what holds of each item of a list
abbrev pub Each : {X : Type 0} → (X → Type 0) → List X → Type 0
Each P [] = Unit {0}
Each P (x ∷ xs) = P x × Each P xs

-- the participant of an instance
abbrev pub of_instance : List Participant → InstanceId → Participant
of_instance ws i = slice_index_or ws i.0 new_participant

-- the pending message of a replica, as it now is, is this one but for its marks; and it isn't taken
pub record IsPending (c : Cluster) (m : Message) : Type 0 where
  pub now : Message
  pub found : message_of c.mail m.session m.part ≡ Some now
  pub same : is_same m now ≡ true

pub record IsUntaken (c : Cluster) (m : Message) : Type 0 where
  pub now : Message
  pub found : message_of c.mail m.session m.part ≡ Some now
  pub same : is_same m now ≡ true
  pub untaken : now.taken ≡ false

-- a slot's message is of its part, of the participant's session, from the slot's state, and the last that was accepted
pub record IsOfSlot (mine : Option SessionId) (q : PartId) (x : Slot) (m : Message) : Type 0 where
  pub part : m.part ≡ q
  pub session : mine ≡ Some m.session
  pub last : x.last ≡ m.id
  pub state : x.state ≡ m.from
  pub initial : x.initial ≡ Some m.initial

-- what is accepted or out stands in the bag; what is accepted waits, where its session is live; and what is out has its job
abbrev pub is_lent_as : InstanceId → Message → Bool → Job → Bool
is_lent_as i m is_held j = is_job i m.id j && is_same j.message m && (if is_held then is_some j.handler else is_none j.handler)

pub record IsAcceptedHere (c : Cluster) (bag : List Message) (mine : Option SessionId) (q : PartId) (x : Slot) (m : Message) : Type 0 where
  pub of : IsOfSlot mine q x m
  pub bagged : list_any (is_same m) bag ≡ true
  pub waits : is_live c.live m.session ≡ true → IsUntaken c m

pub record IsOutHere
    (bag : List Message) (jobs : List Job) (i : InstanceId) (mine : Option SessionId) (q : PartId) (x : Slot) (m : Message) (is_held : Bool) : Type 0 where
  pub of : IsOfSlot mine q x m
  pub bagged : list_any (is_same m) bag ≡ true
  pub job : list_any (is_lent_as i m is_held) jobs ≡ true

abbrev pub HasWork : Cluster → List Message → List Job → InstanceId → Option SessionId → PartId → Slot → Work → Type 0
HasWork c bag jobs i mine q x Idle = Unit {0}
HasWork c bag jobs i mine q x (Accepted m) = IsAcceptedHere c bag mine q x m
HasWork c bag jobs i mine q x (Out m is_held) = IsOutHere bag jobs i mine q x m is_held

-- the slot of a part
pub record HasSlot (c : Cluster) (bag : List Message) (jobs : List Job) (i : InstanceId) (mine : Option SessionId) (q : PartId) (x : Slot) : Type 0 where
  pub last : nat_lt x.last.0 c.next_msg ≡ true
  pub used : nat_lt 0 x.last.0 ≡ true → has_part c q ≡ true
  pub initial : (t : StateId) → x.initial ≡ Some t → t ≡ initial_of c q
  pub there : is_some x.initial ≡ true → has_part c q ≡ true
  pub work : HasWork c bag jobs i mine q x x.work

-- where the participant has its instance's live session: replicas stand at their rows, and pending messages are known
pub record IsAlong (c : Cluster) (w : Participant) (s : SessionId) : Type 0 where
  pub rows : (q : PartId) → is_out (slot_of w q).work ≡ false → StandsAsRow c w s q
  pub mail : (q : PartId) (m : Message) → message_of c.mail s q ≡ Some m → is_known_at (slot_of w q) m ≡ true

-- where it hasn't yet, nothing was done in that session
pub record IsUntouched (c : Cluster) (s : SessionId) : Type 0 where
  pub rows : (q : PartId) → state_of c.rows s q ≡ None
  pub mail : (q : PartId) (m : Message) → message_of c.mail s q ≡ Some m → m.taken ≡ false

-- a participant that has no live session may be as another world left it: its slots are idle, and nothing of its session is in the bag.
-- So it accepts nothing until it adopts another session
pub record IsStale (c : Cluster) (bag : List Message) (w : Participant) : Type 0 where
  pub idle : all_idle w ≡ true
  pub dead : (s : SessionId) → w.session ≡ Some s → is_live c.live s ≡ false
  pub apart : Each (λ m. is_session w.session m.session ≡ false) bag

-- the participant of an instance
pub record IsPlaced (c : Cluster) (bag : List Message) (jobs : List Job) (i : InstanceId) (w : Participant) : Type 0 where
  pub distinct : AreDistinct (map (λ x. x.part) w.slots)
  pub below : is_below c.next_session w.session ≡ true
  pub own : (s : SessionId) → w.session ≡ Some s → is_live c.live s ≡ true → session_of c i ≡ Some s
  pub slots : IsStale c bag w ⊎ ((q : PartId) → HasSlot c bag jobs i w.session q (slot_of w q))
  pub along : (s : SessionId) → w.session ≡ Some s → is_live c.live s ≡ true → IsAlong c w s
  pub free : (s : SessionId) → session_of c i ≡ Some s → (w.session ≡ Some s) ⊎ IsUntouched c s

-- where a write leaves a row
abbrev pub row_after : StateId → Option StateId
row_after t = if t.0 == dropped.0 then None else Some t

-- an open job is the only one of its message, which is out with its handler; where its session is live the message is taken
pub record IsTakenBy (c : Cluster) (j : Job) : Type 0 where
  pub now : Message
  pub found : message_of c.mail j.message.session j.message.part ≡ Some now
  pub taken : IsTakenAs c j now
  pub row : j.is_written ≡ true → state_of c.rows j.message.session j.message.part ≡ row_after (state_after j.message j.outcome)

pub record IsHeldJob (c : Cluster) (ws : List Participant) (jobs : List Job) (j : Job) : Type 0 where
  pub only : count (is_job j.instance j.message.id) jobs ≡ 1
  pub out : is_lent_to j (slot_of (of_instance ws j.instance) j.message.part).work ≡ true
  pub taken : is_live c.live j.message.session ≡ true → IsTakenBy c j

-- a message in the bag: pending, where its session is live, or not above what its participant accepted; and the one with its number
pub record IsOldIn (ws : List Participant) (m : Message) : Type 0 where
  pub instance : InstanceId
  pub session : is_session (of_instance ws instance).session m.session ≡ true
  pub last : nat_le m.id.0 (slot_of (of_instance ws instance) m.part).last.0 ≡ true

pub record IsInBag (c : Cluster) (ws : List Participant) (m : Message) : Type 0 where
  pub id : nat_lt m.id.0 c.next_msg ≡ true
  pub session : nat_lt m.session.0 c.next_session ≡ true
  pub part : has_part c m.part ≡ true
  pub legal : is_legal (model_of c.models c.resources m.part.resource) m.from m.to ≡ true
  pub initial : m.initial ≡ initial_of c m.part
  pub pending : is_live c.live m.session ≡ true → IsPending c m ⊎ IsOldIn ws m
  pub same : (s : SessionId) (q : PartId) (n : Message) → message_of c.mail s q ≡ Some n → (n.id.0 == m.id.0) ≡ true → is_same m n ≡ true

abbrev pub has_number : MsgId → Message → Bool
has_number id m = m.id.0 == id.0

-- a pending message as it was sent
pub record IsSent (c : Cluster) (m : Message) : Type 0 where
  pub number : 0 < m.id.0
  pub initial : m.initial ≡ initial_of c m.part

pub record AreInStep (c : Cluster) (ws : List Participant) (jobs : List Job) (bag : List Message) : Type 0 where
  pub each : (i : InstanceId) → IsPlaced c bag jobs i (of_instance ws i)
  pub held : Each (IsHeldJob c ws jobs) jobs
  pub bagged : Each (IsInBag c ws) bag
  pub numbers : (id : MsgId) → count (has_number id) bag ≤ 1
  pub mail : (s : SessionId) (q : PartId) (m : Message) → message_of c.mail s q ≡ Some m → IsSent c m
  pub first : 0 < c.next_msg

-- a world in step has a participant for each instance, and its weight is within its limit
pub record IsInStep (w : World) : Type 0 where
  pub parts : AreInStep w.cluster w.participants w.jobs w.bag
  pub participants : length w.participants ≡ length w.spec.instances
  pub weight : w.weight ≤ w.limit
