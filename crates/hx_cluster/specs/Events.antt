-- Events: which may happen, and what they make of a cluster.
use Rattle.std.specs.Prelude.{◌≡◌, ℕ, ◌+◌, Bool, true, ◌==◌, ◌&&◌, List, [], ◌∷◌, length, Option, None, Some, is_none, nat_lt}
use Rattle.std.specs.List.{list_all}
use Rattle.hx_ids.specs.declared.StateId.{StateId}
use Rattle.hx_ids.specs.declared.ControllerId.{ControllerId}
use Rattle.hx_ids.specs.declared.PassNo.{PassNo}
use Rattle.hx_ids.specs.declared.Epoch.{Epoch}
use Rattle.hx_ids.specs.declared.SessionId.{SessionId}
use Rattle.hx_ids.specs.declared.MsgId.{MsgId}
use Rattle.hx_ids.specs.declared.PartId.{PartId}
use Rattle.hx_cluster.specs.declared.state.Cluster.{Cluster}
use Rattle.hx_cluster.specs.declared.happenings.Begun.{Begun}
use Rattle.hx_cluster.specs.declared.happenings.Dispatched.{Dispatched}
use Rattle.hx_cluster.specs.declared.happenings.Proposal.{Proposal}
use Rattle.hx_cluster.specs.declared.happenings.Seen.{Seen}
use Rattle.hx_cluster.specs.declared.happenings.Event.{Event}
use Rattle.hx_cluster.specs.declared.happenings.Event.TheVariants as events
use Rattle.hx_cluster.specs.Ends.{parts_of}
use Rattle.hx_cluster.specs.Steps.{refusal_of, after, did_of, is_in_range, has_instance, has_controller, is_leader, session_of}
use Rattle.hx_cluster.specs.Reads.{pass_of, messages_for}
use Rattle.hx_cluster.specs.Messages.{placed_all, after_dispatch, next_pass, after_take, after_write, after_ack}
use Rattle.hx_cluster.specs.Marks.{take_refusal, write_refusal, ack_refusal}

-- the answer of begin
abbrev pub begun_of : Cluster → ControllerId → Begun
begun_of c k = record { epoch = c.epoch; pass = record { 0 = (pass_of c k).0 + 1 }; change = c.change }

-- the answer of a dispatch
abbrev pub dispatched_of : Cluster → ControllerId → List Proposal → Dispatched
dispatched_of c k qs = record { change = c.change; placed = placed_all (next_pass c k) qs }

-- the cluster after an event. The reads and a fetch change nothing
abbrev pub next : Cluster → Event → Cluster
next c (events.Admin step did) = after c step
next c (events.Line n) = record c { line = Some n }
next c (events.Begin k begun) = next_pass c k
next c (events.Dispatch k epoch pass proposals answer) = after_dispatch c k proposals
next c (events.Post k epoch rows) = record c { posted = rows }
next c (events.Take s id) = after_take c s id
next c (events.Write s id outcome) = after_write c s id outcome
next c (events.Ack s id) = after_ack c s id
next c _ = c

-- a part exists, and a state has a name
abbrev pub has_part : Cluster → PartId → Bool
has_part c p = nat_lt p.index (parts_of c.resources p.resource)

abbrev pub has_state_name : Cluster → StateId → Bool
has_state_name c t = nat_lt t.0 c.states

abbrev pub is_proposable : Cluster → Proposal → Bool
is_proposable c q = has_part c q.part && has_state_name c q.from && has_state_name c q.to

abbrev pub is_postable : Cluster → Seen → Bool
is_postable c r = has_instance c r.instance && has_part c r.part && has_state_name c r.state

-- a line's number is above the last
abbrev pub is_later : Option ℕ → ℕ → Bool
is_later None n = true
is_later (Some last) n = nat_lt last n

-- the numbers that a controller gives are those that stand
abbrev pub is_pass : Cluster → ControllerId → PassNo → Bool
is_pass c k pass = has_controller c k && ((pass_of c k).0 == pass.0)

abbrev pub is_epoch : Cluster → Epoch → Bool
is_epoch c epoch = c.epoch.0 == epoch.0

-- a message is taken, written and acknowledged where nothing refuses it
abbrev pub can_take : Cluster → SessionId → MsgId → Bool
can_take c s id = is_none (take_refusal c s id)

abbrev pub can_write : Cluster → SessionId → MsgId → Bool
can_write c s id = is_none (write_refusal c s id)

abbrev pub can_ack : Cluster → SessionId → MsgId → Bool
can_ack c s id = is_none (ack_refusal c s id)

-- the event may happen, with this answer: its ids are in range, nothing refuses it, and the answer is the one that it gets
abbrev pub IsStep : Cluster → Event → Type 0
IsStep c (events.Admin step did) = (is_in_range c step ≡ true) × (refusal_of c step ≡ None) × (did ≡ did_of c step)
IsStep c (events.Line n) = is_later c.line n ≡ true
IsStep c (events.Begin k begun) = (has_controller c k ≡ true) × (is_leader k c.leader ≡ true) × (begun ≡ begun_of c k)
IsStep c (events.Live k pass) = is_pass c k pass ≡ true
IsStep c (events.Mail k pass s) = is_pass c k pass ≡ true
IsStep c (events.States k pass s) = is_pass c k pass ≡ true
IsStep c (events.Ideals k pass) = is_pass c k pass ≡ true
IsStep c (events.Dispatch k epoch pass proposals answer) =
    (list_all (is_proposable c) proposals ≡ true) × (is_epoch c epoch ≡ true) × (is_pass c k pass ≡ true) × (answer ≡ dispatched_of c k proposals)
IsStep c (events.Post k epoch rows) = (has_controller c k ≡ true) × (list_all (is_postable c) rows ≡ true) × (is_epoch c epoch ≡ true)
IsStep c (events.Fetch i s n) = (has_instance c i ≡ true) × (s ≡ session_of c i) × (n ≡ length (messages_for c s))
IsStep c (events.Take s id) = can_take c s id ≡ true
IsStep c (events.Write s id outcome) = can_write c s id ≡ true
IsStep c (events.Ack s id) = can_ack c s id ≡ true

-- the cluster after all events
abbrev pub replay : Cluster → List Event → Cluster
replay c [] = c
replay c (e ∷ es) = replay (next c e) es

-- each event is a step from the replay of those before it. So line numbers rise
abbrev pub IsLegal : Cluster → List Event → Type 0
IsLegal c [] = Unit {0}
IsLegal c (e ∷ es) = IsStep c e × IsLegal (next c e) es
