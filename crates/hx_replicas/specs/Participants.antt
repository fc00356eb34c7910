-- A plain participant: its session, for each part what its replica is and does, and the makings of handlers that were tried.
use Rattle.std.specs.Prelude.{◌≡◌, ◌≢◌, ℕ, Bool, true, false, not, ◌==◌, ◌&&◌, List, [], ◌∷◌, map, find, filter, Option, None, Some, if◌then◌else◌, is_none, is_some, unwrap_or, nat_le, nat_lt}
use Rattle.std.specs.List.{list_any, list_all, filter_map}
use Rattle.hx_lists.specs.Lists.{sort_by, count}
use Rattle.hx_ids.specs.declared.StateId.{StateId}
use Rattle.hx_ids.specs.declared.SessionId.{SessionId}
use Rattle.hx_ids.specs.declared.InstanceId.{InstanceId}
use Rattle.hx_ids.specs.declared.MsgId.{MsgId}
use Rattle.hx_ids.specs.declared.PartId.{PartId}
use Rattle.hx_model.specs.Model.{error, dropped}
use Rattle.hx_cluster.specs.declared.state.Message.{Message}
use Rattle.hx_cluster.specs.declared.description.Failure.{Failure}
use Rattle.hx_cluster.specs.declared.happenings.Outcome.{Outcome}
use Rattle.hx_cluster.specs.Ends.{part_eq}
use Rattle.hx_cluster.specs.Messages.{state_after}
use Rattle.hx_handler.specs.Makings.{tried_up}
use Rattle.hx_replicas.specs.declared.DeliverFault.{DeliverFault}
use Rattle.hx_replicas.specs.declared.DeliverFault.TheVariants as faults
use Rattle.hx_replicas.specs.declared.slots.Work.{Work}
use Rattle.hx_replicas.specs.declared.slots.Work.TheVariants.{Idle, Accepted, Out}

-- a part of a participant. `initial` is that of the messages accepted in this session, if any; `handler` counts the runs of the
-- handler that stands in the slot, if any
pub record Slot : Type 0 where
  pub part : PartId
  pub state : StateId
  pub last : MsgId
  pub initial : Option StateId
  pub work : Work
  pub handler : Option ℕ

-- the slots stand in order of first use
pub record Participant : Type 0 where
  pub session : Option SessionId
  pub slots : List Slot
  pub tried : List (PartId × ℕ)

-- no session, and nothing used
abbrev pub new_participant : Participant
new_participant = record { session = None; slots = []; tried = [] }

abbrev pub new_slot : PartId → Slot
new_slot p = record { part = p; state = dropped; last = record { 0 = 0 }; initial = None; work = Idle; handler = None }

-- the slot of a part
abbrev pub slot_in : List Slot → PartId → Slot
slot_in xs p = unwrap_or (find (λ x. part_eq x.part p) xs) (new_slot p)

abbrev pub slot_of : Participant → PartId → Slot
slot_of w p = slot_in w.slots p

-- the slots with one of them put
abbrev pub put_slot : List Slot → Slot → List Slot
put_slot [] x = x ∷ []
put_slot (y ∷ ys) x = if part_eq y.part x.part then x ∷ ys else y ∷ put_slot ys x

abbrev pub with_slot : Participant → Slot → Participant
with_slot w x = record w { slots = put_slot w.slots x }

-- a slot that was not used in this session, or is at DROPPED, counts as at the initial state of the message that comes
abbrev pub state_for : Option StateId → StateId → StateId → StateId
state_for None state initial = initial
state_for (Some i) state initial = if state.0 == dropped.0 then initial else state

abbrev pub counts_as : Slot → StateId → StateId
counts_as x initial = state_for x.initial x.state initial

-- whether a slot has nothing to do, and whether its message is out
abbrev pub is_idle : Work → Bool
is_idle Idle = true
is_idle (Accepted m) = false
is_idle (Out m is_held) = false

abbrev pub is_out : Work → Bool
is_out Idle = false
is_out (Accepted m) = false
is_out (Out m is_held) = true

abbrev pub any_out : Participant → Bool
any_out w = list_any (λ x. is_out x.work) w.slots

abbrev pub all_idle : Participant → Bool
all_idle w = list_all (λ x. is_idle x.work) w.slots

-- how many parts have accepted a message in this session
abbrev pub used_of : Participant → ℕ
used_of w = count (λ x. nat_lt 0 x.last.0) w.slots

-- the refusals of a delivery, in their order
abbrev pub is_session : Option SessionId → SessionId → Bool
is_session None s = false
is_session (Some mine) s = mine.0 == s.0

abbrev pub slot_fault : Work → StateId → MsgId → Option StateId → Message → Option DeliverFault
slot_fault Idle state last initial m =
    if nat_le m.id.0 last.0 then Some (faults.Repeat last)
    else if (state_for initial state m.initial).0 == m.from.0 then None
    else Some (faults.WrongFrom (state_for initial state m.initial))
slot_fault (Accepted n) state last initial m = Some (faults.Running n.id)
slot_fault (Out n is_held) state last initial m = Some (faults.Running n.id)

abbrev pub fault_at : Slot → Message → Option DeliverFault
fault_at x m = slot_fault x.work x.state x.last x.initial m

abbrev pub deliver_fault : Participant → Message → Option DeliverFault
deliver_fault w m = if is_session w.session m.session then fault_at (slot_of w m.part) m else Some (faults.OtherSession w.session)

-- a message makes sense by itself: it leaves ERROR for the initial state alone
pub record IsSound (m : Message) : Type 0 where
  pub to : m.to ≢ error
  pub initial : m.initial ≢ error
  pub not_dropped : m.initial ≢ dropped
  pub leaves : m.from ≡ error → m.to ≡ m.initial

-- it has the initial state of the messages of its part that were accepted before
abbrev pub IsLike : Option StateId → Message → Type 0
IsLike None m = Unit {0}
IsLike (Some i) m = i ≡ m.initial

-- a message fits
pub record Fits (w : Participant) (m : Message) : Type 0 where
  pub sound : IsSound m
  pub like : IsLike (slot_of w m.part).initial m

-- a message is accepted: its number is the last, and the slot is at its from
abbrev pub accepted : Slot → Message → Slot
accepted x m = record { part = x.part; state = m.from; last = m.id; initial = Some m.initial; work = Accepted m; handler = x.handler }

abbrev pub accept : Participant → Message → Participant
accept w m = with_slot w (accepted (slot_of w m.part) m)

-- the accepted messages, by number
abbrev pub accepted_of : Work → Option Message
accepted_of Idle = None
accepted_of (Accepted m) = Some m
accepted_of (Out m is_held) = None

abbrev pub number_before : Message → Message → Bool
number_before a b = nat_lt a.id.0 b.id.0

abbrev pub accepted_all : Participant → List Message
accepted_all w = sort_by number_before (filter_map (λ x. accepted_of x.work) w.slots)

abbrev pub has_accepted : MsgId → Work → Bool
has_accepted id Idle = false
has_accepted id (Accepted m) = m.id.0 == id.0
has_accepted id (Out m is_held) = false

abbrev pub accepted_in : Option Slot → Option Message
accepted_in None = None
accepted_in (Some x) = accepted_of x.work

abbrev pub accepted_by : Participant → MsgId → Option Message
accepted_by w id = accepted_in (find (λ x. has_accepted id x.work) w.slots)

-- whether handing out a message makes a handler: one that leaves ERROR makes none
abbrev pub leaves_error : Message → Bool
leaves_error m = m.from.0 == error.0

abbrev pub makes : Slot → Message → Bool
makes x m = is_none x.handler && not (leaves_error m)

-- a making that is answered counts. Its handler stands in the slot, unless the making failed
abbrev pub made_ready : Slot → Message → Bool → Slot
made_ready x m is_failed =
    record {
      part = x.part;
      state = x.state;
      last = x.last;
      initial = x.initial;
      work = x.work;
      handler = if makes x m then (if is_failed then None else Some 0) else x.handler;
    }

abbrev pub readied : Participant → Message → Bool → Participant
readied w m is_failed =
    record {
      session = w.session;
      slots = put_slot w.slots (made_ready (slot_of w m.part) m is_failed);
      tried = if makes (slot_of w m.part) m then tried_up w.tried m.part else w.tried;
    }

-- a message goes out, with the slot's handler
abbrev pub emptied_for : Slot → Message → Slot
emptied_for x m =
    record { part = x.part; state = x.state; last = x.last; initial = x.initial; work = Out m (is_some x.handler); handler = None }

abbrev pub given : Participant → Message → Participant
given w m = with_slot w (emptied_for (slot_of w m.part) m)

-- a message is handed out: its handler is made, where it has none, and both go out
abbrev pub hand_out : Participant → Message → Bool → Participant
hand_out w m is_failed = given (readied w m is_failed) m

-- all are: first the handlers are made, as far as the makings are answered, and then all go out
abbrev pub readied_all : Participant → List Message → List Bool → Participant
readied_all w [] fs = w
readied_all w (m ∷ ms) [] = w
readied_all w (m ∷ ms) (f ∷ fs) = readied_all (readied w m f) ms fs

abbrev pub given_all : Participant → List Message → Participant
given_all w [] = w
given_all w (m ∷ ms) = given_all (given w m) ms

abbrev pub hand_out_all : Participant → List Message → List Bool → Participant
hand_out_all w ms fs = given_all (readied_all w ms fs) ms

-- where a job leaves its replica: done, by its outcome; or put back, at from
abbrev pub end_of : Message → Option Outcome → StateId
end_of m None = m.from
end_of m (Some o) = state_after m o

-- a slot comes to a state, and gets back the handler, if any, with its runs. A handler at DROPPED is retired
abbrev pub brought : Slot → StateId → Option ℕ → Slot
brought x t runs =
    record {
      part = x.part;
      state = t;
      last = x.last;
      initial = x.initial;
      work = Idle;
      handler = if t.0 == dropped.0 then None else runs;
    }

-- a job ends
abbrev pub finish : Participant → Message → Option Outcome → Option ℕ → Participant
finish w m outcome runs = with_slot w (brought (slot_of w m.part) (end_of m outcome) runs)

-- a session is adopted: all is emptied but the number of makings
abbrev pub emptied : Slot → Slot
emptied x = new_slot x.part

abbrev pub adopt : Participant → Option SessionId → Participant
adopt w session = record { session = session; slots = map emptied w.slots; tried = w.tried }

-- the failures of an instance, which its factory tells
abbrev pub is_on : InstanceId → Failure → Bool
is_on i f = f.instance.0 == i.0

abbrev pub failures_on : InstanceId → List Failure → List Failure
failures_on i failures = filter (is_on i) failures
