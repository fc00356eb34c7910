-- How a participant's fields stand for a plain participant. No public clause cites this module.
use Rattle.std.specs.Prelude.{◌≡◌, ◌≢◌, ℕ, ◌+◌, Bool, true, false, List, [], ◌∷◌, map, Option, None, Some, is_some, find}
use Rattle.std.specs.Option.{option_map}
use Rattle.std.specs.List.{All, sum_by, list_any}
use Rattle.hx_ids.specs.declared.PartId.{PartId}
use Rattle.hx_ids.specs.declared.StateId.{StateId}
use Rattle.hx_ids.specs.declared.MsgId.{MsgId}
use Rattle.hx_model.specs.Model.{dropped}
use Rattle.hx_cluster.specs.declared.state.Message.{Message}
use Rattle.hx_links.specs.declared.Node.{Node}
use Rattle.hx_cluster.specs.declared.description.Failure.{Failure}
use Rattle.hx_cluster.specs.Ends.{part_eq}
use Rattle.hx_handler.specs.declared.Handler as handler
use Rattle.hx_replicas.specs.declared.slots.Work.{Work}
use Rattle.hx_replicas.specs.declared.slots.Work.TheVariants.{Idle, Accepted, Out}
use Rattle.hx_replicas.specs.declared.slots.Slot.{Slot}
use Rattle.hx_replicas.specs.Participants.{Slot as PlainSlot, Participant, IsSound, is_out, has_accepted}
use Rattle.hx_replicas.specs.Ledger.{in_place, lent}
use Rattle.hx_replicas.specs.Jobs.{StandsEmpty}

abbrev pub plain_slot : {H : Type 0} → handler.Ghosts H → Slot H → PlainSlot
plain_slot k x = record { part = x.part; state = x.state; last = x.last; initial = x.initial; work = x.work; handler = option_map (λ h. k.runs h) x.handler }

-- how many handlers a slot answers for
abbrev pub count_of : {H : Type 0} → Slot H → ℕ
count_of x = in_place x.handler + lent x.work

-- a handler that stands in a slot is of its part, was made with its initial state, is at its state, and tells the factory's list
pub record StandsIn {H : Type 0} (k : handler.Ghosts H) (told : Option (List Failure)) (x_part : PartId) (x_state : StateId) (x_initial : Option StateId) (h : H) : Type 0 where
  pub of_part : k.part h ≡ x_part
  pub of_initial : Some (k.initial h) ≡ x_initial
  pub is_at : k.at h ≡ x_state
  pub of_list : k.listed h ≡ told
  pub not_dropped : x_state ≢ dropped

abbrev pub Stands : {H : Type 0} → handler.Ghosts H → Option (List Failure) → PartId → StateId → Option StateId → ℕ → Option H → Type 0
Stands k told part state initial out None = out ≡ 0 → StandsEmpty state initial
Stands k told part state initial out (Some h) = StandsIn k told part state initial h × (out ≡ 0)

-- a slot's message is of its part, from its state, with its initial state
pub record OfSlot (m : Message) (part : PartId) (state : StateId) (initial : Option StateId) : Type 0 where
  pub sound : IsSound m
  pub of_part : m.part ≡ part
  pub is_from : m.from ≡ state
  pub not_dropped : m.from ≢ dropped
  pub of_initial : Some m.initial ≡ initial

abbrev pub FitsWork : Work → PartId → StateId → Option StateId → Type 0
FitsWork Idle part state initial = Unit {0}
FitsWork (Accepted m) part state initial = OfSlot m part state initial
FitsWork (Out m is_held) part state initial = OfSlot m part state initial

pub record IsSlot {H : Type 0} (k : handler.Ghosts H) (told : Option (List Failure)) (x : Slot H) : Type 0 where
  pub handler : Stands k told x.part x.state x.initial (lent x.work) x.handler
  pub work : FitsWork x.work x.part x.state x.initial
  pub out : is_out x.work ≡ true → x.handler ≡ None

abbrev pub AreDistinct : List PartId → Type 0
AreDistinct [] = Unit {0}
AreDistinct (p ∷ ps) = (list_any (part_eq p) ps ≡ false) × AreDistinct ps

pub record IsLaidOut {H : Type 0} (k : handler.Ghosts H) (told : Option (List Failure)) (slots : List (Slot H)) (made retired : ℕ) : Type 0 where
  pub distinct : AreDistinct (map (λ x. x.part) slots)
  pub fits : All (IsSlot k told) slots
  pub balanced : made ≡ retired + sum_by count_of slots

-- which slots are looked for
abbrev pub has_part : {H : Type 0} → PartId → Slot H → Bool
has_part p x = part_eq x.part p

abbrev pub has_number : {H : Type 0} → MsgId → Slot H → Bool
has_number id x = has_accepted id x.work

-- a part that no slot is of
abbrev pub IsUnused : PartId → Participant → Type 0
IsUnused p w = find (λ x. part_eq x.part p) w.slots ≡ None

-- a slot whose job isn't out, and one without a handler
abbrev pub IsQuiet : {H : Type 0} → Slot H → Type 0
IsQuiet x = is_out x.work ≡ false

abbrev pub IsBare : {H : Type 0} → Slot H → Type 0
IsBare x = x.handler ≡ None

-- what becomes of a slot: it gets a handler, accepts a message, sends it out, gets its handler back, or is emptied
abbrev pub filled : {H : Type 0} → Slot H → Option H → Slot H
filled x h = record { part = x.part; state = x.state; last = x.last; initial = x.initial; work = x.work; node = x.node; handler = h }

abbrev pub taken : {H : Type 0} → Message → Node → Slot H → Slot H
taken m n x = record { part = x.part; state = m.from; last = m.id; initial = Some m.initial; work = Accepted m; node = n; handler = x.handler }

abbrev pub fresh : {H : Type 0} → Message → Node → Slot H
fresh m n = record { part = m.part; state = m.from; last = m.id; initial = Some m.initial; work = Accepted m; node = n; handler = None }

abbrev pub sent_out : {H : Type 0} → Slot H → Message → Slot H
sent_out x m = record { part = x.part; state = x.state; last = x.last; initial = x.initial; work = Out m (is_some x.handler); node = x.node; handler = None }

abbrev pub restored : {H : Type 0} → Slot H → StateId → Option H → Slot H
restored x t h = record { part = x.part; state = t; last = x.last; initial = x.initial; work = Idle; node = x.node; handler = h }

abbrev pub wiped : {H : Type 0} → Slot H → Slot H
wiped x = record { part = x.part; state = dropped; last = record { 0 = 0 }; initial = None; work = Idle; node = x.node; handler = None }
