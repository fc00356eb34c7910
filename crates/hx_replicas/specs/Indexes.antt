-- How slots are found: by part, by the number of an accepted message, and in order of delivery. No public clause cites this module.
use Rattle.std.specs.Prelude.{◌≡◌, ℕ, zero, suc, ◌+◌, ◌≤◌, ◌<◌, ◌==◌, Bool, false, List, [], ◌∷◌, length, filter, position, slice_get, Option, None, Some, is_some, vec_len, vec_capacity}
use Rattle.std.specs.HashMap.{get, spare}
use Rattle.hx_lists.specs.Lists.{count}
use Rattle.hx_ids.specs.declared.PartId.{PartId}
use Rattle.hx_ids.specs.declared.MsgId.{MsgId}
use Rattle.hx_cluster.specs.declared.state.Message.{Message}
use Rattle.hx_cluster.specs.Ends.{part_eq}
use Rattle.hx_links.specs.declared.Node.{Node}
use Rattle.hx_replicas.specs.declared.queue.Waiting.{Waiting}
use Rattle.hx_replicas.specs.declared.slots.Slot.{Slot}
use Rattle.hx_replicas.specs.declared.indexed.Indexed.{Indexed}
use Rattle.hx_replicas.specs.Participants.{Participant, accepted_of}
use Rattle.hx_replicas.specs.Layout.{has_part, has_number}

-- a list with what stands in a place changed
abbrev pub alter : {X : Type 0} → (X → X) → ℕ → List X → List X
alter f i [] = []
alter f zero (x ∷ xs) = f x ∷ xs
alter f (suc i) (x ∷ xs) = x ∷ alter f i xs

-- the entry of the slot in a place, if it has accepted a message
abbrev pub waits_in : Node → ℕ → Option Message → List (Node × Waiting)
waits_in n place None = []
waits_in n place (Some m) = (n, record { place = place; message = m }) ∷ []

abbrev pub waits_of : {H : Type 0} → ℕ → Option (Slot H) → List (Node × Waiting)
waits_of place None = []
waits_of place (Some x) = waits_in x.node place (accepted_of x.work)

abbrev pub is_of : ℕ → Node × Waiting → Bool
is_of place e = e.1.place == place

abbrev pub is_waiting : {H : Type 0} → Slot H → Bool
is_waiting x = is_some (accepted_of x.work)

abbrev pub number_eq : MsgId → MsgId → Bool
number_eq a b = a.0 == b.0

-- the place of the slot that has accepted a number, if one has
abbrev pub Tells : {H : Type 0} → MsgId → Option ℕ → List (Slot H) → Type 0
Tells {H} id None xs = (j : ℕ) (x : Slot H) → slice_get xs j ≡ Some x → has_number id x ≡ false
Tells {H} id (Some place) xs = (place < length xs) × ((j : ℕ) (x : Slot H) → slice_get xs j ≡ Some x → has_number id x ≡ (place == j))

-- the place of a part's slot
abbrev pub place_of : Participant → PartId → Option ℕ
place_of w p = position (λ x. part_eq x.part p) w.slots

-- the accepted messages are those of the slots
pub record AreWaiting {H : Type 0} (es : List (Node × Waiting)) (xs : List (Slot H)) : Type 0 where
  pub waits : (j : ℕ) → filter (is_of j) es ≡ waits_of j (slice_get xs j)
  pub long : length es ≡ count is_waiting xs

pub record IsIndexed {H : Type 0} (s : Indexed H) : Type 0 where
  pub queue : AreWaiting s.queue.entries s.items.items
  pub places : (p : PartId) → get part_eq s.places p ≡ position (has_part p) s.items.items
  pub numbers : s.repeats ≡ false → (id : MsgId) → Tells id (get number_eq s.numbers id) s.items.items

-- so many more messages need no memory
pub record HasRoom {H : Type 0} (n : ℕ) (s : Indexed H) : Type 0 where
  pub items : vec_len s.items + n ≤ vec_capacity s.items
  pub queue : n ≤ s.queue.spare
  pub places : n ≤ spare s.places
  pub numbers : n ≤ spare s.numbers
