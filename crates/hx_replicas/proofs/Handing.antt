-- A message that is handed out: its handler, and that the slots stay laid out.
use Rattle.std.proofs.Common.{◌≡◌, ℕ, ◌+◌, ◌<◌, List, map, length, get_or, set, arith, refl, sym, ap, ◌∙◌, Bool, true, Option, None, Some, is_some, is_none, if◌then◌else◌}
use Rattle.std.specs.List.{position}
use Rattle.std.specs.Option.{option_map, ForSome}
use Rattle.hx_ids.specs.declared.PartId.{PartId}
use Rattle.hx_ids.specs.declared.StateId.{StateId}
use Rattle.hx_ids.specs.declared.MsgId.{MsgId}
use Rattle.hx_cluster.specs.Ends.{part_eq}
use Rattle.hx_cluster.specs.declared.state.Message.{Message}
use Rattle.hx_cluster.specs.declared.description.Failure.{Failure}
use Rattle.hx_handler.specs.declared.Handler as handler
use Rattle.hx_replicas.specs.declared.slots.Work.{Work}
use Rattle.hx_replicas.specs.declared.slots.Work.TheVariants.{Idle, Accepted, Out}
use Rattle.hx_replicas.specs.declared.slots.Slot.{Slot}
use Rattle.hx_replicas.specs.Participants.{Participant, Slot as PlainSlot, has_accepted, slot_in, slot_of, put_slot, made_ready, makes, emptied_for, readied, given}
use Rattle.hx_handler.specs.Makings.{tried_up}
use Rattle.hx_replicas.specs.Ledger.{lent, in_place}
use Rattle.hx_replicas.specs.Jobs.{StandsEmpty, runs_of, seen, seen_in}
use Rattle.hx_replicas.specs.Layout.{plain_slot, IsSlot, Stands, OfSlot, IsLaidOut, AreDistinct, has_number, has_part, filled, sent_out}
use Rattle.std.specs.Prelude.{slice_get}
use Rattle.hx_replicas.specs.Indexes.{alter}
use Rattle.hx_replicas.proofs.Altering.{alter-set, set-alter, only-one, stands-in, stands-some, stands-get, position-alter}
use Rattle.hx_replicas.proofs.Searching.{found-in, found-passes, place-in}
use Rattle.hx_replicas.proofs.Placing.{slot-at, put-at, place-at, place-plain, slot-found, slot-none, part-found}
use Rattle.hx_replicas.proofs.Putting.{slot_in-put}
use Rattle.hx_replicas.proofs.Laying.{IsLaidOut-set}

pub is_some-map : {X Y : Type 0} (f : X → Y) (o : Option X) → is_some (option_map f o) ≡ is_some o
is_some-map f None = refl
is_some-map f (Some x) = refl

pub is_none-map : {X Y : Type 0} (f : X → Y) (o : Option X) → is_none (option_map f o) ≡ is_none o
is_none-map f None = refl
is_none-map f (Some x) = refl

accepted-is : (id : MsgId) (w : Work) → has_accepted id w ≡ true → ((m : Message) → w ≡ Accepted m → ⊥) → ⊥
accepted-is id Idle so not = (cc)
accepted-is id (Accepted m) so not = not m refl
accepted-is id (Out m is_held) so not = (cc)

pub is-accepted : {H : Type 0} (id : MsgId) (xs : List (Slot H)) (i : ℕ) (x : Slot H) → position (has_number id) xs ≡ Some i → x ≡ get_or xs i x → ((m : Message) → x.work ≡ Accepted m → ⊥) → ⊥
is-accepted id xs i x e at_i not = accepted-is id x.work (found-passes (has_number id) xs i x e at_i) not

sent-count : {H : Type 0} (h : Option H) (m : Message) → lent (Out m (is_some h)) ≡ in_place h
sent-count None m = refl
sent-count (Some h) m = refl

pub runs-seen : {H : Type 0} (k : handler.Ghosts H) (h : Option H) → runs_of (seen_in k h) ≡ option_map (λ y. k.runs y) h
runs-seen k None = refl
runs-seen k (Some h) = refl

module _ {H : Type 0} (k : handler.Ghosts H) (told : Option (List Failure)) where
  pub of-slot : (x : Slot H) (m : Message) → IsSlot k told x → x.work ≡ Accepted m → OfSlot m x.part x.state x.initial
  of-slot x m was is = rw is at was.work

  sent-empty : (h : Option H) (p : PartId) (s : StateId) (i : Option StateId) (m : Message) → Stands k told p s i 0 h → lent (Out m (is_some h)) ≡ 0 → StandsEmpty s i
  sent-empty None p s i m was none = was refl
  sent-empty (Some h) p s i m was none = absurd (omega arith)

  IsSlot-sent : (x : Slot H) (m : Message) → IsSlot k told x → x.work ≡ Accepted m → IsSlot k told (sent_out x m)
  IsSlot-sent x m was is =
      let stands : Stands k told x.part x.state x.initial 0 x.handler = rw is at was.handler in
      record { handler = λ none. sent-empty x.handler x.part x.state x.initial m stands none; work = of-slot x m was is; out = λ e. refl }

  listed-in : (h : Option H) (p : PartId) (s : StateId) (i : Option StateId) (out : ℕ) → Stands k told p s i out h → ForSome (seen_in k h) (λ y. y.listed ≡ told)
  listed-in None p s i out was = λ y e. (cc)
  listed-in (Some h) p s i out was = λ y e. let is : y ≡ seen k h = (cc) in rw is was.0.of_list

  -- a slot's handler tells the factory's list
  pub listed-seen : (x : Slot H) → IsSlot k told x → ForSome (seen_in k x.handler) (λ y. y.listed ≡ told)
  listed-seen x was = listed-in x.handler x.part x.state x.initial (lent x.work) was.handler

-- a message that is accepted has a slot
pub accepted-found : {H : Type 0} (k : handler.Ghosts H) (xs : List (Slot H)) (m : Message) → (slot_in (map (plain_slot k) xs) m.part).work ≡ Accepted m → position (has_part m.part) xs ≡ None → ⊥
accepted-found k xs m is none = let e : Idle ≡ Accepted m = rw (slot-none k xs m.part none) at is in (cc)

-- an accepted message's slot, at its place
pub record IsTaken {H : Type 0} (k : handler.Ghosts H) (told : Option (List Failure)) (xs : List (Slot H)) (m : Message) (i : ℕ) (x : Slot H) : Type 0 where
  pub distinct : AreDistinct (map (λ y. y.part) xs)
  pub lt : i < length xs
  pub at_i : x ≡ get_or xs i x
  pub work : x.work ≡ Accepted m
  pub part : m.part ≡ x.part
  pub fit : IsSlot k told x

module _ {H : Type 0} {k : handler.Ghosts H} {told : Option (List Failure)} {xs : List (Slot H)} where
  fit-at : {made retired : ℕ} → IsLaidOut k told xs made retired → (i : ℕ) (x : Slot H) → i < length xs → x ≡ get_or xs i x → IsSlot k told x
  fit-at laid i x lt at_i = let f : IsSlot k told (get_or xs i x) = laid.fits i x lt in rw (← at_i) at f

  pub slot-held : {made retired : ℕ} → IsLaidOut k told xs made retired → (m : Message) (i : ℕ) (x : Slot H) → position (λ s. part_eq s.part m.part) (map (plain_slot k) xs) ≡ Some i → x ≡ get_or xs i x → (slot_in (map (plain_slot k) xs) m.part).work ≡ Accepted m → IsTaken k told xs m i x
  slot-held laid m i x place at_i is =
      let e : position (has_part m.part) xs ≡ Some i = place-plain k xs m.part ∙ place in
      let lt : i < length xs = found-in (has_part m.part) xs i x e in
      record {
        distinct = laid.distinct;
        lt = lt;
        at_i = at_i;
        work = rw (slot-found k xs m.part i x e at_i) at is;
        part = sym (part-found xs m.part i x e at_i);
        fit = fit-at laid i x lt at_i;
      }

  -- the slot in the place that was found
  pub slot-stands : {made retired : ℕ} → IsLaidOut k told xs made retired → (m : Message) (i : ℕ) → position (λ s. part_eq s.part m.part) (map (plain_slot k) xs) ≡ Some i → (slot_in (map (plain_slot k) xs) m.part).work ≡ Accepted m → (x : Slot H) × (slice_get xs i ≡ Some x) × IsTaken k told xs m i x
  slot-stands laid m i place is =
      let stands = stands-some xs i (place-in (has_part m.part) xs i (place-plain k xs m.part ∙ place)) in
      (stands.0, stands.1, slot-held laid m i stands.0 place (stands-get xs i stands.0 stands.1) is)

  -- the slot that was found by a message's number is that of its part
  pub stands-accepted : {made retired : ℕ} → IsLaidOut k told xs made retired → (id : MsgId) (m : Message) (i : ℕ) (x : Slot H) → position (has_number id) xs ≡ Some i → x ≡ get_or xs i x → x.work ≡ Accepted m → (slot_in (map (plain_slot k) xs) m.part).work ≡ Accepted m
  stands-accepted laid id m i x e at_i is =
      let lt : i < length xs = found-in (has_number id) xs i x e in
      let of = of-slot k told x m (fit-at laid i x lt at_i) is in
      rw (slot-at k xs i m.part x laid.distinct lt at_i of.of_part) is

  pub place-accepted : {made retired : ℕ} → IsLaidOut k told xs made retired → (id : MsgId) (m : Message) (i : ℕ) (x : Slot H) → position (has_number id) xs ≡ Some i → x ≡ get_or xs i x → x.work ≡ Accepted m → position (λ s. part_eq s.part m.part) (map (plain_slot k) xs) ≡ Some i
  place-accepted laid id m i x e at_i is =
      let lt : i < length xs = found-in (has_number id) xs i x e in
      let of = of-slot k told x m (fit-at laid i x lt at_i) is in
      sym (place-plain k xs m.part) ∙ place-at xs i m.part x laid.distinct lt at_i of.of_part

module _ {H : Type 0} {k : handler.Ghosts H} {told : Option (List Failure)} {xs : List (Slot H)} {m : Message} {i : ℕ} {x : Slot H} where
  pub slot-taken : IsTaken k told xs m i x → slot_in (map (plain_slot k) xs) m.part ≡ plain_slot k x
  slot-taken t = slot-at k xs i m.part x t.distinct t.lt t.at_i t.part

  -- the slot sends its message out
  pub IsLaidOut-sent : {made retired : ℕ} → IsTaken k told xs m i x → IsLaidOut k told xs made retired → IsLaidOut k told (set xs i (sent_out x m)) made retired
  IsLaidOut-sent t was =
      let quiet : lent x.work ≡ 0 = rw t.work refl in
      IsLaidOut-set xs i (sent_out x m) x t.lt (rw (← t.at_i) refl) (IsSlot-sent k told x m t.fit t.work)
      (rw (← t.at_i) (omega (arith, quiet, sent-count x.handler m))) was

  -- the slot got a handler, or not, and keeps its message
  pub IsLaidOut-ready : {made retired made' : ℕ} → IsTaken k told xs m i x → (y : Slot H) → y ≡ filled x y.handler → IsSlot k told y → made' + in_place x.handler ≡ made + in_place y.handler → IsLaidOut k told xs made retired → IsLaidOut k told (set xs i y) made' retired
  IsLaidOut-ready t y is fits counts was =
      let quiet : lent x.work ≡ 0 = rw t.work refl in
      let still : y.work ≡ Accepted m = ap (λ s. s.work) is ∙ t.work in
      let quiet_too : lent y.work ≡ 0 = rw still refl in
      let same : y.part ≡ x.part = ap (λ s. s.part) is in
      IsLaidOut-set xs i y x t.lt (rw (← t.at_i) same) fits (rw (← t.at_i) (omega (arith, quiet, quiet_too, counts))) was

  pub slot-set : IsTaken k told xs m i x → (y : Slot H) → y ≡ filled x y.handler → slot_in (map (plain_slot k) (set xs i y)) m.part ≡ plain_slot k y
  slot-set t y is =
      let same : y.part ≡ x.part = ap (λ s. s.part) is in
      ap (λ ss. slot_in ss m.part) (sym (put-at k xs i x y t.distinct t.lt t.at_i same)) ∙ slot_in-put (map (plain_slot k) xs) (plain_slot k y) m.part (same ∙ sym t.part)

  -- and keeps its place
  pub place-ready : position (λ s. part_eq s.part m.part) (map (plain_slot k) xs) ≡ Some i → IsTaken k told xs m i x → (y : Slot H) → y ≡ filled x y.handler → position (λ s. part_eq s.part m.part) (map (plain_slot k) (set xs i y)) ≡ Some i
  place-ready place t y is =
      let same : y.part ≡ x.part = ap (λ s. s.part) is in
      let kept : (z : Slot H) → slice_get xs i ≡ Some z → part_eq y.part m.part ≡ part_eq z.part m.part =
      λ z stands. rw (only-one (slice_get xs i) x z (stands-in xs i x t.lt t.at_i) stands, same) refl in
      sym (place-plain k (set xs i y) m.part) ∙ ap (position (has_part m.part)) (set-alter xs i y x t.lt t.at_i)
      ∙ position-alter (has_part m.part) (λ z. y) xs i kept ∙ place-plain k xs m.part ∙ place

  pub IsLaidOut-given : {made retired : ℕ} → IsTaken k told xs m i x → IsLaidOut k told xs made retired → IsLaidOut k told (alter (λ y. sent_out y m) i xs) made retired
  IsLaidOut-given t was = rw (alter-set (λ y. sent_out y m) xs i x t.lt t.at_i) (IsLaidOut-sent t was)

  -- the plain slots after one of them was put
  put-taken : IsTaken k told xs m i x → (w : Participant) (y : Slot H) (s : PlainSlot) → w.slots ≡ map (plain_slot k) xs → y.part ≡ x.part → plain_slot k y ≡ s → map (plain_slot k) (set xs i y) ≡ put_slot w.slots s
  put-taken t w y s is same at =
      sym (put-at k xs i x y t.distinct t.lt t.at_i same) ∙ ap (λ z. put_slot (map (plain_slot k) xs) z) at ∙ ap (λ ss. put_slot ss s) (sym is)

  -- the plain participant after the message's handler was made, and after the message went out
  pub readied-plain : IsTaken k told xs m i x → (w : Participant) (tried : List (PartId × ℕ)) (y : Slot H) (f : Bool) → w.slots ≡ map (plain_slot k) xs → y ≡ filled x y.handler → plain_slot k y ≡ made_ready (plain_slot k x) m f → tried ≡ (if makes (plain_slot k x) m then tried_up w.tried m.part else w.tried) → record { session = w.session; slots = map (plain_slot k) (set xs i y); tried = tried } ≡ readied w m f
  readied-plain t w tried y f is filled_is plain tries =
      let found : slot_of w m.part ≡ plain_slot k x = ap (λ ss. slot_in ss m.part) is ∙ slot-taken t in
      let at : plain_slot k y ≡ made_ready (slot_of w m.part) m f = plain ∙ sym (ap (λ s. made_ready s m f) found) in
      let slots = put-taken t w y (made_ready (slot_of w m.part) m f) is (ap (λ s. s.part) filled_is) at in
      let tries_too : tried ≡ (readied w m f).tried = tries ∙ sym (ap (λ s. if makes s m then tried_up w.tried m.part else w.tried) found) in
      (λ j. record { session = w.session; slots = slots j; tried = tries_too j })

  pub given-plain : IsTaken k told xs m i x → (w : Participant) → w.slots ≡ map (plain_slot k) xs → record { session = w.session; slots = map (plain_slot k) (alter (λ y. sent_out y m) i xs); tried = w.tried } ≡ given w m
  given-plain t w is = rw (alter-set (λ y. sent_out y m) xs i x t.lt t.at_i) (
      let found : slot_of w m.part ≡ plain_slot k x = ap (λ ss. slot_in ss m.part) is ∙ slot-taken t in
      let sent : plain_slot k (sent_out x m) ≡ emptied_for (plain_slot k x) m = rw (is_some-map (λ h. k.runs h) x.handler) refl in
      let slots = put-taken t w (sent_out x m) (emptied_for (slot_of w m.part) m) is refl (sent ∙ sym (ap (λ s. emptied_for s m) found)) in
      (λ j. record { session = w.session; slots = slots j; tried = w.tried }))
