-- What is put in a plain list of slots is found there, and the last one put counts.
use Rattle.std.proofs.Common.{◌≡◌, ◌∷◌, [], List, refl, sym, ap, subst, ◌∙◌, Bool, true, false, if◌then◌else◌}
use Rattle.hx_ids.specs.declared.PartId.{PartId}
use Rattle.hx_cluster.specs.Ends.{part_eq}
use Rattle.hx_cluster.specs.declared.state.Message.{Message}
use Rattle.hx_replicas.specs.Participants.{Participant, Slot, slot_in, slot_of, put_slot, made_ready, emptied_for, hand_out}
use Rattle.hx_replicas.proofs.Parts.{part_same, part_eq-same}

-- the slot of a part is of that part
pub part-slot_in : (xs : List Slot) (p : PartId) → (slot_in xs p).part ≡ p
part-slot_in [] p = refl
part-slot_in (x ∷ xs) p = one (part_eq x.part p) refl (part-slot_in xs p)
  where
    one : (b : Bool) → part_eq x.part p ≡ b → (slot_in xs p).part ≡ p → (slot_in (x ∷ xs) p).part ≡ p
    one true e later = rw e (part_same x.part p e)
    one false e later = rw e later

pub put-step : (x : Slot) (xs : List Slot) (y : Slot) (b : Bool) → part_eq x.part y.part ≡ b → put_slot (x ∷ xs) y ≡ (if b then y ∷ xs else x ∷ put_slot xs y)
put-step x xs y b e = rw e refl

pub find-step : (x : Slot) (xs : List Slot) (p : PartId) (b : Bool) → part_eq x.part p ≡ b → slot_in (x ∷ xs) p ≡ (if b then x else slot_in xs p)
find-step x xs p true e = rw e refl
find-step x xs p false e = rw e refl

pub slot_in-put : (xs : List Slot) (y : Slot) (p : PartId) → y.part ≡ p → slot_in (put_slot xs y) p ≡ y
slot_in-put [] y p same = find-step y [] p true (part_eq-same y.part p same)
slot_in-put (x ∷ xs) y p same = one (part_eq x.part y.part) refl (slot_in-put xs y p same)
  where
    one : (b : Bool) → part_eq x.part y.part ≡ b → slot_in (put_slot xs y) p ≡ y → slot_in (put_slot (x ∷ xs) y) p ≡ y
    one true e later = rw (put-step x xs y true e) (find-step y xs p true (part_eq-same y.part p same))
    one false e later =
        let other : part_eq x.part p ≡ false = subst (λ (q : PartId). part_eq x.part q ≡ false) same e in
        rw (put-step x xs y false e) (find-step x (put_slot xs y) p false other ∙ later)

pub put-put : (xs : List Slot) (y z : Slot) → y.part ≡ z.part → put_slot (put_slot xs y) z ≡ put_slot xs z
put-put [] y z same = put-step y [] z true (part_eq-same y.part z.part same)
put-put (x ∷ xs) y z same = one (part_eq x.part y.part) refl (put-put xs y z same)
  where
    one : (b : Bool) → part_eq x.part y.part ≡ b → put_slot (put_slot xs y) z ≡ put_slot xs z → put_slot (put_slot (x ∷ xs) y) z ≡ put_slot (x ∷ xs) z
    one true e later =
        let too : part_eq x.part z.part ≡ true = subst (λ (q : PartId). part_eq x.part q ≡ true) same e in
        rw (put-step x xs y true e) (put-step y xs z true (part_eq-same y.part z.part same) ∙ sym (put-step x xs z true too))
    one false e later =
        let other : part_eq x.part z.part ≡ false = subst (λ (q : PartId). part_eq x.part q ≡ false) same e in
        rw (put-step x xs y false e) (put-step x (put_slot xs y) z false other ∙ ap (λ ys. x ∷ ys) later ∙ sym (put-step x xs z false other))

-- a message that is handed out changes its slot alone
pub slots-hand_out : (w : Participant) (m : Message) (f : Bool) → (hand_out w m f).slots ≡ put_slot w.slots (emptied_for (made_ready (slot_of w m.part) m f) m)
slots-hand_out w m f =
    let x = made_ready (slot_of w m.part) m f in
    let same : x.part ≡ m.part = part-slot_in w.slots m.part in
    rw (slot_in-put w.slots x m.part same) (put-put w.slots x (emptied_for x m) refl)
