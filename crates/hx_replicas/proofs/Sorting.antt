-- The accepted messages, put in order.
use Rattle.std.proofs.Common.{◌≡◌, ℕ, List, [], ◌∷◌, suc, map, arith, refl, sym, ap, subst, ◌∙◌, Option, None, Bool, true, false}
use Rattle.std.specs.List.{filter_map, list_any, All}
use Rattle.std.proofs.lemmas.Grind.{common_steps}
use Rattle.hx_lists.specs.Lists.{sort_by, insert_by}
use Rattle.hx_ids.specs.declared.PartId.{PartId}
use Rattle.hx_cluster.specs.Ends.{part_eq}
use Rattle.hx_cluster.specs.declared.state.Message.{Message}
use Rattle.hx_cluster.specs.declared.description.Failure.{Failure}
use Rattle.hx_handler.specs.declared.Handler as handler
use Rattle.hx_replicas.specs.declared.slots.Work.{Work}
use Rattle.hx_replicas.specs.declared.slots.Work.TheVariants.{Idle, Accepted, Out}
use Rattle.hx_replicas.specs.declared.slots.Slot.{Slot}
use Rattle.hx_replicas.specs.Participants.{Participant, Slot as PlainSlot, slot_in, slot_of, accepted_of, accepted_all, number_before}
use Rattle.hx_replicas.specs.Layout.{plain_slot, IsSlot, IsLaidOut, AreDistinct}
use Rattle.hx_replicas.specs.Batches.{AreApart, AreSpread, AreAccepted}
use Rattle.hx_replicas.proofs.Parts.{part_eq-same}
use Rattle.hx_replicas.proofs.Putting.{find-step}
use Rattle.hx_replicas.proofs.Handing.{of-slot}
use Rattle.hx_replicas.proofs.Together.{part_eq-flip, AreAccepted-same}

-- they are those of the plain slots
pub accepted-plain : {H : Type 0} (k : handler.Ghosts H) (xs : List (Slot H)) → filter_map (λ y. accepted_of y.work) (map (plain_slot k) xs) ≡ filter_map (λ y. accepted_of y.work) xs
accepted-plain k [] = refl
accepted-plain k (x ∷ xs) = one x.work refl (accepted-plain k xs)
  where
    one : (w : Work) → x.work ≡ w → filter_map (λ y. accepted_of y.work) (map (plain_slot k) xs) ≡ filter_map (λ y. accepted_of y.work) xs → filter_map (λ y. accepted_of y.work) (map (plain_slot k) (x ∷ xs)) ≡ filter_map (λ y. accepted_of y.work) (x ∷ xs)
    one Idle e later = rw e later
    one (Accepted m) e later = rw e (ap (λ ms. m ∷ ms) later)
    one (Out m b) e later = rw e later

-- a message is put before another one, or behind it
insert-step : (P : List Message → Type 0) (m y : Message) (ys : List Message) → P (y ∷ insert_by number_before m ys) → P (m ∷ y ∷ ys) → P (insert_by number_before m (y ∷ ys))
insert-step P m y ys later here = one (number_before y m) refl
  where
    one : (b : Bool) → number_before y m ≡ b → P (insert_by number_before m (y ∷ ys))
    one true e = rw e later
    one false e = rw e here

-- messages stay apart, and accepted, when they are put in order
apart-insert : (p : PartId) (m : Message) (ms : List Message) → part_eq m.part p ≡ false → AreApart p ms → AreApart p (insert_by number_before m ms)
apart-insert p m [] other apart = (other, tt)
apart-insert p m (y ∷ ys) other apart = insert-step (λ ns. AreApart p ns) m y ys (apart.0, apart-insert p m ys other apart.1) (other, apart)

apart-sort : (p : PartId) (ms : List Message) → AreApart p ms → AreApart p (sort_by number_before ms)
apart-sort p [] apart = tt
apart-sort p (m ∷ ms) apart = apart-insert p m (sort_by number_before ms) apart.0 (apart-sort p ms apart.1)

spread-insert : (m : Message) (ms : List Message) → AreApart m.part ms → AreSpread ms → AreSpread (insert_by number_before m ms)
spread-insert m [] apart spread = (tt, tt)
spread-insert m (y ∷ ys) apart spread =
    insert-step (λ ns. AreSpread ns) m y ys
    (apart-insert y.part m ys (part_eq-flip y.part m.part apart.0) spread.0, spread-insert m ys apart.1 spread.1)
    (apart, spread)

spread-sort : (ms : List Message) → AreSpread ms → AreSpread (sort_by number_before ms)
spread-sort [] spread = tt
spread-sort (m ∷ ms) spread = spread-insert m (sort_by number_before ms) (apart-sort m.part ms spread.0) (spread-sort ms spread.1)

accepted-insert : (w : Participant) (m : Message) (ms : List Message) → (slot_of w m.part).work ≡ Accepted m → AreAccepted w ms → AreAccepted w (insert_by number_before m ms)
accepted-insert w m [] is all = (is, tt)
accepted-insert w m (y ∷ ys) is all = insert-step (λ ns. AreAccepted w ns) m y ys (all.0, accepted-insert w m ys is all.1) (is, all)

accepted-sort : (w : Participant) (ms : List Message) → AreAccepted w ms → AreAccepted w (sort_by number_before ms)
accepted-sort w [] all = tt
accepted-sort w (m ∷ ms) all = accepted-insert w m (sort_by number_before ms) all.0 (accepted-sort w ms all.1)

module _ {H : Type 0} (k : handler.Ghosts H) (told : Option (List Failure)) where
  own-part : (x : Slot H) (m : Message) → IsSlot k told x → x.work ≡ Accepted m → m.part ≡ x.part
  own-part x m fit is = (of-slot k told x m fit is).of_part

  rest-fits : (x : Slot H) (xs : List (Slot H)) → All (IsSlot k told) (x ∷ xs) → All (IsSlot k told) xs
  rest-fits x xs fits j d lt = fits (suc j) d (omega arith)

  apart-accepted : (p : PartId) (xs : List (Slot H)) → list_any (part_eq p) (map (λ x. x.part) xs) ≡ false → All (IsSlot k told) xs → AreApart p (filter_map (λ y. accepted_of y.work) xs)
  apart-accepted p [] none fits = tt
  apart-accepted p (x ∷ xs) none fits =
      one x.work refl (fits 0 x (omega arith)) (grind (arith, common_steps)) (apart-accepted p xs (grind (arith, common_steps)) (rest-fits x xs fits))
    where
      one : (w : Work) → x.work ≡ w → IsSlot k told x → part_eq p x.part ≡ false → AreApart p (filter_map (λ y. accepted_of y.work) xs) → AreApart p (filter_map (λ y. accepted_of y.work) (x ∷ xs))
      one Idle e fit other later = rw e later
      one (Accepted m) e fit other later =
          let mine : part_eq m.part p ≡ false = part_eq-flip p m.part (rw (own-part x m fit e) other) in
          rw e (mine, later)
      one (Out m b) e fit other later = rw e later

  spread-accepted : (xs : List (Slot H)) → AreDistinct (map (λ x. x.part) xs) → All (IsSlot k told) xs → AreSpread (filter_map (λ y. accepted_of y.work) xs)
  spread-accepted [] distinct fits = tt
  spread-accepted (x ∷ xs) distinct fits =
      one x.work refl (fits 0 x (omega arith)) (apart-accepted x.part xs distinct.0 (rest-fits x xs fits)) (spread-accepted xs distinct.1 (rest-fits x xs fits))
    where
      one : (w : Work) → x.work ≡ w → IsSlot k told x → AreApart x.part (filter_map (λ y. accepted_of y.work) xs) → AreSpread (filter_map (λ y. accepted_of y.work) xs) → AreSpread (filter_map (λ y. accepted_of y.work) (x ∷ xs))
      one Idle e fit apart later = rw e later
      one (Accepted m) e fit apart later = rw e (rw (own-part x m fit e) apart, later)
      one (Out m b) e fit apart later = rw e later

  behind : List (Slot H) → Participant
  behind xs = record { session = None; slots = map (plain_slot k) xs; tried = [] }

  lift-accepted : (x : Slot H) (xs : List (Slot H)) (ms : List Message) → AreApart x.part ms → AreAccepted (behind xs) ms → AreAccepted (behind (x ∷ xs)) ms
  unfolding behind
  lift-accepted x xs [] apart all = tt
  lift-accepted x xs (m ∷ ms) apart all = (
    ap (λ (y : PlainSlot). y.work) (find-step (plain_slot k x) (map (plain_slot k) xs) m.part false (part_eq-flip m.part x.part apart.0)) ∙ all.0,
    lift-accepted x xs ms apart.1 all.1,
  )

  first-accepted : (x : Slot H) (xs : List (Slot H)) (m : Message) → x.work ≡ Accepted m → filter_map (λ y. accepted_of y.work) (x ∷ xs) ≡ m ∷ filter_map (λ y. accepted_of y.work) xs
  first-accepted x xs m e = rw e refl

  first-idle : (x : Slot H) (xs : List (Slot H)) → accepted_of x.work ≡ None → filter_map (λ y. accepted_of y.work) (x ∷ xs) ≡ filter_map (λ y. accepted_of y.work) xs
  first-idle x xs e = rw e refl

  all-accepted : (xs : List (Slot H)) → AreDistinct (map (λ x. x.part) xs) → All (IsSlot k told) xs → AreAccepted (behind xs) (filter_map (λ y. accepted_of y.work) xs)
  unfolding behind
  all-accepted [] distinct fits = tt
  all-accepted (x ∷ xs) distinct fits =
      one x.work refl (fits 0 x (omega arith))
      (lift-accepted x xs (filter_map (λ y. accepted_of y.work) xs) (apart-accepted x.part xs distinct.0 (rest-fits x xs fits)) (all-accepted xs distinct.1 (rest-fits x xs fits)))
    where
      one : (w : Work) → x.work ≡ w → IsSlot k told x → AreAccepted (behind (x ∷ xs)) (filter_map (λ y. accepted_of y.work) xs) → AreAccepted (behind (x ∷ xs)) (filter_map (λ y. accepted_of y.work) (x ∷ xs))
      one Idle e fit later = subst (λ (ns : List Message). AreAccepted (behind (x ∷ xs)) ns) (sym (first-idle x xs (ap accepted_of e))) later
      one (Accepted m) e fit later =
          let here : slot_in (map (plain_slot k) (x ∷ xs)) m.part ≡ plain_slot k x = find-step (plain_slot k x) (map (plain_slot k) xs) m.part true (part_eq-same x.part m.part (sym (own-part x m fit e))) in
          let stands : (slot_of (behind (x ∷ xs)) m.part).work ≡ Accepted m = ap (λ (y : PlainSlot). y.work) here ∙ e in
          subst (λ (ns : List Message). AreAccepted (behind (x ∷ xs)) ns) (sym (first-accepted x xs m e)) (stands, later)
      one (Out m b) e fit later = subst (λ (ns : List Message). AreAccepted (behind (x ∷ xs)) ns) (sym (first-idle x xs (ap accepted_of e))) later

  -- the messages in order are of parts of their own, and accepted
  spread-all : (xs : List (Slot H)) → AreDistinct (map (λ x. x.part) xs) → All (IsSlot k told) xs → AreSpread (sort_by number_before (filter_map (λ y. accepted_of y.work) xs))
  spread-all xs distinct fits = spread-sort (filter_map (λ y. accepted_of y.work) xs) (spread-accepted xs distinct fits)

  accepted-sorted : (w : Participant) (xs : List (Slot H)) → w.slots ≡ map (plain_slot k) xs → AreDistinct (map (λ x. x.part) xs) → All (IsSlot k told) xs → AreAccepted w (sort_by number_before (filter_map (λ y. accepted_of y.work) xs))
  unfolding behind
  accepted-sorted w xs is distinct fits =
      AreAccepted-same (behind xs) w (sort_by number_before (filter_map (λ y. accepted_of y.work) xs)) (λ p. ap (λ ss. (slot_in ss p).work) is)
      (accepted-sort (behind xs) (filter_map (λ y. accepted_of y.work) xs) (all-accepted xs distinct fits))

-- the accepted messages, by number
pub record AreSorted (w : Participant) (ms : List Message) : Type 0 where
  pub all : accepted_all w ≡ ms
  pub spread : AreSpread ms
  pub accepted : AreAccepted w ms

pub sorted-all : {H : Type 0} {k : handler.Ghosts H} {told : Option (List Failure)} {xs : List (Slot H)} {made retired : ℕ} → IsLaidOut k told xs made retired → (w : Participant) (ms : List Message) → w.slots ≡ map (plain_slot k) xs → ms ≡ accepted_all w → AreSorted w ms
sorted-all {k = k} {told = told} {xs = xs} laid w ms is all =
    let sorted : ms ≡ sort_by number_before (filter_map (λ y. accepted_of y.work) xs) = all ∙ rw (is, accepted-plain k xs) refl in
    record {
      all = sym all;
      spread = rw sorted (spread-all k told xs laid.distinct laid.fits);
      accepted = rw sorted (accepted-sorted k told w xs is laid.distinct laid.fits);
    }
