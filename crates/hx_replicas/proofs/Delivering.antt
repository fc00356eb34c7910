-- A delivery: what it refuses, and that the slots stay laid out.
use Rattle.std.proofs.Common.{◌≡◌, ◌≢◌, ℕ, ◌<◌, ◌++◌, ◌∷◌, [], List, map, length, get_or, arith, refl, sym, Bool, true, false, Option, None, Some, ◌==◌, ◌∙◌}
use Rattle.std.specs.List.{find, position}
use Rattle.std.proofs.lemmas.Grind.{common_steps}
use Rattle.hx_ids.specs.declared.PartId.{PartId}
use Rattle.hx_ids.specs.declared.StateId.{StateId}
use Rattle.hx_ids.specs.declared.MsgId.{MsgId}
use Rattle.hx_model.specs.Model.{error, dropped}
use Rattle.hx_cluster.specs.declared.state.Message.{Message}
use Rattle.hx_cluster.specs.declared.description.Failure.{Failure}
use Rattle.hx_cluster.specs.Ends.{part_eq}
use Rattle.hx_handler.specs.declared.Handler as handler
use Rattle.hx_replicas.specs.declared.slots.Work.{Work}
use Rattle.hx_replicas.specs.declared.slots.Work.TheVariants.{Idle, Accepted, Out}
use Rattle.hx_replicas.specs.declared.slots.Slot.{Slot}
use Rattle.hx_replicas.specs.Participants.{IsSound, IsLike, slot_fault, state_for, slot_in, put_slot, accepted}
use Rattle.hx_replicas.specs.Ledger.{lent}
use Rattle.hx_replicas.specs.Layout.{plain_slot, IsSlot, Stands, IsLaidOut, AreDistinct, taken, fresh, has_part}
use Rattle.hx_links.specs.declared.Node.{Node}
use Rattle.hx_replicas.specs.Indexes.{alter}
use Rattle.hx_replicas.proofs.Altering.{alter-set}
use Rattle.hx_replicas.proofs.Parts.{state_same, state_other, state_differs}
use Rattle.hx_replicas.proofs.Searching.{found-in}
use Rattle.hx_replicas.proofs.Placing.{slot-found, put-at, part-found, unused-put, unused-any}
use Rattle.hx_replicas.proofs.Laying.{IsLaidOut-set, IsLaidOut-push}

pub idle-from_none : (w : Work) (s : StateId) (l : MsgId) (i : Option StateId) (m : Message) → slot_fault w s l i m ≡ None → w ≡ Idle
idle-from_none Idle s l i m none = refl
idle-from_none (Accepted n) s l i m none = (cc)
idle-from_none (Out n is_held) s l i m none = (cc)

pub counts-from_none : (w : Work) (s : StateId) (l : MsgId) (i : Option StateId) (m : Message) → slot_fault w s l i m ≡ None → state_for i s m.initial ≡ m.from
counts-from_none Idle s l i m none = state_same (state_for i s m.initial) m.from (grind (arith, common_steps))
counts-from_none (Accepted n) s l i m none = (cc)
counts-from_none (Out n is_held) s l i m none = (cc)

-- a slot that was used counts as at its own state, unless that is DROPPED
counts-own : (s i : StateId) (m : Message) → state_for (Some i) s m.initial ≡ m.from → s ≢ dropped → s ≡ m.from
counts-own s i m counts other = rw (state_differs s dropped other) at counts

from-not_dropped : (s : StateId) (i : Option StateId) (m : Message) → state_for i s m.initial ≡ m.from → m.initial ≢ dropped → m.from ≢ dropped
from-not_dropped s None m counts ne = λ e. ne (counts ∙ e)
from-not_dropped s (Some j) m counts ne = one (s.0 == dropped.0) refl
  where
    one : (b : Bool) → (s.0 == dropped.0) ≡ b → m.from ≢ dropped
    one true is = let first : m.initial ≡ m.from = rw is at counts in λ e. ne (first ∙ e)
    one false is = let own : s ≡ m.from = rw is at counts in λ e. state_other s dropped is (own ∙ e)

module _ {H : Type 0} (k : handler.Ghosts H) (told : Option (List Failure)) where
  empty-taken : (s i : StateId) (m : Message) → (s ≢ error → s ≢ dropped → Some s ≡ Some i) → state_for (Some i) s m.initial ≡ m.from → i ≡ m.initial → m.from ≢ error → m.from ≢ dropped → Some m.from ≡ Some m.initial
  empty-taken s i m was counts like n0 n1 = one (s.0 == dropped.0) refl
    where
      one : (b : Bool) → (s.0 == dropped.0) ≡ b → Some m.from ≡ Some m.initial
      one true is = let first : m.initial ≡ m.from = rw is at counts in rw first refl
      one false is =
          let own : s ≡ m.from = rw is at counts in
          let stood : Some s ≡ Some i = was (λ e. n0 (sym own ∙ e)) (λ e. n1 (sym own ∙ e)) in
          rw (← own, stood, like) refl

  Stands-taken : (h : Option H) (p : PartId) (s : StateId) (i : Option StateId) (m : Message) → Stands k told p s i 0 h → state_for i s m.initial ≡ m.from → IsLike i m → m.from ≢ dropped → Stands k told p m.from (Some m.initial) 0 h
  Stands-taken None p s None m was counts like live = λ z n0 n1. rw counts refl
  Stands-taken None p s (Some i) m was counts like live = λ z n0 n1. empty-taken s i m (was refl) counts like n0 n1
  Stands-taken (Some h) p s None m was counts like live = let e : Some (k.initial h) ≡ None = was.0.of_initial in (cc)
  Stands-taken (Some h) p s (Some i) m was counts like live =
      let own : s ≡ m.from = counts-own s i m counts was.0.not_dropped in
      (record { of_part = was.0.of_part; of_initial = rw (← like) was.0.of_initial; is_at = rw (← own) was.0.is_at; of_list = was.0.of_list; not_dropped = live }, refl)

  IsSlot-taken : (x : Slot H) (m : Message) (n : Node) → m.part ≡ x.part → IsSlot k told x → slot_fault x.work x.state x.last x.initial m ≡ None → IsSound m → IsLike x.initial m → IsSlot k told (taken m n x)
  IsSlot-taken x m n same was none sound like =
      let counts : state_for x.initial x.state m.initial ≡ m.from = counts-from_none x.work x.state x.last x.initial m none in
      let idle : x.work ≡ Idle = idle-from_none x.work x.state x.last x.initial m none in
      let stands : Stands k told x.part x.state x.initial 0 x.handler = rw idle at was.handler in
      let live : m.from ≢ dropped = from-not_dropped x.state x.initial m counts sound.not_dropped in
      record {
        handler = Stands-taken x.handler x.part x.state x.initial m stands counts like live;
        work = record { sound = sound; of_part = same; is_from = refl; not_dropped = live; of_initial = refl };
        out = λ e. (cc);
      }

  pub IsLaidOut-accept : {made retired : ℕ} (xs : List (Slot H)) (m : Message) (n : Node) (i : ℕ) (x : Slot H) → position (has_part m.part) xs ≡ Some i → x ≡ get_or xs i x → slot_fault x.work x.state x.last x.initial m ≡ None → IsSound m → IsLike (slot_in (map (plain_slot k) xs) m.part).initial m → IsLaidOut k told xs made retired → IsLaidOut k told (alter (taken m n) i xs) made retired
  IsLaidOut-accept xs m n i x e at_i none sound like was =
      let lt : i < length xs = found-in (has_part m.part) xs i x e in
      let same : x.part ≡ m.part = part-found xs m.part i x e at_i in
      let idle : x.work ≡ Idle = idle-from_none x.work x.state x.last x.initial m none in
      let quiet : lent x.work ≡ 0 = rw idle refl in
      rw (alter-set (taken m n) xs i x lt at_i)
      (IsLaidOut-set xs i (taken m n x) x lt (rw (← at_i) refl)
      (IsSlot-taken x m n (sym same) (let h : IsSlot k told (get_or xs i x) = was.fits i x lt in rw (← at_i) at h) none sound (rw (slot-found k xs m.part i x e at_i) at like))
      (rw (← at_i) (omega (arith, quiet))) was)

  pub IsLaidOut-fresh : {made retired : ℕ} (xs : List (Slot H)) (m : Message) (n : Node) → find (λ y. part_eq y.part m.part) (map (plain_slot k) xs) ≡ None → m.initial ≡ m.from → IsSound m → IsLaidOut k told xs made retired → IsLaidOut k told (xs ++ fresh m n ∷ []) made retired
  IsLaidOut-fresh xs m n new is sound was =
      IsLaidOut-push xs (fresh m n) (unused-any k xs m.part new)
      (record {
        handler = λ z n0 n1. rw is refl;
        work = record { sound = sound; of_part = refl; is_from = refl; not_dropped = λ e. sound.not_dropped (is ∙ e); of_initial = refl };
        out = λ e. refl;
      })
      refl was

module _ {H : Type 0} (k : handler.Ghosts H) where
  pub accept-held : (xs : List (Slot H)) (m : Message) (n : Node) (i : ℕ) (x : Slot H) → AreDistinct (map (λ x. x.part) xs) → position (has_part m.part) xs ≡ Some i → x ≡ get_or xs i x → map (plain_slot k) (alter (taken m n) i xs) ≡ put_slot (map (plain_slot k) xs) (accepted (slot_in (map (plain_slot k) xs) m.part) m)
  accept-held xs m n i x distinct e at_i =
      rw (alter-set (taken m n) xs i x (found-in (has_part m.part) xs i x e) at_i, slot-found k xs m.part i x e at_i)
      (sym (put-at k xs i x (taken m n x) distinct (found-in (has_part m.part) xs i x e) at_i refl))

  pub accept-new : (xs : List (Slot H)) (m : Message) (n : Node) → find (λ y. part_eq y.part m.part) (map (plain_slot k) xs) ≡ None → map (plain_slot k) (xs ++ fresh m n ∷ []) ≡ put_slot (map (plain_slot k) xs) (accepted (slot_in (map (plain_slot k) xs) m.part) m)
  accept-new xs m n new = rw new (sym (unused-put k xs (fresh m n) m.part refl new))
