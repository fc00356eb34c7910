-- What holds of the slots of a placed participant.
use Rattle.std.proofs.Common.{◌≡◌, ◌||◌, Bool, true, false, List, [], ◌∷◌, find, Option, Some, None, ◌⊎◌, inl, inr, refl, sym, ◌∙◌, subst, arith}
use Rattle.std.specs.Prelude.{unwrap_or}
use Rattle.std.specs.List.{list_any}
use Rattle.hx_ids.specs.declared.InstanceId.{InstanceId}
use Rattle.hx_ids.specs.declared.SessionId.{SessionId}
use Rattle.hx_ids.specs.declared.PartId.{PartId}
use Rattle.hx_cluster.specs.declared.state.Message.{Message}
use Rattle.hx_cluster.specs.declared.state.Cluster.{Cluster}
use Rattle.hx_cluster.specs.Ends.{part_eq, is_live}
use Rattle.hx_cluster.specs.Messages.{is_same}
use Rattle.hx_replicas.specs.declared.slots.Work.{Work}
use Rattle.hx_replicas.specs.declared.slots.Work.TheVariants.{Idle, Accepted, Out}
use Rattle.hx_replicas.specs.Participants.{Participant, Slot, new_slot, slot_of, is_idle, all_idle, is_session}
use Rattle.hx_worlds.specs.World.{Job}
use Rattle.hx_safe.proofs.Counting.{all-find}
use Rattle.hx_safe.proofs.Ends.{session_same}
use Rattle.hx_agreed.specs.InStep.{Each, HasWork, HasSlot, IsStale, IsPlaced}

-- the slot of a part, where all slots are idle
pub idle_slot : (w : Participant) (q : PartId) → all_idle w ≡ true → is_idle (slot_of w q).work ≡ true
idle_slot w q idle = one (find (λ x. part_eq x.part q) w.slots) refl
  where
    one : (o : Option Slot) → find (λ x. part_eq x.part q) w.slots ≡ o → is_idle (unwrap_or o (new_slot q)).work ≡ true
    one None is = refl
    one (Some x) is = all-find (λ y. is_idle y.work) (λ y. part_eq y.part q) w.slots x idle is

pub idle_is : (w : Work) → is_idle w ≡ true → w ≡ Idle
idle_is Idle e = refl
idle_is (Accepted m) e = cc
idle_is (Out m is_held) e = cc

-- a message of the bag isn't of a session of which the bag has none
not_apart : (o : Option SessionId) (m : Message) (bag : List Message) → Each (λ y. is_session o y.session ≡ false) bag → list_any (is_same m) bag ≡ true → is_session o m.session ≡ true → ⊥
not_apart o m [] e is mine = (cc)
not_apart o m (y ∷ bag) e is mine = one (is_same m y) refl is (λ f. not_apart o m bag e.1 f mine)
  where
    one : (b : Bool) → is_same m y ≡ b → (b || list_any (is_same m) bag) ≡ true → (list_any (is_same m) bag ≡ true → ⊥) → ⊥
    one true same f more =
        let session : m.session ≡ y.session = session_same m.session y.session (grind (arith, same)) in
        let other : is_session o m.session ≡ false = subst (λ (s : SessionId). is_session o s ≡ false) (sym session) e.0 in
        absurd (let z : true ≡ false = sym mine ∙ other in (cc))
    one false same f more = more f

module _ (c : Cluster) (bag : List Message) (jobs : List Job) (i : InstanceId) (w : Participant) (p : IsPlaced c bag jobs i w) where
  -- what a slot does is in step always
  pub placed_work : (q : PartId) → HasWork c bag jobs i w.session q (slot_of w q) (slot_of w q).work
  placed_work q = one p.slots
    where
      one : IsStale c bag w ⊎ ((r : PartId) → HasSlot c bag jobs i w.session r (slot_of w r)) → HasWork c bag jobs i w.session q (slot_of w q) (slot_of w q).work
      one (inl stale) = subst (λ (v : Work). HasWork c bag jobs i w.session q (slot_of w q) v) (sym (idle_is (slot_of w q).work (idle_slot w q stale.idle))) tt
      one (inr each) = (each q).work

  -- and so is each slot, where the participant's session is live, or something is done, or a message of its session is in the bag
  pub placed_live : (s : SessionId) → w.session ≡ Some s → is_live c.live s ≡ true → (q : PartId) → HasSlot c bag jobs i w.session q (slot_of w q)
  placed_live s mine live q = one p.slots
    where
      one : IsStale c bag w ⊎ ((r : PartId) → HasSlot c bag jobs i w.session r (slot_of w r)) → HasSlot c bag jobs i w.session q (slot_of w q)
      one (inl stale) = absurd (let z : true ≡ false = sym live ∙ stale.dead s mine in (cc))
      one (inr each) = each q

  pub placed_busy : (r : PartId) → is_idle (slot_of w r).work ≡ false → (q : PartId) → HasSlot c bag jobs i w.session q (slot_of w q)
  placed_busy r busy q = one p.slots
    where
      one : IsStale c bag w ⊎ ((r : PartId) → HasSlot c bag jobs i w.session r (slot_of w r)) → HasSlot c bag jobs i w.session q (slot_of w q)
      one (inl stale) = absurd (let z : true ≡ false = sym (idle_slot w r stale.idle) ∙ busy in (cc))
      one (inr each) = each q

  pub placed_named : (m : Message) → is_session w.session m.session ≡ true → list_any (is_same m) bag ≡ true → (q : PartId) → HasSlot c bag jobs i w.session q (slot_of w q)
  placed_named m mine bagged q = one p.slots
    where
      one : IsStale c bag w ⊎ ((r : PartId) → HasSlot c bag jobs i w.session r (slot_of w r)) → HasSlot c bag jobs i w.session q (slot_of w q)
      one (inl stale) = absurd (not_apart w.session m bag stale.apart bagged mine)
      one (inr each) = each q
