-- Participants as they go on in a session, and jobs as they are carried to their ends.
use Rattle.std.proofs.Common.{◌≡◌, ℕ, Bool, true, false, List, Option, Some, refl, sym, ap, ◌∙◌, subst, arith}
use Rattle.std.specs.Prelude.{nat_le}
use Rattle.std.proofs.lemmas.Bool.Decides.{nat_tests}
use Rattle.hx_ids.specs.declared.SessionId.{SessionId}
use Rattle.hx_ids.specs.declared.PartId.{PartId}
use Rattle.hx_cluster.specs.declared.state.Message.{Message}
use Rattle.hx_cluster.specs.declared.state.Cluster.{Cluster}
use Rattle.hx_cluster.specs.declared.happenings.Outcome.{Outcome}
use Rattle.hx_cluster.specs.Ends.{part_eq, message_of}
use Rattle.hx_replicas.specs.declared.slots.Work.TheVariants.{Idle, Accepted, Out}
use Rattle.hx_replicas.specs.Participants.{Participant, Slot, slot_in, slot_of, put_slot, made_ready, emptied_for, hand_out, end_of, brought, finish, accepted, accept}
use Rattle.hx_replicas.proofs.Putting.{part-slot_in, slot_in-put, slots-hand_out}
use Rattle.hx_safe.proofs.Ends.{part_same}
use Rattle.hx_agreed.proofs.Slots.{slot_in-other}

-- later in the same session no part's last number is lower, and a message is accepted only if it was
pub record IsLater (v w : Participant) : Type 0 where
  pub session : w.session ≡ v.session
  pub last : (q : PartId) → nat_le (slot_of v q).last.0 (slot_of w q).last.0 ≡ true
  pub accepted : (q : PartId) (m : Message) → (slot_of w q).work ≡ Accepted m → (slot_of v q).work ≡ Accepted m

le_self : (n : ℕ) → nat_le n n ≡ true
le_self n = grind (arith, nat_tests)

pub le_both : (a b d : ℕ) → nat_le a b ≡ true → nat_le b d ≡ true → nat_le a d ≡ true
le_both a b d e f = grind (arith, nat_tests, e, f)

pub later_self : (v : Participant) → IsLater v v
later_self v = record { session = refl; last = λ q. le_self (slot_of v q).last.0; accepted = λ q m e. e }

pub later_both : (u v w : Participant) → IsLater u v → IsLater v w → IsLater u w
later_both u v w f g = record {
  session = g.session ∙ f.session;
  last = λ q. le_both (slot_of u q).last.0 (slot_of v q).last.0 (slot_of w q).last.0 (f.last q) (g.last q);
  accepted = λ q m e. f.accepted q m (g.accepted q m e);
}

-- a slot that is put
module _ (xs : List Slot) (y : Slot) (p : PartId) (part : y.part ≡ p) where
  put_last : nat_le (slot_in xs p).last.0 y.last.0 ≡ true → (q : PartId) → nat_le (slot_in xs q).last.0 (slot_in (put_slot xs y) q).last.0 ≡ true
  put_last up q = one (part_eq y.part q) refl
    where
      one : (b : Bool) → part_eq y.part q ≡ b → nat_le (slot_in xs q).last.0 (slot_in (put_slot xs y) q).last.0 ≡ true
      one true e =
          let same : p ≡ q = sym part ∙ part_same y.part q e in
          subst (λ (r : PartId). nat_le (slot_in xs r).last.0 (slot_in (put_slot xs y) r).last.0 ≡ true) same
          (subst (λ (z : Slot). nat_le (slot_in xs p).last.0 z.last.0 ≡ true) (sym (slot_in-put xs y p part)) up)
      one false e = subst (λ (z : Slot). nat_le (slot_in xs q).last.0 z.last.0 ≡ true) (sym (slot_in-other xs y q e)) (le_self (slot_in xs q).last.0)

  put_accepted : ((m : Message) → y.work ≡ Accepted m → ⊥) → (q : PartId) (m : Message) → (slot_in (put_slot xs y) q).work ≡ Accepted m
      → ((slot_in xs q).work ≡ Accepted m) × (part_eq p q ≡ false)
  put_accepted never q m is = one (part_eq y.part q) refl
    where
      one : (b : Bool) → part_eq y.part q ≡ b → ((slot_in xs q).work ≡ Accepted m) × (part_eq p q ≡ false)
      one true e =
          let same : y.part ≡ q = part_same y.part q e in
          absurd (never m (ap (λ (z : Slot). z.work) (sym (slot_in-put xs y q same)) ∙ is))
      one false e = (ap (λ (z : Slot). z.work) (sym (slot_in-other xs y q e)) ∙ is, subst (λ (r : PartId). part_eq r q ≡ false) part e)

-- a message that goes out, and one that comes back
never_out : (m : Message) (is_held : Bool) (n : Message) → Out m is_held ≡ Accepted n → ⊥
never_out m is_held n e = cc

never_idle : (n : Message) → Idle ≡ Accepted n → ⊥
never_idle n e = cc

pub handed_later : (w : Participant) (m : Message) (f : Bool) → IsLater w (hand_out w m f)
handed_later w m f =
    let y = emptied_for (made_ready (slot_of w m.part) m f) m in
    record {
      session = refl;
      last = λ q. subst (λ (xs : List Slot). nat_le (slot_in w.slots q).last.0 (slot_in xs q).last.0 ≡ true) (sym (slots-hand_out w m f))
          (put_last w.slots y m.part (part-slot_in w.slots m.part) (le_self (slot_in w.slots m.part).last.0) q);
      accepted = λ q n e.
          (put_accepted w.slots y m.part (part-slot_in w.slots m.part) (λ x is. never_out m _ x is) q n (ap (λ (xs : List Slot). (slot_in xs q).work) (sym (slots-hand_out w m f)) ∙ e)).0;
    }

pub handed_gone : (w : Participant) (m : Message) (f : Bool) (q : PartId) (n : Message) → (slot_of (hand_out w m f) q).work ≡ Accepted n → part_eq m.part q ≡ false
handed_gone w m f q n e =
    let y = emptied_for (made_ready (slot_of w m.part) m f) m in
    (put_accepted w.slots y m.part (part-slot_in w.slots m.part) (λ x is. never_out m _ x is) q n (ap (λ (xs : List Slot). (slot_in xs q).work) (sym (slots-hand_out w m f)) ∙ e)).1

pub finished_later : (w : Participant) (m : Message) (o : Option Outcome) (runs : Option ℕ) → IsLater w (finish w m o runs)
finished_later w m o runs =
    let y = brought (slot_of w m.part) (end_of m o) runs in
    record {
      session = refl;
      last = λ q. put_last w.slots y m.part (part-slot_in w.slots m.part) (le_self (slot_in w.slots m.part).last.0) q;
      accepted = λ q n e. (put_accepted w.slots y m.part (part-slot_in w.slots m.part) (λ x is. never_idle x is) q n e).0;
    }

-- a message that is accepted is the last
pub accepted_last : (w : Participant) (m : Message) → nat_le m.id.0 (slot_of w m.part).last.0 ≡ false → (q : PartId) → nat_le (slot_of w q).last.0 (slot_of (accept w m) q).last.0 ≡ true
accepted_last w m above q = put_last w.slots (accepted (slot_of w m.part) m) m.part (part-slot_in w.slots m.part) (grind (arith, nat_tests, above)) q

pub accepted_here : (w : Participant) (m : Message) → nat_le m.id.0 (slot_of (accept w m) m.part).last.0 ≡ true
accepted_here w m =
    subst (λ (z : Slot). nat_le m.id.0 z.last.0 ≡ true) (sym (slot_in-put w.slots (accepted (slot_of w m.part) m) m.part (part-slot_in w.slots m.part))) (le_self m.id.0)

-- each message that is pending later was pending before, with its number
abbrev pub IsFrom : Cluster → Cluster → Type 0
IsFrom c d = (s : SessionId) (q : PartId) (m : Message) → message_of d.mail s q ≡ Some m → (n : Message) × (message_of c.mail s q ≡ Some n) × (n.id ≡ m.id)
