-- After a legal history each pending message is as it was sent: with a number, and with the initial state of its part's model.
use Rattle.std.proofs.Common.{◌≡◌, ℕ, ◌<◌, ◌&&◌, ◌==◌, Bool, true, false, List, [], ◌∷◌, Some, refl, sym, ap, ◌∙◌, subst, arith}
use Rattle.std.specs.Prelude.{nat_lt}
use Rattle.std.specs.List.{list_all}
use Rattle.std.proofs.lemmas.Bool.Decides.{nat_tests}
use Rattle.hx_ids.specs.declared.StateId.{StateId}
use Rattle.hx_ids.specs.declared.SessionId.{SessionId}
use Rattle.hx_ids.specs.declared.MsgId.{MsgId}
use Rattle.hx_ids.specs.declared.PartId.{PartId}
use Rattle.hx_cluster.specs.declared.description.Spec.{Spec}
use Rattle.hx_cluster.specs.declared.state.Message.{Message}
use Rattle.hx_cluster.specs.declared.state.Cluster.{Cluster}
use Rattle.hx_cluster.specs.declared.happenings.Placed.{Placed}
use Rattle.hx_cluster.specs.declared.happenings.Placed.TheVariants as placings
use Rattle.hx_cluster.specs.declared.happenings.Proposal.{Proposal}
use Rattle.hx_cluster.specs.declared.happenings.Event.{Event}
use Rattle.hx_cluster.specs.declared.happenings.Event.TheVariants as events
use Rattle.hx_cluster.specs.Ends.{is_message, message_of}
use Rattle.hx_cluster.specs.Steps.{opening}
use Rattle.hx_cluster.specs.Messages.{initial_of, placed_of, message_from, after_placed}
use Rattle.hx_cluster.specs.Events.{next, replay, begun_of, has_part, IsStep, IsLegal}
use Rattle.hx_cluster.specs.Safe.{is_pending}
use Rattle.hx_cluster.specs.Valid.{IsValid}
use Rattle.hx_safe.proofs.Counting.{and-first, and-second, and-both, all-append, all-le, all-both, all-find}
use Rattle.hx_safe.proofs.Ends.{same-self}
use Rattle.hx_safe.proofs.Kept.{IsKept}
use Rattle.hx_safe.proofs.Sending.{room_from, sent_next, along_dispatch}
use Rattle.hx_safe.proofs.Whole.{whole_opening, sound_from, along, at_end}
use Rattle.hx_safe.specs.Calm.{is_dispatch}
use Rattle.hx_safe.proofs.Mail.{next_msg_next, all_quiet}
use Rattle.hx_safe.proofs.On.{on_next}
use Rattle.hx_agreed.specs.InStep.{IsSent}
use Rattle.hx_agreed.proofs.Frames.{initial_like}
use Rattle.hx_agreed.proofs.Quiet.{on_parts}

abbrev is_sent : Cluster → Message → Bool
is_sent c m = nat_lt 0 m.id.0 && (m.initial.0 == (initial_of c m.part).0)

pub record AreSent (c : Cluster) : Type 0 where
  pub first : 0 < c.next_msg
  pub all : list_all (is_sent c) c.mail ≡ true

-- an event that sends none
sent_quiet : (c : Cluster) (e : Event) → IsKept c → is_dispatch e ≡ false → AreSent c → AreSent (next c e)
sent_quiet c e k quiet s = record {
  first = let up = next_msg_next c e in let f = s.first in omega arith;
  all = all_quiet (is_sent (next c e)) (record { taken = λ m is. is; written = λ m is. is }) c e quiet
      (all-le (λ m. is_sent c m && is_pending c m) (is_sent (next c e)) still c.mail (all-both (is_sent c) (is_pending c) c.mail s.all k.mail.pending));
}
  where
    still : (m : Message) → (is_sent c m && is_pending c m) ≡ true → is_sent (next c e) m ≡ true
    still m is =
        let sent = and-first (is_sent c m) (is_pending c m) is in
        let pending = and-second (is_sent c m) (is_pending c m) is in
        let part : has_part c m.part ≡ true = grind (arith, pending) in
        let same = initial_like c (next c e) (on_parts c (next c e) (on_next c e k.numbers)) m.part part in
        and-both (nat_lt 0 m.id.0) (m.initial.0 == (initial_of (next c e) m.part).0) (and-first (nat_lt 0 m.id.0) (m.initial.0 == (initial_of c m.part).0) sent)
        (subst (λ (t : StateId). (m.initial.0 == t.0) ≡ true) (sym same) (and-second (nat_lt 0 m.id.0) (m.initial.0 == (initial_of c m.part).0) sent))

-- a proposal
sent_placed : (c : Cluster) (q : Proposal) → AreSent c → (a : Placed) → placed_of c q ≡ a → AreSent (after_placed c q a)
sent_placed c q s (placings.Sent id) is =
    let d = after_placed c q (placings.Sent id) in
    let number : id.0 ≡ c.next_msg = ap (λ (x : MsgId). x.0) (sent_next c q 0 c.rules id (room_from c q id is).throttles) in
    let low : nat_lt 0 id.0 ≡ true = (let f = s.first in grind (arith, nat_tests, f, number)) in
    record {
      first = let f = s.first in omega arith;
      all = all-append (is_sent d) c.mail (message_from c id q ∷ [])
          ∙ and-both (list_all (is_sent d) c.mail) (list_all (is_sent d) (message_from c id q ∷ [])) s.all
          (and-both (is_sent d (message_from c id q)) true (and-both (nat_lt 0 id.0) ((initial_of c q.part).0 == (initial_of c q.part).0) low (same-self (initial_of c q.part).0)) refl);
    }
sent_placed c q s _ is = s

sent_event : (c : Cluster) (e : Event) → IsKept c → AreSent c → IsStep c e → AreSent (next c e)
sent_event c (events.Dispatch n epoch pass qs answer) k s step =
    along_dispatch AreSent (λ d q l ok here. sent_placed d q here (placed_of d q) refl) c n qs k step.0 (sent_quiet c (events.Begin n (begun_of c n)) k refl s)
sent_event c e k s step = sent_quiet c e k refl s

pub all_sent : (spec : Spec) → IsValid spec → (h : List Event) → IsLegal (opening spec) h → AreSent (replay (opening spec) h)
all_sent spec valid h legal =
    at_end AreSent (opening spec) h (along AreSent sent_event (opening spec) h (whole_opening spec (sound_from spec valid)) (record { first = omega arith; all = refl }) legal)

pub found_sent : (c : Cluster) → AreSent c → (s : SessionId) (q : PartId) (m : Message) → message_of c.mail s q ≡ Some m → IsSent c m
found_sent c s u q m is =
    let sent = all-find (is_sent c) (is_message u q) c.mail m s.all is in
    let low = and-first (nat_lt 0 m.id.0) (m.initial.0 == (initial_of c m.part).0) sent in
    let same : m.initial.0 ≡ (initial_of c m.part).0 = (let e = and-second (nat_lt 0 m.id.0) (m.initial.0 == (initial_of c m.part).0) sent in grind (arith, nat_tests, e)) in
    record { number = grind (arith, nat_tests, low); initial = ap (λ (n : ℕ). record { 0 = n }) same }
