-- A participant stands as the board has it where the tests of its slots say so.
use Rattle.std.proofs.Common.{◌≡◌, ℕ, ◌<◌, ◌==◌, ◌&&◌, ◌||◌, not, Bool, true, false, find, length, Option, Some, None, refl, sym, ap, ◌∙◌, subst, arith}
use Rattle.std.specs.Prelude.{nat_lt, unwrap_or}
use Rattle.std.specs.List.{list_all}
use Rattle.std.proofs.lemmas.Bool.Decides.{nat_tests}
use Rattle.hx_ids.specs.declared.StateId.{StateId}
use Rattle.hx_ids.specs.declared.SessionId.{SessionId}
use Rattle.hx_ids.specs.declared.PartId.{PartId}
use Rattle.hx_cluster.specs.declared.state.Message.{Message}
use Rattle.hx_cluster.specs.declared.state.Cluster.{Cluster}
use Rattle.hx_cluster.specs.Ends.{part_eq, is_message, state_of, message_of}
use Rattle.hx_cluster.specs.Steps.{session_of}
use Rattle.hx_cluster.specs.Messages.{initial_of}
use Rattle.hx_cluster.specs.Events.{has_part}
use Rattle.hx_cluster.specs.Safe.{IsSafe}
use Rattle.hx_cluster.specs.Ranged.{IsRanged}
use Rattle.hx_replicas.specs.Participants.{Participant, Slot, new_slot, slot_of, counts_as, is_session}
use Rattle.hx_worlds.specs.Agree.{Stationed, IsSettledIn, IfLive, is_to_come}
use Rattle.hx_safe.proofs.Counting.{and-first, and-second, and-both, and-three, all-find, find-passes}
use Rattle.hx_safe.proofs.Ends.{same-self, session_same, part_same, part_eq-self}
use Rattle.hx_agree.specs.Tests.{at_each_part, is_like, is_coming, is_settled_slot, is_settled_at, are_slots_settled, is_settled_in, is_settled_with, is_settled, has_session}
use Rattle.hx_agree.proofs.Lists.{from-all}
use Rattle.hx_safe.proofs.Counting.{all_found}
use Rattle.hx_agree.proofs.Places.{at_part, each_part}
use Rattle.hx_agree.proofs.Live.{is_mine, mine_is, no_row, no_message, message_at, live_has_session, has_session_live}
use Rattle.hx_safe.proofs.Counting.{if-passed, if-unasked}

state_same : (a b : StateId) → (a.0 == b.0) ≡ true → a ≡ b
state_same a b e = let same : a.0 ≡ b.0 = grind (arith, nat_tests, e) in ap (λ (n : ℕ). record { 0 = n }) same

state_is : (a b : StateId) → a ≡ b → (a.0 == b.0) ≡ true
state_is a b e = subst (λ (x : StateId). (a.0 == x.0) ≡ true) e (same-self a.0)

like_is : (o : Option StateId) (initial t : StateId) → is_like o initial ≡ true → o ≡ Some t → t ≡ initial
like_is None initial t e is = cc
like_is (Some has) initial t e is = let same : has ≡ t = cc in sym same ∙ state_same has initial e

is_like_of : (o : Option StateId) (initial : StateId) → ((t : StateId) → o ≡ Some t → t ≡ initial) → is_like o initial ≡ true
is_like_of None initial h = refl
is_like_of (Some has) initial h = state_is has initial (h has refl)

-- what the test of a slot says
pub record IsSettledSlot (next : ℕ) (is_there : Bool) (initial : StateId) (x : Slot) (row : Option StateId) (m : Option Message) : Type 0 where
  pub number : nat_lt x.last.0 next ≡ true
  pub there : nat_lt 0 x.last.0 ≡ true → is_there ≡ true
  pub like : (t : StateId) → x.initial ≡ Some t → t ≡ initial
  pub stands : counts_as x initial ≡ unwrap_or row initial
  pub coming : is_coming x.last.0 m ≡ true

used : (there : Bool) (last : ℕ) → (there || (last == 0)) ≡ true → nat_lt 0 last ≡ true → there ≡ true
used true last e lt = refl
used false last e lt = let none : last ≡ 0 = grind (arith, nat_tests, e) in grind (arith, nat_tests, lt, none)

is_used : (there : Bool) (last : ℕ) → (nat_lt 0 last ≡ true → there ≡ true) → (there || (last == 0)) ≡ true
is_used true last h = refl
is_used false last h = one (nat_lt 0 last) refl
  where
    one : (b : Bool) → nat_lt 0 last ≡ b → (last == 0) ≡ true
    one true e = let no : false ≡ true = h e in cc
    one false e = grind (arith, nat_tests, e)

five : (a b d f g : Bool) → (a && b && d && f && g) ≡ true → (a ≡ true) × (b ≡ true) × (d ≡ true) × (f ≡ true) × (g ≡ true)
five true true true true true e = (refl, refl, refl, refl, refl)
five true true true true false e = cc
five true true true false g e = cc
five true true false f g e = cc
five true false d f g e = cc
five false b d f g e = cc

slot_settled : (next : ℕ) (is_there : Bool) (initial : StateId) (x : Slot) (row : Option StateId) (m : Option Message)
    → is_settled_slot next is_there initial x row m ≡ true → IsSettledSlot next is_there initial x row m
slot_settled next is_there initial x row m e =
    let all = five (nat_lt x.last.0 next) (is_there || (x.last.0 == 0)) (is_like x.initial initial) ((counts_as x initial).0 == (unwrap_or row initial).0) (is_coming x.last.0 m) e in
    record {
      number = all.0;
      there = used is_there x.last.0 all.1;
      like = λ t is. like_is x.initial initial t all.2 is;
      stands = state_same (counts_as x initial) (unwrap_or row initial) all.3;
      coming = all.4;
    }

settled_slot : (next : ℕ) (is_there : Bool) (initial : StateId) (x : Slot) (row : Option StateId) (m : Option Message)
    → IsSettledSlot next is_there initial x row m → is_settled_slot next is_there initial x row m ≡ true
settled_slot next is_there initial x row m h =
    and-both (nat_lt x.last.0 next && (is_there || (x.last.0 == 0)) && is_like x.initial initial && ((counts_as x initial).0 == (unwrap_or row initial).0)) (is_coming x.last.0 m)
    (and-both (nat_lt x.last.0 next && (is_there || (x.last.0 == 0)) && is_like x.initial initial) ((counts_as x initial).0 == (unwrap_or row initial).0)
    (and-both (nat_lt x.last.0 next && (is_there || (x.last.0 == 0))) (is_like x.initial initial)
    (and-both (nat_lt x.last.0 next) (is_there || (x.last.0 == 0)) h.number (is_used is_there x.last.0 h.there))
    (is_like_of x.initial initial h.like))
    (state_is (counts_as x initial) (unwrap_or row initial) h.stands))
    h.coming

module _ (c : Cluster) (safe : IsSafe c) (ranged : IsRanged c) (first : 0 < c.next_msg) where
  -- a part that neither the board nor a slot has is settled
  elsewhere : (w : Participant) (s : SessionId) (q : PartId) → has_part c q ≡ false → find (λ x. part_eq x.part q) w.slots ≡ None
      → is_settled_at c.next_msg c.models c w s q ≡ true
  elsewhere w s q lacks none =
      settled_slot c.next_msg (has_part c q) (initial_of c q) (slot_of w q) (state_of c.rows s q) (message_of c.mail s q)
      (subst (λ (o : Option Slot). IsSettledSlot c.next_msg (has_part c q) (initial_of c q) (unwrap_or o (new_slot q)) (state_of c.rows s q) (message_of c.mail s q)) (sym none)
      (subst (λ (o : Option StateId). IsSettledSlot c.next_msg (has_part c q) (initial_of c q) (new_slot q) o (message_of c.mail s q)) (sym (no_row c safe ranged s q lacks))
      (subst (λ (o : Option Message). IsSettledSlot c.next_msg (has_part c q) (initial_of c q) (new_slot q) None o) (sym (no_message c safe ranged s q lacks))
      (record {
        number = grind (arith, nat_tests, first);
        there = λ lt. let no_number : nat_lt 0 0 ≡ true = lt in cc;
        like = λ t is. cc;
        stands = refl;
        coming = refl;
      }))))

  -- so the slots and the board's parts are enough
  pub everywhere : (w : Participant) (s : SessionId) → are_slots_settled c.next_msg c.models c w s ≡ true → at_each_part c (is_settled_at c.next_msg c.models c w s) ≡ true
      → (q : PartId) → is_settled_at c.next_msg c.models c w s q ≡ true
  everywhere w s slots parts q = one (has_part c q) refl (find (λ x. part_eq x.part q) w.slots) refl
    where
      one : (b : Bool) → has_part c q ≡ b → (o : Option Slot) → find (λ x. part_eq x.part q) w.slots ≡ o → is_settled_at c.next_msg c.models c w s q ≡ true
      one true has o is = at_part c (is_settled_at c.next_msg c.models c w s) parts q has
      one false lacks None is = elsewhere w s q lacks is
      one false lacks (Some x) is =
          let same : x.part ≡ q = part_same x.part q (find-passes (λ y. part_eq y.part q) w.slots x is) in
          let at : is_settled_at c.next_msg c.models c w s x.part ≡ true = all-find (λ y. is_settled_at c.next_msg c.models c w s y.part) (λ y. part_eq y.part q) w.slots x slots is in
          subst (λ (p : PartId). is_settled_at c.next_msg c.models c w s p ≡ true) same at

  module _ (p : Stationed) (s : SessionId) where
    slot_at : (q : PartId) → is_settled_at c.next_msg c.models c p.plain s q ≡ true
        → IsSettledSlot c.next_msg (has_part c q) (initial_of c q) (slot_of p.plain q) (state_of c.rows s q) (message_of c.mail s q)
    slot_at q e = slot_settled c.next_msg (has_part c q) (initial_of c q) (slot_of p.plain q) (state_of c.rows s q) (message_of c.mail s q) e

    -- messages of the session
    to_come : ((q : PartId) → is_settled_at c.next_msg c.models c p.plain s q ≡ true) → list_all (is_to_come p.plain s) c.mail ≡ true
    to_come h =
        all_found (λ (m n : Message). is_message m.session m.part n) (is_to_come p.plain s) c.mail
        (λ m. and-both (m.session.0 == m.session.0) (part_eq m.part m.part) (same-self m.session.0) (part_eq-self m.part)) (λ m. safe.mail.single m.session m.part)
        (λ m found. one m found (m.session.0 == s.0) refl)
      where
        one : (m : Message) → find (is_message m.session m.part) c.mail ≡ Some m → (b : Bool) → (m.session.0 == s.0) ≡ b → is_to_come p.plain s m ≡ true
        one m found false is = if-unasked (m.session.0 == s.0) (not m.taken && nat_lt (slot_of p.plain m.part).last.0 m.id.0) is
        one m found true is =
            let same = session_same m.session s is in
            let here : message_of c.mail s m.part ≡ Some m = message_at c safe ranged s (is_message m.session m.part) m found same in
            if-passed (m.session.0 == s.0) (not m.taken && nat_lt (slot_of p.plain m.part).last.0 m.id.0)
            (subst (λ (o : Option Message). is_coming (slot_of p.plain m.part).last.0 o ≡ true) here (slot_at m.part (h m.part)).coming)

    pub stands : is_settled_in c.next_msg c.models c p s ≡ true → IsSettledIn c p s
    stands e =
        let three = and-three (is_session (session_of c p.instance) s) (are_slots_settled c.next_msg c.models c p.plain s) (at_each_part c (is_settled_at c.next_msg c.models c p.plain s)) e in
        let all = everywhere p.plain s three.1 three.2 in
        record {
          attached = record {
            own = mine_is (session_of c p.instance) s three.0;
            parts = λ q. (slot_at q (all q)).there;
            numbers = λ q. (slot_at q (all q)).number;
            initial = λ q. (slot_at q (all q)).like;
          };
          rows = λ q. (slot_at q (all q)).stands;
          mail = to_come all;
        }

    -- and what stands so passes
    coming_of : IsSettledIn c p s → (q : PartId) → is_coming (slot_of p.plain q).last.0 (message_of c.mail s q) ≡ true
    coming_of h q = one (message_of c.mail s q) refl
      where
        passes : (b d : Bool) → b ≡ true → (not b || d) ≡ true → d ≡ true
        passes true d e g = g
        passes false d e g = cc

        one : (o : Option Message) → message_of c.mail s q ≡ o → is_coming (slot_of p.plain q).last.0 o ≡ true
        one None is = refl
        one (Some m) is =
            let both = find-passes (is_message s q) c.mail m is in
            let same : m.part ≡ q = part_same m.part q (and-second (m.session.0 == s.0) (part_eq m.part q) both) in
            let at : is_to_come p.plain s m ≡ true = all-find (is_to_come p.plain s) (is_message s q) c.mail m h.mail is in
            let here = passes (m.session.0 == s.0) (not m.taken && nat_lt (slot_of p.plain m.part).last.0 m.id.0) (and-first (m.session.0 == s.0) (part_eq m.part q) both) at in
            subst (λ (r : PartId). (not m.taken && nat_lt (slot_of p.plain r).last.0 m.id.0) ≡ true) same here

    at_each : IsSettledIn c p s → (q : PartId) → is_settled_at c.next_msg c.models c p.plain s q ≡ true
    at_each h q =
        settled_slot c.next_msg (has_part c q) (initial_of c q) (slot_of p.plain q) (state_of c.rows s q) (message_of c.mail s q)
        (record {
          number = h.attached.numbers q;
          there = h.attached.parts q;
          like = h.attached.initial q;
          stands = h.rows q;
          coming = coming_of h q;
        })

    pub passes : IsSettledIn c p s → is_settled_in c.next_msg c.models c p s ≡ true
    passes h =
        and-both (is_session (session_of c p.instance) s && are_slots_settled c.next_msg c.models c p.plain s) (at_each_part c (is_settled_at c.next_msg c.models c p.plain s))
        (and-both (is_session (session_of c p.instance) s) (are_slots_settled c.next_msg c.models c p.plain s) (is_mine (session_of c p.instance) s h.attached.own)
        (from-all (λ (x : Slot). is_settled_at c.next_msg c.models c p.plain s x.part) p.plain.slots (λ x. at_each h x.part)))
        (each_part c (is_settled_at c.next_msg c.models c p.plain s) (λ q has. at_each h q))

  -- where the session is live
  module _ (n : ℕ) (long : length c.instances ≡ n) (p : Stationed) where
    unless : (b d : Bool) → b ≡ true → (not b || d) ≡ true → d ≡ true
    unless true d e g = g
    unless false d e g = cc

    pub settled_live : is_settled c.next_msg c.models n c p ≡ true → IfLive c p (IsSettledIn c p)
    settled_live e s mine live =
        let at : is_settled_with c.next_msg c.models n c p (Some s) ≡ true = subst (λ (o : Option SessionId). is_settled_with c.next_msg c.models n c p o ≡ true) mine e in
        stands p s (unless (has_session n c s) (is_settled_in c.next_msg c.models c p s) (live_has_session c safe ranged n s long live) at)

    pub live_settled : IfLive c p (IsSettledIn c p) → is_settled c.next_msg c.models n c p ≡ true
    live_settled h = one p.plain.session refl
      where
        either : (b d : Bool) → (b ≡ true → d ≡ true) → (not b || d) ≡ true
        either true d g = g refl
        either false d g = refl

        one : (o : Option SessionId) → p.plain.session ≡ o → is_settled_with c.next_msg c.models n c p o ≡ true
        one None mine = refl
        one (Some s) mine = either (has_session n c s) (is_settled_in c.next_msg c.models c p s) (λ has. passes p s (h s mine (has_session_live c safe ranged n s has)))
