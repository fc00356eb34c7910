-- Steps, passes, dispatches and reads keep all in step.
use Rattle.std.proofs.Common.{◌≡◌, ℕ, ◌+◌, ◌≤◌, ◌==◌, not, Bool, true, false, List, [], ◌∷◌, ◌++◌, filter, find, Option, Some, None, ◌⊎◌, inl, inr, refl, sym, ap, ◌∙◌, subst, arith}
use Rattle.std.specs.Prelude.{nat_lt, if◌then◌else◌}
use Rattle.std.specs.List.{list_all}
use Rattle.std.specs.Option.{option_map}
use Rattle.std.proofs.lemmas.Bool.Decides.{nat_tests}
use Rattle.hx_lists.specs.Lists.{count}
use Rattle.hx_ids.specs.declared.InstanceId.{InstanceId}
use Rattle.hx_ids.specs.declared.ControllerId.{ControllerId}
use Rattle.hx_ids.specs.declared.SessionId.{SessionId}
use Rattle.hx_ids.specs.declared.MsgId.{MsgId}
use Rattle.hx_ids.specs.declared.PartId.{PartId}
use Rattle.hx_ids.specs.declared.Live.{Live}
use Rattle.hx_cluster.specs.declared.state.Message.{Message}
use Rattle.hx_cluster.specs.declared.state.Cluster.{Cluster}
use Rattle.hx_cluster.specs.declared.happenings.Placed.{Placed}
use Rattle.hx_cluster.specs.declared.happenings.Placed.TheVariants as placings
use Rattle.hx_cluster.specs.declared.happenings.Proposal.{Proposal}
use Rattle.hx_cluster.specs.declared.happenings.Admin.{Admin}
use Rattle.hx_cluster.specs.declared.happenings.Admin.TheVariants as steps
use Rattle.hx_cluster.specs.declared.happenings.Event.{Event}
use Rattle.hx_cluster.specs.declared.happenings.Event.TheVariants as events
use Rattle.hx_cluster.specs.Ends.{is_message, is_session, is_live, message_of}
use Rattle.hx_cluster.specs.Steps.{after, ended_by, is_of, live_of, without, without_all, ended_of, beaten_of, asked_of}
use Rattle.hx_cluster.specs.Messages.{is_same, placed_of, message_from, after_placed, next_pass, after_dispatch}
use Rattle.hx_cluster.specs.Events.{next, begun_of, is_proposable, IsStep}
use Rattle.hx_replicas.specs.Participants.{Participant, slot_of}
use Rattle.hx_worlds.specs.World.{Job}
use Rattle.hx_worlds.specs.Agree.{is_known_at}
use Rattle.hx_safe.proofs.Counting.{any-append, count-filter, count-removed, find-passes, find-any, find-single, any-count}
use Rattle.hx_safe.proofs.Ends.{session_same, same-self}
use Rattle.hx_safe.proofs.Kept.{IsKept, kept_beside, kept_raised}
use Rattle.hx_safe.proofs.Leaving.{kept_without}
use Rattle.hx_safe.proofs.Sending.{room_from, sent_next, along_dispatch}
use Rattle.hx_safe.proofs.Beside.{IsBeside, beside_step, beside_pass}
use Rattle.hx_safe.proofs.Whole.{IsWhole, whole_next}
use Rattle.hx_safe.specs.Onward.{IsOn}
use Rattle.hx_safe.proofs.On.{on_self, on_next}
use Rattle.hx_agreed.specs.InStep.{of_instance, IsPending, IsUntouched, HasSlot, IsStale, IsHeldJob, IsOldIn, IsInBag, IsSent, AreInStep}
use Rattle.hx_agreed.proofs.Lists.{each-le}
use Rattle.hx_agreed.proofs.Placed.{placed_live}
use Rattle.hx_agreed.proofs.Frames.{HasParts, new_known, work_like, slot_like, in_bag_like}
use Rattle.hx_agreed.proofs.Quiet.{IsQuiet, quiet_in_step, beside_quiet, same_parts, live-within, found-without, back-without, without_quiet}

-- what is found in a list with more behind it
pub find-before : {X : Type 0} (p : X → Bool) (xs ys : List X) (x : X) → find p xs ≡ Some x → find p (xs ++ ys) ≡ Some x
find-before p [] ys x e = cc
find-before p (z ∷ xs) ys x e = grind (arith, e, find-before p xs ys x)

pub find-behind : {X : Type 0} (p : X → Bool) (xs ys : List X) → find p xs ≡ None → find p (xs ++ ys) ≡ find p ys
find-behind p [] ys e = refl
find-behind p (z ∷ xs) ys e = grind (arith, e, find-behind p xs ys)

-- a session that joins
join_quiet : (c : Cluster) (i : InstanceId) → IsQuiet c (after c (steps.Join i))
join_quiet c i = record {
  parts = same_parts c (after c (steps.Join i)) refl refl;
  messages = refl;
  up = omega arith;
  live = λ s low is. live s low (is_live c.live s) refl is;
  kept = λ j s is e. kept j s (live_of c.live j) refl e;
  back = λ j s e. back j s (live_of c.live j) refl e;
  like = λ s is. record { rows = λ q. refl; mail = λ q. refl };
}
  where
    new : Live
    new = record { session = record { 0 = c.next_session }; instance = i; beat = c.clock }

    live : (s : SessionId) → nat_lt s.0 c.next_session ≡ true → (b : Bool) → is_live c.live s ≡ b → is_live (c.live ++ (record { session = record { 0 = c.next_session }; instance = i; beat = c.clock }) ∷ []) s ≡ true → b ≡ true
    live s low true e is = refl
    live s low false e is = let split = any-append (is_session s) c.live ((record { session = record { 0 = c.next_session }; instance = i; beat = c.clock }) ∷ []) in grind (arith, nat_tests, low, e, is, split)

    kept : (j : InstanceId) (s : SessionId) (o : Option Live) → live_of c.live j ≡ o → option_map (λ l. l.session) o ≡ Some s
        → option_map (λ l. l.session) (live_of (c.live ++ (record { session = record { 0 = c.next_session }; instance = i; beat = c.clock }) ∷ []) j) ≡ Some s
    kept j s None e is = cc
    kept j s (Some l) e is = ap (option_map (λ l. l.session)) (find-before (is_of j) c.live ((record { session = record { 0 = c.next_session }; instance = i; beat = c.clock }) ∷ []) l e) ∙ is

    new_one : (b : Bool) (s : SessionId) → option_map (λ (l : Live). l.session) (if b then Some (record { session = record { 0 = c.next_session }; instance = i; beat = c.clock }) else None) ≡ Some s → nat_lt s.0 c.next_session ≡ false
    new_one true s e = let same : ◌≡◌ {A = SessionId} (record { 0 = c.next_session }) s = cc in let n : c.next_session ≡ s.0 = ap (λ (t : SessionId). t.0) same in grind (arith, nat_tests, n)
    new_one false s e = cc

    back : (j : InstanceId) (s : SessionId) (o : Option Live) → live_of c.live j ≡ o
        → option_map (λ l. l.session) (live_of (c.live ++ (record { session = record { 0 = c.next_session }; instance = i; beat = c.clock }) ∷ []) j) ≡ Some s
        → (option_map (λ l. l.session) o ≡ Some s) ⊎ (nat_lt s.0 c.next_session ≡ false)
    back j s None e is =
        inr (new_one (i.0 == j.0) s (ap (option_map (λ l. l.session)) (sym (find-behind (is_of j) c.live ((record { session = record { 0 = c.next_session }; instance = i; beat = c.clock }) ∷ []) e)) ∙ is))
    back j s (Some l) e is =
        inl (ap (option_map (λ l. l.session)) (sym (find-before (is_of j) c.live ((record { session = record { 0 = c.next_session }; instance = i; beat = c.clock }) ∷ []) l e)) ∙ is)

-- a beat
beat_quiet : (c : Cluster) (i : InstanceId) (l : Live) → IsKept c → ((j : InstanceId) → count (is_of j) c.live ≤ 1) → live_of c.live i ≡ Some l → IsQuiet c (beaten_of c (Some l))
beat_quiet c i l k few found = record {
  parts = same_parts c (beaten_of c (Some l)) refl refl;
  messages = refl;
  up = omega arith;
  live = λ s low is. live s (l.session.0 == s.0) refl is;
  kept = λ j s is e. kept j s (l.session.0 == s.0) refl e;
  back = λ j s e. back j s (find (is_of j) (filter (λ x. not (x.session.0 == l.session.0)) c.live)) refl e;
  like = λ s is. record { rows = λ q. refl; mail = λ q. refl };
}
  where
    here : find (is_session l.session) c.live ≡ Some l
    here = find-single (is_of i) (is_session l.session) c.live l found (same-self l.session.0) (k.numbers l.session)

    of_own : find (is_of l.instance) c.live ≡ Some l
    of_own = find-single (is_of i) (is_of l.instance) c.live l found (same-self l.instance.0) (few l.instance)

    live : (s : SessionId) (b : Bool) → (l.session.0 == s.0) ≡ b → is_live (filter (λ x. not (x.session.0 == l.session.0)) c.live ++ (record l { beat = c.clock }) ∷ []) s ≡ true → is_live c.live s ≡ true
    live s true e is = find-any (is_of i) (is_session s) c.live l found e
    live s false e is =
        let split = any-append (is_session s) (filter (λ (x : Live). not (x.session.0 == l.session.0)) c.live) ((record l { beat = c.clock }) ∷ []) in
        live-within c.live l.session s (grind (arith, split, e, is))

    kept : (j : InstanceId) (s : SessionId) (b : Bool) → (l.session.0 == s.0) ≡ b → option_map (λ x. x.session) (live_of c.live j) ≡ Some s
        → option_map (λ x. x.session) (live_of (filter (λ x. not (x.session.0 == l.session.0)) c.live ++ (record l { beat = c.clock }) ∷ []) j) ≡ Some s
    kept j s true e is = one (live_of c.live j) refl is
      where
        one : (o : Option Live) → live_of c.live j ≡ o → option_map (λ x. x.session) o ≡ Some s
            → option_map (λ x. x.session) (live_of (filter (λ x. not (x.session.0 == l.session.0)) c.live ++ (record l { beat = c.clock }) ∷ []) j) ≡ Some s
        one None f w = cc
        one (Some x) f w =
            let xs : x.session ≡ s = cc in
            let ls : l.session ≡ s = session_same l.session s e in
            let there : find (is_session s) c.live ≡ Some x = find-single (is_of j) (is_session s) c.live x f (subst (λ (t : SessionId). (x.session.0 == t.0) ≡ true) xs (same-self x.session.0)) (k.numbers s) in
            let here2 : find (is_session s) c.live ≡ Some l = subst (λ (t : SessionId). find (is_session t) c.live ≡ Some l) ls here in
            let same : x ≡ l = cc in
            let lj : is_of j l ≡ true = subst (λ (y : Live). is_of j y ≡ true) same (find-passes (is_of j) c.live x f) in
            let gone = count-removed (is_of j) (is_of i) (λ (y : Live). not (y.session.0 == l.session.0)) c.live l found (let r = same-self l.session.0 in ap not r) lj in
            let most = few j in
            let none : find (is_of j) (filter (λ (y : Live). not (y.session.0 == l.session.0)) c.live) ≡ None = nothing (find (is_of j) (filter (λ (y : Live). not (y.session.0 == l.session.0)) c.live)) refl (omega arith) in
            ap (option_map (λ (y : Live). y.session)) (find-behind (is_of j) (filter (λ (y : Live). not (y.session.0 == l.session.0)) c.live) ((record l { beat = c.clock }) ∷ []) none) ∙ last lj ls
          where
            nothing : (o : Option Live) → find (is_of j) (filter (λ (y : Live). not (y.session.0 == l.session.0)) c.live) ≡ o → count (is_of j) (filter (λ (y : Live). not (y.session.0 == l.session.0)) c.live) ≤ 0
                → o ≡ None
            nothing None g z = refl
            nothing (Some y) g z =
                let some = any-count (is_of j) (filter (λ (y : Live). not (y.session.0 == l.session.0)) c.live) (find-any (is_of j) (is_of j) (filter (λ (y : Live). not (y.session.0 == l.session.0)) c.live) y g (find-passes (is_of j) (filter (λ (y : Live). not (y.session.0 == l.session.0)) c.live) y g)) in
                absurd (omega arith)

            last : is_of j l ≡ true → l.session ≡ s → option_map (λ (y : Live). y.session) (if is_of j l then Some (record l { beat = c.clock }) else None) ≡ Some s
            last lj ls = rw lj (ap (λ (t : SessionId). Some t) ls)
    kept j s false e is =
        let f = found-without c.live l.session s j (grind (arith, nat_tests, e)) is in
        one (find (is_of j) (filter (λ x. not (x.session.0 == l.session.0)) c.live)) refl f
      where
        one : (o : Option Live) → find (is_of j) (filter (λ x. not (x.session.0 == l.session.0)) c.live) ≡ o → option_map (λ x. x.session) o ≡ Some s
            → option_map (λ x. x.session) (live_of (filter (λ x. not (x.session.0 == l.session.0)) c.live ++ (record l { beat = c.clock }) ∷ []) j) ≡ Some s
        one None g w = cc
        one (Some x) g w = ap (option_map (λ (y : Live). y.session)) (find-before (is_of j) (filter (λ (y : Live). not (y.session.0 == l.session.0)) c.live) ((record l { beat = c.clock }) ∷ []) x g) ∙ w

    back : (j : InstanceId) (s : SessionId) (o : Option Live) → find (is_of j) (filter (λ x. not (x.session.0 == l.session.0)) c.live) ≡ o
        → option_map (λ x. x.session) (live_of (filter (λ x. not (x.session.0 == l.session.0)) c.live ++ (record l { beat = c.clock }) ∷ []) j) ≡ Some s
        → (option_map (λ x. x.session) (live_of c.live j) ≡ Some s) ⊎ (nat_lt s.0 c.next_session ≡ false)
    back j s (Some x) g e =
        let f = ap (option_map (λ (y : Live). y.session)) (sym (find-before (is_of j) (filter (λ (y : Live). not (y.session.0 == l.session.0)) c.live) ((record l { beat = c.clock }) ∷ []) x g)) ∙ e in
        inl (back-without c.live l.session s j (few j) (ap (option_map (λ (y : Live). y.session)) g ∙ f))
    back j s None g e =
        inl (last (is_of j l) refl (ap (option_map (λ (y : Live). y.session)) (sym (find-behind (is_of j) (filter (λ (y : Live). not (y.session.0 == l.session.0)) c.live) ((record l { beat = c.clock }) ∷ []) g)) ∙ e))
      where
        last : (b : Bool) → is_of j l ≡ b → option_map (λ (y : Live). y.session) (if b then Some (record l { beat = c.clock }) else None) ≡ Some s → option_map (λ (y : Live). y.session) (live_of c.live j) ≡ Some s
        last true at w = ap (option_map (λ (y : Live). y.session)) (find-single (is_of i) (is_of j) c.live l found at (few j)) ∙ w
        last false at w = cc

-- a message that is sent
sent_like : (mail : List Message) (m n : Message) (t : SessionId) (p : PartId) → message_of (mail ++ m ∷ []) t p ≡ Some n → (message_of mail t p ≡ Some n) ⊎ (n ≡ m)
sent_like mail m n t p is = one (message_of mail t p) refl
  where
    last : (b : Bool) → (if b then Some m else None) ≡ Some n → n ≡ m
    last true e = cc
    last false e = cc

    one : (o : Option Message) → message_of mail t p ≡ o → (message_of mail t p ≡ Some n) ⊎ (n ≡ m)
    one None e = inr (last (is_message t p m) (sym (find-behind (is_message t p) mail (m ∷ []) e) ∙ is))
    one (Some x) e = let f = sym (find-before (is_message t p) mail (m ∷ []) x e) ∙ is in inl (e ∙ f)

module _ (c : Cluster) (q : Proposal) (k : IsKept c) (ws : List Participant) (jobs : List Job) (bag : List Message) (s : AreInStep c ws jobs bag) where
  sent_in_step : (id : MsgId) → id ≡ record { 0 = c.next_msg } → AreInStep (after_placed c q (placings.Sent id)) ws jobs bag
  sent_in_step id is = record {
    each = λ i. let p = s.each i in let w = of_instance ws i in record {
      distinct = p.distinct;
      below = p.below;
      own = p.own;
      slots = slots i w p.slots;
      along = λ t mine live. let a = p.along t mine live in record {
        rows = a.rows;
        mail = λ r n e. known w t r n (a.mail r n) (placed_live c bag jobs i w p t mine live r).last (sent_like c.mail m n t r e);
      };
      free = λ t e. free w t (p.free t e);
    };
    held = each-le (IsHeldJob c ws jobs) (IsHeldJob d ws jobs)
        (λ j h. record { only = h.only; out = h.out; taken = λ live. let t = h.taken live in record { now = t.now; found = before j.message.session j.message.part t.now t.found; taken = record { same = t.taken.same; taken = t.taken.taken; written = t.taken.written; ended = t.taken.ended }; row = t.row } }) jobs s.held;
    bagged = each-le (IsInBag c ws) (IsInBag d ws)
        (λ b h. in_bag_like c d ws ws b parts (omega arith) (omega arith) (λ live. pending b (h.pending live)) (λ t r n e f. same b h t r n f (sent_like c.mail m n t r e)) h) bag s.bagged;
    numbers = s.numbers;
    mail = λ t r n e. sent t r n (sent_like c.mail m n t r e);
    first = let f = s.first in omega arith;
  }
    where
      m : Message
      m = message_from c id q

      d : Cluster
      d = after_placed c q (placings.Sent id)

      parts : HasParts c (after_placed c q (placings.Sent id))
      parts = same_parts c (after_placed c q (placings.Sent id)) refl refl

      before : (t : SessionId) (r : PartId) (n : Message) → message_of c.mail t r ≡ Some n → message_of (c.mail ++ message_from c id q ∷ []) t r ≡ Some n
      before t r n e = find-before (is_message t r) c.mail (message_from c id q ∷ []) n e

      slots : (i : InstanceId) (w : Participant) → IsStale c bag w ⊎ ((r : PartId) → HasSlot c bag jobs i w.session r (slot_of w r))
          → IsStale (after_placed c q (placings.Sent id)) bag w ⊎ ((r : PartId) → HasSlot (after_placed c q (placings.Sent id)) bag jobs i w.session r (slot_of w r))
      slots i w (inl stale) = inl (record { idle = stale.idle; dead = stale.dead; apart = stale.apart })
      slots i w (inr each) = inr (λ r. slot_like c (after_placed c q (placings.Sent id)) bag bag jobs jobs i w.session r (slot_of w r) parts (omega arith)
          (work_like c (after_placed c q (placings.Sent id)) bag bag jobs jobs i w.session r (slot_of w r) (slot_of w r).work (λ n e. e) (λ n h e f. f)
          (λ n mine of e u. let x = u e in record { now = x.now; found = before n.session n.part x.now x.found; same = x.same; untaken = x.untaken }) (each r).work) (each r))

      number : id.0 ≡ c.next_msg
      number = ap (λ (x : MsgId). x.0) is

      known : (w : Participant) (t : SessionId) (r : PartId) (n : Message) → (message_of c.mail t r ≡ Some n → is_known_at (slot_of w r) n ≡ true) → nat_lt (slot_of w r).last.0 c.next_msg ≡ true
          → (message_of c.mail t r ≡ Some n) ⊎ (n ≡ message_from c id q) → is_known_at (slot_of w r) n ≡ true
      known w t r n old low (inl e) = old e
      known w t r n old low (inr e) =
          subst (λ (x : Message). is_known_at (slot_of w r) x ≡ true) (sym e) (new_known (slot_of w r) (message_from c id q) refl (let at = number in grind (arith, nat_tests, low, at)))

      free : (w : Participant) (t : SessionId) → (w.session ≡ Some t) ⊎ IsUntouched c t → (w.session ≡ Some t) ⊎ IsUntouched (after_placed c q (placings.Sent id)) t
      free w t (inl mine) = inl mine
      free w t (inr u) = inr (record { rows = u.rows; mail = λ r n e. untaken t r n u (sent_like c.mail (message_from c id q) n t r e) })
        where
          untaken : (t : SessionId) (r : PartId) (n : Message) → IsUntouched c t → (message_of c.mail t r ≡ Some n) ⊎ (n ≡ message_from c id q) → n.taken ≡ false
          untaken t r n u (inl e) = u.mail r n e
          untaken t r n u (inr e) = ap (λ (x : Message). x.taken) e

      pending : (b : Message) → IsPending c b ⊎ IsOldIn ws b → IsPending (after_placed c q (placings.Sent id)) b ⊎ IsOldIn ws b
      pending b (inl p) = inl (record { now = p.now; found = before b.session b.part p.now p.found; same = p.same })
      pending b (inr o) = inr o

      same : (b : Message) → IsInBag c ws b → (t : SessionId) (r : PartId) (n : Message) → (n.id.0 == b.id.0) ≡ true → (message_of c.mail t r ≡ Some n) ⊎ (n ≡ message_from c id q) → is_same b n ≡ true
      same b h t r n f (inl e) = h.same t r n e f
      same b h t r n f (inr e) =
          let low = h.id in
          let its : n.id.0 ≡ id.0 = ap (λ (x : Message). x.id.0) e in
          let at = number in
          absurd (let no : true ≡ false = grind (arith, nat_tests, low, its, at, f) in (cc))

      sent : (t : SessionId) (r : PartId) (n : Message) → (message_of c.mail t r ≡ Some n) ⊎ (n ≡ message_from c id q) → IsSent (after_placed c q (placings.Sent id)) n
      sent t r n (inl e) = let x = s.mail t r n e in record { number = x.number; initial = x.initial }
      sent t r n (inr e) =
          subst (λ (x : Message). IsSent (after_placed c q (placings.Sent id)) x) (sym e) (record { number = (let f = s.first in let at = number in omega arith); initial = refl })

  placed_in_step : (a : Placed) → placed_of c q ≡ a → AreInStep (after_placed c q a) ws jobs bag
  placed_in_step (placings.Sent id) is = sent_in_step id (sent_next c q 0 c.rules id (room_from c q id is).throttles)
  placed_in_step _ is = s

-- steps
module _ (ws : List Participant) (jobs : List Job) (bag : List Message) where
  all_ended : (c : Cluster) (ss : List SessionId) → IsKept c → ((i : InstanceId) → count (is_of i) c.live ≤ 1) → AreInStep c ws jobs bag → AreInStep (without_all c ss) ws jobs bag
  all_ended c [] k few s = s
  all_ended c (u ∷ ss) k few s =
      let l = kept_without c u k in
      all_ended (without c u) ss l (λ i. let one = few i in let less = count-filter (is_of i) (λ (x : Live). not (x.session.0 == u.0)) c.live in omega arith)
      (quiet_in_step c (without c u) k l (without_quiet c u few) ws jobs bag s)

  beside_in_step : (c d : Cluster) → IsKept c → IsKept d → IsOn c d → IsBeside c d → AreInStep c ws jobs bag → AreInStep d ws jobs bag
  beside_in_step c d k l on b s = quiet_in_step c d k l (beside_quiet c d on b.live b.rows b.mail b.next_session b.next_msg) ws jobs bag s

  step_in_step : (c : Cluster) (step : Admin) (did : _) → IsWhole c → IsStep c (events.Admin step did) → AreInStep c ws jobs bag → AreInStep (after c step) ws jobs bag
  step_in_step c step did w is s = one step is (whole_next c (events.Admin step did) w is).kept (on_next c (events.Admin step did) w.kept.numbers)
    where
      ended : (o : Option Live) → IsKept (ended_of c o) → AreInStep (ended_of c o) ws jobs bag
      ended None l = s
      ended (Some x) l = quiet_in_step c (without c x.session) w.kept l (without_quiet c x.session w.seated.instances) ws jobs bag s

      beaten : (i : InstanceId) (o : Option Live) → live_of c.live i ≡ o → IsKept (beaten_of c o) → AreInStep (beaten_of c o) ws jobs bag
      beaten i None found l = s
      beaten i (Some x) found l = quiet_in_step c (beaten_of c (Some x)) w.kept l (beat_quiet c i x w.kept w.seated.instances found) ws jobs bag s

      asked : (p : PartId) (o : Option Live) → IsKept (asked_of c p o) → IsOn c (asked_of c p o) → AreInStep (asked_of c p o) ws jobs bag
      asked p None l on = s
      asked p (Some x) l on = quiet_in_step c (asked_of c p (Some x)) w.kept l (beside_quiet c (asked_of c p (Some x)) on refl refl refl refl refl) ws jobs bag s

      one : (a : Admin) → IsStep c (events.Admin a did) → IsKept (after c a) → IsOn c (after c a) → AreInStep (after c a) ws jobs bag
      one (steps.Join i) is l on = quiet_in_step c (after c (steps.Join i)) w.kept l (join_quiet c i) ws jobs bag s
      one (steps.End i) is l on = ended (live_of c.live i) l
      one (steps.Beat i) is l on = beaten i (live_of c.live i) refl l
      one (steps.Tick n) is l on =
          let cl : Cluster = record c { clock = c.clock + n } in
          let ck = kept_beside c c.instances c.leader c.epoch c.controllers (c.clock + n) c.line c.change c.posted w.kept in
          let s2 = quiet_in_step c cl w.kept ck (beside_quiet c cl (on_clock n) refl refl refl refl refl) ws jobs bag s in
          all_ended cl (ended_by c n) ck w.seated.instances s2
        where
          on_clock : (n : ℕ) → IsOn c (record c { clock = c.clock + n })
          on_clock n = let o = on_self c in record { models = o.models; rules = o.rules; resources = o.resources; replicas = o.replicas; epoch = o.epoch; next_session = o.next_session; live = o.live; instances = o.instances }
      one (steps.Reset i p) is l on = asked p (live_of c.live i) l on
      one (steps.Drain i) is l on = beside_in_step c (after c (steps.Drain i)) w.kept l on (beside_step c (steps.Drain i) refl) s
      one (steps.Undrain i) is l on = beside_in_step c (after c (steps.Undrain i)) w.kept l on (beside_step c (steps.Undrain i) refl) s
      one (steps.Add name model ideal) is l on = beside_in_step c (after c (steps.Add name model ideal)) w.kept l on (beside_step c (steps.Add name model ideal) refl) s
      one (steps.Drop r) is l on = beside_in_step c (after c (steps.Drop r)) w.kept l on (beside_step c (steps.Drop r) refl) s
      one (steps.SetList p list) is l on = beside_in_step c (after c (steps.SetList p list)) w.kept l on (beside_step c (steps.SetList p list) refl) s
      one (steps.SetMap p map) is l on = beside_in_step c (after c (steps.SetMap p map)) w.kept l on (beside_step c (steps.SetMap p map) refl) s
      one (steps.Lead n) is l on = beside_in_step c (after c (steps.Lead n)) w.kept l on (beside_step c (steps.Lead n) refl) s
      one (steps.Stop n) is l on = beside_in_step c (after c (steps.Stop n)) w.kept l on (beside_step c (steps.Stop n) refl) s
      one (steps.Start n) is l on = beside_in_step c (after c (steps.Start n)) w.kept l on (beside_step c (steps.Start n) refl) s

  dispatch_in_step : (c : Cluster) (n : ControllerId) (qs : List Proposal) → IsKept c → list_all (is_proposable c) qs ≡ true → AreInStep (next_pass c n) ws jobs bag → AreInStep (after_dispatch c n qs) ws jobs bag
  dispatch_in_step c n qs k all s =
      along_dispatch (λ d. AreInStep d ws jobs bag) (λ d q l e here. placed_in_step d q l ws jobs bag here (placed_of d q) refl) c n qs k all s

-- an event that is of the board alone: no take, no write and no acknowledgement
abbrev pub is_of_board : Event → Bool
is_of_board (events.Take s id) = false
is_of_board (events.Write s id outcome) = false
is_of_board (events.Ack s id) = false
is_of_board _ = true

pub board_in_step : (c : Cluster) (e : Event) (ws : List Participant) (jobs : List Job) (bag : List Message) → IsWhole c → IsStep c e → is_of_board e ≡ true → AreInStep c ws jobs bag
    → AreInStep (next c e) ws jobs bag
board_in_step c e ws jobs bag w is of s = one e is of (whole_next c e w is).kept (on_next c e w.kept.numbers)
  where
    passed : (n : ControllerId) → IsKept (next_pass c n) → IsOn c (next_pass c n) → AreInStep (next_pass c n) ws jobs bag
    passed n l on = beside_in_step ws jobs bag c (next_pass c n) w.kept l on (beside_pass c n) s

    one : (x : Event) → IsStep c x → is_of_board x ≡ true → IsKept (next c x) → IsOn c (next c x) → AreInStep (next c x) ws jobs bag
    one (events.Admin step did) is of l on = step_in_step ws jobs bag c step did w is s
    one (events.Begin n begun) is of l on = passed n l on
    one (events.Dispatch n epoch pass qs answer) is of l on =
        dispatch_in_step ws jobs bag c n qs w.kept is.0 (passed n (kept_raised c n w.kept) (on_next c (events.Begin n (begun_of c n)) w.kept.numbers))
    one (events.Line n) is of l on = quiet_in_step c (next c (events.Line n)) w.kept l (beside_quiet c (next c (events.Line n)) on refl refl refl refl refl) ws jobs bag s
    one (events.Post n epoch rows) is of l on = quiet_in_step c (next c (events.Post n epoch rows)) w.kept l (beside_quiet c (next c (events.Post n epoch rows)) on refl refl refl refl refl) ws jobs bag s
    one (events.Live n pass) is of l on = s
    one (events.Mail n pass u) is of l on = s
    one (events.States n pass u) is of l on = s
    one (events.Ideals n pass) is of l on = s
    one (events.Fetch i u n) is of l on = s
    one (events.Take u id) is of l on = cc
    one (events.Write u id outcome) is of l on = cc
    one (events.Ack u id) is of l on = cc
