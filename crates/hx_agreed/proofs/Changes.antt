-- One replica changes, with its slot, its message and its job: all else stays in step.
use Rattle.std.proofs.Common.{◌≡◌, ℕ, ◌<◌, ◌&&◌, ◌==◌, Bool, true, false, List, map, Option, Some, ◌⊎◌, inl, inr, refl, sym, ap, ◌∙◌, subst, arith}
use Rattle.std.specs.Prelude.{unwrap_or, nat_le}
use Rattle.std.specs.List.{list_any}
use Rattle.std.specs.Option.{option_map}
use Rattle.std.proofs.lemmas.Bool.Decides.{nat_tests}
use Rattle.hx_ids.specs.declared.InstanceId.{InstanceId}
use Rattle.hx_ids.specs.declared.SessionId.{SessionId}
use Rattle.hx_ids.specs.declared.MsgId.{MsgId}
use Rattle.hx_ids.specs.declared.PartId.{PartId}
use Rattle.hx_ids.specs.declared.Live.{Live}
use Rattle.hx_model.specs.declared.ModelParts.{ModelParts}
use Rattle.hx_cluster.specs.declared.description.Resource.{Resource}
use Rattle.hx_cluster.specs.declared.state.Message.{Message}
use Rattle.hx_cluster.specs.declared.state.Cluster.{Cluster}
use Rattle.hx_cluster.specs.Ends.{part_eq, is_live, state_of, message_of, model_of}
use Rattle.hx_cluster.specs.Steps.{live_of, session_of}
use Rattle.hx_cluster.specs.Messages.{initial_of, is_same}
use Rattle.hx_replicas.specs.declared.slots.Work.{Work}
use Rattle.hx_replicas.specs.declared.slots.Work.TheVariants.{Out}
use Rattle.hx_replicas.specs.Participants.{Participant, Slot, slot_of, counts_as, is_out, is_session}
use Rattle.hx_replicas.specs.Layout.{AreDistinct}
use Rattle.hx_worlds.specs.World.{Job}
use Rattle.hx_worlds.specs.Agree.{is_below, is_known_at, StandsAsRow}
use Rattle.hx_safe.proofs.Counting.{and-first, and-second}
use Rattle.hx_safe.proofs.Ends.{session_same, part_same}
use Rattle.hx_safe.proofs.Kept.{IsKept}
use Rattle.hx_safe.proofs.Calming.{same_self}
use Rattle.hx_agreed.specs.InStep.{Each, of_instance, IsPending, is_lent_as, HasWork, HasSlot, IsAlong, IsUntouched, IsPlaced, IsHeldJob, IsOldIn, IsInBag, IsSent, AreInStep}
use Rattle.hx_agreed.proofs.Lists.{each-le}
use Rattle.hx_agreed.proofs.Slots.{part_sym}
use Rattle.hx_safe.proofs.Sessions.{session_live}
use Rattle.hx_agreed.proofs.Frames.{same_is, same_initial, same_both, IsLike, HasParts, untouched_like, one_instance, work_like, slot_like, row_like, placed_like, in_bag_like}
use Rattle.hx_agreed.proofs.Quiet.{same_parts}

pub instance_same : (i j : InstanceId) → (i.0 == j.0) ≡ true → i ≡ j
instance_same i j e = let same : i.0 ≡ j.0 = grind (arith, nat_tests, e) in ap (λ (n : ℕ). record { 0 = n }) same

-- what such a change leaves
abbrev pub is_replica : SessionId → PartId → SessionId → PartId → Bool
is_replica s q t p = (t.0 == s.0) && part_eq p q

-- a message was pending, but for its marks
pub record WasPending (c : Cluster) (s : SessionId) (q : PartId) (n : Message) : Type 0 where
  pub before : Message
  pub found : message_of c.mail s q ≡ Some before
  pub same : is_same before n ≡ true

-- what a change leaves of a cluster
pub record HasSameBoard (c d : Cluster) : Type 0 where
  pub live : d.live ≡ c.live
  pub sessions : d.next_session ≡ c.next_session
  pub messages : d.next_msg ≡ c.next_msg
  pub models : d.models ≡ c.models
  pub resources : d.resources ≡ c.resources

-- and what it changes beside the participant
pub record IsBoardChange (c d : Cluster) (ws ws' : List Participant) (jobs jobs' : List Job) (bag : List Message) (i : InstanceId) (s : SessionId) (q : PartId) : Type 0 where
  pub same : HasSameBoard c d
  pub rows : (t : SessionId) (p : PartId) → is_replica s q t p ≡ false → state_of d.rows t p ≡ state_of c.rows t p
  pub mail : (t : SessionId) (p : PartId) → is_replica s q t p ≡ false → message_of d.mail t p ≡ message_of c.mail t p
  pub lent : (j : InstanceId) (m : Message) (is_held : Bool) → (i.0 == j.0) ≡ false → list_any (is_lent_as j m is_held) jobs ≡ true → list_any (is_lent_as j m is_held) jobs' ≡ true
  pub lent_here : (p : PartId) (m : Message) (is_held : Bool) → part_eq q p ≡ false → HasWork c bag jobs i (Some s) p (slot_of (of_instance ws i) p) (Out m is_held)
      → list_any (is_lent_as i m is_held) jobs ≡ true → list_any (is_lent_as i m is_held) jobs' ≡ true
  pub before : (n : Message) → message_of d.mail s q ≡ Some n → WasPending c s q n
  pub pending : (b : Message) → b.session ≡ s → b.part ≡ q → IsInBag c ws b → IsPending c b → IsPending d b ⊎ IsOldIn ws' b

-- a participant that changes alone leaves all that
pub board_stays : (c : Cluster) (ws ws' : List Participant) (jobs : List Job) (bag : List Message) (i : InstanceId) (s : SessionId) (q : PartId) → IsBoardChange c c ws ws' jobs jobs bag i s q
board_stays c ws ws' jobs bag i s q = record {
  same = record { live = refl; sessions = refl; messages = refl; models = refl; resources = refl };
  rows = λ t p e. refl;
  mail = λ t p e. refl;
  lent = λ j m is_held e is. is;
  lent_here = λ p m is_held e its is. is;
  before = λ n found. record { before = n; found = found; same = same_self n };
  pending = λ b of at its p. inl p;
}

pub record IsChange (c d : Cluster) (ws ws' : List Participant) (jobs jobs' : List Job) (bag : List Message) (i : InstanceId) (s : SessionId) (q : PartId) : Type 0 where
  pub others : (j : InstanceId) → (i.0 == j.0) ≡ false → of_instance ws' j ≡ of_instance ws j
  pub mine : (of_instance ws i).session ≡ Some s
  pub session : (of_instance ws' i).session ≡ Some s
  pub active : (p : PartId) → HasSlot c bag jobs i (of_instance ws i).session p (slot_of (of_instance ws i) p)
  pub distinct : AreDistinct (map (λ x. x.part) (of_instance ws' i).slots)
  pub slots : (p : PartId) → part_eq q p ≡ false → slot_of (of_instance ws' i) p ≡ slot_of (of_instance ws i) p
  pub board : IsBoardChange c d ws ws' jobs jobs' bag i s q
  pub slot : HasSlot d bag jobs' i (Some s) q (slot_of (of_instance ws' i) q)
  pub row_here : is_live c.live s ≡ true → is_out (slot_of (of_instance ws' i) q).work ≡ false → StandsAsRow d (of_instance ws' i) s q
  pub mail_here : is_live c.live s ≡ true → (n : Message) → message_of d.mail s q ≡ Some n → is_known_at (slot_of (of_instance ws' i) q) n ≡ true
  pub last : nat_le (slot_of (of_instance ws i) q).last.0 (slot_of (of_instance ws' i) q).last.0 ≡ true
  pub jobs_held : Each (IsHeldJob d ws' jobs') jobs'

module _ (c d : Cluster) (ws ws' : List Participant) (jobs jobs' : List Job) (bag : List Message) (i : InstanceId) (s : SessionId) (q : PartId) (k : IsKept c) (a : AreInStep c ws jobs bag)
    (h : IsChange c d ws ws' jobs jobs' bag i s q) where
  parts : HasParts c d
  parts = same_parts c d h.board.same.models h.board.same.resources

  sessions_same : (j : InstanceId) → session_of d j ≡ session_of c j
  sessions_same j = ap (λ (ls : List Live). option_map (λ l. l.session) (live_of ls j)) h.board.same.live

  live_before : (t : SessionId) → is_live d.live t ≡ true → is_live c.live t ≡ true
  live_before t is = subst (λ (ls : List Live). is_live ls t ≡ true) h.board.same.live is

  -- another session's replicas are as they were
  other_like : (t : SessionId) → (t.0 == s.0) ≡ false → IsLike c d t
  other_like t other = record { rows = λ p. h.board.rows t p (grind (arith, other)); mail = λ p. h.board.mail t p (grind (arith, other)) }

  -- the session is that of its instance alone
  other_session : (j : InstanceId) → (i.0 == j.0) ≡ false → (t : SessionId) → session_of c j ≡ Some t → (t.0 == s.0) ≡ false
  other_session j other t is = one (t.0 == s.0) refl
    where
      one : (b : Bool) → (t.0 == s.0) ≡ b → b ≡ false
      one false e = refl
      one true e =
          let same = session_same t s e in
          let its : session_of c j ≡ Some s = subst (λ (u : SessionId). session_of c j ≡ Some u) same is in
          let own = (a.each i).own s h.mine (session_live c j s its) in
          let yes = one_instance c k i j s own its in
          cc

  free_other : (j : InstanceId) → (i.0 == j.0) ≡ false → (t : SessionId) → session_of d j ≡ Some t → ((of_instance ws j).session ≡ Some t) ⊎ IsUntouched d t
  free_other j other t is = one ((a.each j).free t before)
    where
      before : session_of c j ≡ Some t
      before = sym (sessions_same j) ∙ is

      one : ((of_instance ws j).session ≡ Some t) ⊎ IsUntouched c t → ((of_instance ws j).session ≡ Some t) ⊎ IsUntouched d t
      one (inl mine) = inl mine
      one (inr u) = inr (untouched_like c d t (other_like t (other_session j other t before)) u)

  placed_other : (j : InstanceId) → (i.0 == j.0) ≡ false → IsPlaced d bag jobs' j (of_instance ws j)
  placed_other j other =
      placed_like c d bag bag jobs jobs' j (of_instance ws j) k parts (let e = h.board.same.messages in omega arith) (let e = h.board.same.sessions in omega arith) (λ m is. is) (λ m is_held is. h.board.lent j m is_held other is)
      (λ t mine live. let l = live_before t live in (l, (λ is. sessions_same j ∙ is), other_like t (other_session j other t ((a.each j).own t mine l))))
      (free_other j other) (λ stale. stale.apart) (a.each j)

  -- the participant itself
  slot_other : (p : PartId) → part_eq q p ≡ false → HasSlot d bag jobs' i (Some s) p (slot_of (of_instance ws i) p)
  slot_other p other =
      let w = of_instance ws i in
      let x = slot_of w p in
      let old : HasSlot c bag jobs i (Some s) p x = subst (λ (o : Option SessionId). HasSlot c bag jobs i o p x) h.mine (h.active p) in
      slot_like c d bag bag jobs jobs' i (Some s) p x parts (let e = h.board.same.messages in omega arith) (work x.work old.work) old
    where
      work : (w : Work) → HasWork c bag jobs i (Some s) p (slot_of (of_instance ws i) p) w → HasWork d bag jobs' i (Some s) p (slot_of (of_instance ws i) p) w
      work w its =
          work_like c d bag bag jobs jobs' i (Some s) p (slot_of (of_instance ws i) p) w (λ m is. is)
          (λ m is_held e is. h.board.lent_here p m is_held other (subst (λ (v : Work). HasWork c bag jobs i (Some s) p (slot_of (of_instance ws i) p) v) e its) is)
          (λ m mine of live u. let o = u (live_before m.session live) in
          record { now = o.now; found = h.board.mail m.session m.part (let e = part_sym m.part q in let f : part_eq q m.part ≡ false = ap (part_eq q) of ∙ other in grind (arith, e, f)) ∙ o.found; same = o.same; untaken = o.untaken })
          its

  slot_now : (p : PartId) → HasSlot d bag jobs' i (Some s) p (slot_of (of_instance ws' i) p)
  slot_now p = one (part_eq q p) refl
    where
      one : (b : Bool) → part_eq q p ≡ b → HasSlot d bag jobs' i (Some s) p (slot_of (of_instance ws' i) p)
      one true is = subst (λ (r : PartId). HasSlot d bag jobs' i (Some s) r (slot_of (of_instance ws' i) r)) (part_same q p is) h.slot
      one false is = subst (λ (x : Slot). HasSlot d bag jobs' i (Some s) p x) (sym (h.slots p is)) (slot_other p is)

  along_now : is_live c.live s ≡ true → IsAlong d (of_instance ws' i) s
  along_now live = record { rows = λ p out. row (part_eq q p) p refl out; mail = λ p n is. known (part_eq q p) p refl n is }
    where
      old : IsAlong c (of_instance ws i) s
      old = (a.each i).along s h.mine live

      elsewhere : (p : PartId) → part_eq q p ≡ false → is_replica s q s p ≡ false
      elsewhere p is = let e = part_sym p q in grind (arith, e, is)

      row : (b : Bool) (p : PartId) → part_eq q p ≡ b → is_out (slot_of (of_instance ws' i) p).work ≡ false → StandsAsRow d (of_instance ws' i) s p
      row true p is out =
          let same = part_same q p is in
          subst (λ (r : PartId). StandsAsRow d (of_instance ws' i) s r) same (h.row_here live (subst (λ (r : PartId). is_out (slot_of (of_instance ws' i) r).work ≡ false) (sym same) out))
      row false p is out =
          subst (λ (x : Slot). counts_as x (initial_of d p) ≡ unwrap_or (state_of d.rows s p) (initial_of d p)) (sym (h.slots p is))
          (row_like c d (slot_of (of_instance ws i) p) s p k parts (h.board.rows s p (elsewhere p is)) (h.active p).there
          (old.rows p (subst (λ (x : Slot). is_out x.work ≡ false) (h.slots p is) out)))

      known : (b : Bool) (p : PartId) → part_eq q p ≡ b → (n : Message) → message_of d.mail s p ≡ Some n → is_known_at (slot_of (of_instance ws' i) p) n ≡ true
      known true p is n found =
          let same = part_same q p is in
          subst (λ (r : PartId). is_known_at (slot_of (of_instance ws' i) r) n ≡ true) same (h.mail_here live n (subst (λ (r : PartId). message_of d.mail s r ≡ Some n) (sym same) found))
      known false p is n found =
          subst (λ (x : Slot). is_known_at x n ≡ true) (sym (h.slots p is)) (old.mail p n (sym (h.board.mail s p (elsewhere p is)) ∙ found))

  free_now : (t : SessionId) → session_of d i ≡ Some t → ((of_instance ws' i).session ≡ Some t) ⊎ IsUntouched d t
  free_now t is = one ((a.each i).free t (sym (sessions_same i) ∙ is))
    where
      two : (b : Bool) → (t.0 == s.0) ≡ b → IsUntouched c t → ((of_instance ws' i).session ≡ Some t) ⊎ IsUntouched d t
      two true e u = inl (h.session ∙ ap (λ (x : SessionId). Some x) (sym (session_same t s e)))
      two false e u = inr (untouched_like c d t (other_like t e) u)

      one : ((of_instance ws i).session ≡ Some t) ⊎ IsUntouched c t → ((of_instance ws' i).session ≡ Some t) ⊎ IsUntouched d t
      one (inl mine) = inl (h.session ∙ sym h.mine ∙ mine)
      one (inr u) = two (t.0 == s.0) refl u

  placed_now : IsPlaced d bag jobs' i (of_instance ws' i)
  placed_now = record {
    distinct = h.distinct;
    below = subst (λ (n : ℕ). is_below n (of_instance ws' i).session ≡ true) (sym h.board.same.sessions) (subst (λ (o : Option SessionId). is_below c.next_session o ≡ true) (h.mine ∙ sym h.session) (a.each i).below);
    own = λ t is live. sessions_same i ∙ (a.each i).own t (h.mine ∙ sym h.session ∙ is) (live_before t live);
    slots = inr (λ p. subst (λ (o : Option SessionId). HasSlot d bag jobs' i o p (slot_of (of_instance ws' i) p)) (sym h.session) (slot_now p));
    along = λ t is live. let same : s ≡ t = some_is s t (sym h.session ∙ is) in
        subst (λ (u : SessionId). IsAlong d (of_instance ws' i) u) same (along_now (subst (λ (u : SessionId). is_live c.live u ≡ true) (sym same) (live_before t live)));
    free = free_now;
  }
    where
      some_is : (x y : SessionId) → Some x ≡ Some y → x ≡ y
      some_is x y e = (cc)

  each_now : (j : InstanceId) → IsPlaced d bag jobs' j (of_instance ws' j)
  each_now j = one (i.0 == j.0) refl
    where
      one : (b : Bool) → (i.0 == j.0) ≡ b → IsPlaced d bag jobs' j (of_instance ws' j)
      one true is = subst (λ (x : InstanceId). IsPlaced d bag jobs' x (of_instance ws' x)) (instance_same i j is) placed_now
      one false is = subst (λ (w : Participant). IsPlaced d bag jobs' j w) (sym (h.others j is)) (placed_other j is)

  -- the bag and the mail
  old_now : (b : Message) → IsOldIn ws b → IsOldIn ws' b
  old_now b o = one (i.0 == o.instance.0) refl
    where
      low : (p : Bool) → part_eq q b.part ≡ p → nat_le b.id.0 (slot_of (of_instance ws i) b.part).last.0 ≡ true → nat_le b.id.0 (slot_of (of_instance ws' i) b.part).last.0 ≡ true
      low true e is =
          let same = part_same q b.part e in
          let up : nat_le (slot_of (of_instance ws i) b.part).last.0 (slot_of (of_instance ws' i) b.part).last.0 ≡ true
          = subst (λ (r : PartId). nat_le (slot_of (of_instance ws i) r).last.0 (slot_of (of_instance ws' i) r).last.0 ≡ true) same h.last in
          grind (arith, nat_tests, is, up)
      low false e is = subst (λ (x : Slot). nat_le b.id.0 x.last.0 ≡ true) (sym (h.slots b.part e)) is

      one : (x : Bool) → (i.0 == o.instance.0) ≡ x → IsOldIn ws' b
      one true e =
          let same = instance_same i o.instance e in
          record {
            instance = i;
            session = subst (λ (m : Option SessionId). is_session m b.session ≡ true) (h.mine ∙ sym h.session) (subst (λ (j : InstanceId). is_session (of_instance ws j).session b.session ≡ true) (sym same) o.session);
            last = low (part_eq q b.part) refl (subst (λ (j : InstanceId). nat_le b.id.0 (slot_of (of_instance ws j) b.part).last.0 ≡ true) (sym same) o.last);
          }
      one false e = record {
        instance = o.instance;
        session = subst (λ (w : Participant). is_session w.session b.session ≡ true) (sym (h.others o.instance e)) o.session;
        last = subst (λ (w : Participant). nat_le b.id.0 (slot_of w b.part).last.0 ≡ true) (sym (h.others o.instance e)) o.last;
      }

  -- each message that is pending was
  was : (t : SessionId) (p : PartId) (n : Message) → message_of d.mail t p ≡ Some n → WasPending c t p n
  was t p n is = one (is_replica s q t p) refl
    where
      one : (b : Bool) → is_replica s q t p ≡ b → WasPending c t p n
      one true e =
          let ts = session_same t s (and-first (t.0 == s.0) (part_eq p q) e) in
          let pq = part_same p q (and-second (t.0 == s.0) (part_eq p q) e) in
          subst (λ (u : SessionId). WasPending c u p n) (sym ts) (subst (λ (r : PartId). WasPending c s r n) (sym pq)
          (h.board.before n (subst (λ (u : SessionId). message_of d.mail u q ≡ Some n) ts (subst (λ (r : PartId). message_of d.mail t r ≡ Some n) pq is))))
      one false e = record { before = n; found = sym (h.board.mail t p e) ∙ is; same = same_self n }

  pending_now : (b : Message) → IsInBag c ws b → is_live d.live b.session ≡ true → IsPending d b ⊎ IsOldIn ws' b
  pending_now b its live = one (its.pending (live_before b.session live))
    where
      two : (x : Bool) → is_replica s q b.session b.part ≡ x → IsPending c b → IsPending d b ⊎ IsOldIn ws' b
      two true e p =
          h.board.pending b (session_same b.session s (and-first (b.session.0 == s.0) (part_eq b.part q) e)) (part_same b.part q (and-second (b.session.0 == s.0) (part_eq b.part q) e)) its p
      two false e p = inl (record { now = p.now; found = h.board.mail b.session b.part e ∙ p.found; same = p.same })

      one : IsPending c b ⊎ IsOldIn ws b → IsPending d b ⊎ IsOldIn ws' b
      one (inl p) = two (is_replica s q b.session b.part) refl p
      one (inr o) = inr (old_now b o)

  same_now : (b : Message) → IsInBag c ws b → (t : SessionId) (p : PartId) (n : Message) → message_of d.mail t p ≡ Some n → (n.id.0 == b.id.0) ≡ true → is_same b n ≡ true
  same_now b its t p n is e =
      let w = was t p n is in
      let ids : w.before.id ≡ n.id = (same_is w.before n w.same).id in
      same_both b w.before n (its.same t p w.before w.found (subst (λ (x : MsgId). (x.0 == b.id.0) ≡ true) (sym ids) e)) w.same

  sent_now : (t : SessionId) (p : PartId) (n : Message) → message_of d.mail t p ≡ Some n → IsSent d n
  sent_now t p n is =
      let w = was t p n is in
      let x = same_is w.before n w.same in
      let old = a.mail t p w.before w.found in
      record {
        number = subst (λ (id : MsgId). 0 < id.0) x.id old.number;
        initial = sym (same_initial w.before n w.same) ∙ old.initial ∙ ap (λ (r : PartId). initial_of c r) x.part ∙ initial n.part;
      }
    where
      initial : (r : PartId) → initial_of c r ≡ initial_of d r
      initial r =
          ap (λ (ms : List ModelParts). (model_of ms c.resources r.resource).initial) (sym h.board.same.models) ∙ ap (λ (rs : List Resource). (model_of d.models rs r.resource).initial) (sym h.board.same.resources)

  pub change_in_step : AreInStep d ws' jobs' bag
  change_in_step = record {
    each = each_now;
    held = h.jobs_held;
    bagged = each-le (IsInBag c ws) (IsInBag d ws')
        (λ b its. in_bag_like c d ws ws' b parts (let e = h.board.same.messages in omega arith) (let e = h.board.same.sessions in omega arith) (pending_now b its) (same_now b its) its) bag a.bagged;
    numbers = a.numbers;
    mail = sent_now;
    first = let e = h.board.same.messages in let f = a.first in omega arith;
  }
