-- What is in step agrees.
use Rattle.std.proofs.Common.{◌≡◌, ℕ, ◌<◌, ◌&&◌, ◌||◌, ◌==◌, not, Bool, true, false, List, find, length, Option, Some, None, ◌⊎◌, inl, inr, refl, sym, ap, ◌∙◌, subst, arith}
use Rattle.std.specs.Prelude.{slice_index_or, nat_le, IsSomeAnd}
use Rattle.std.specs.List.{list_any, list_all, All}
use Rattle.std.specs.Option.{option_map}
use Rattle.hx_ids.specs.declared.InstanceId.{InstanceId}
use Rattle.hx_ids.specs.declared.StateId.{StateId}
use Rattle.hx_ids.specs.declared.SessionId.{SessionId}
use Rattle.hx_ids.specs.declared.PartId.{PartId}
use Rattle.hx_ids.specs.declared.Live.{Live}
use Rattle.hx_cluster.specs.declared.state.Row.{Row}
use Rattle.hx_cluster.specs.declared.state.Message.{Message}
use Rattle.hx_cluster.specs.declared.state.Cluster.{Cluster}
use Rattle.hx_cluster.specs.Ends.{part_eq, is_row, is_message, is_live, row_of, state_of, message_of}
use Rattle.hx_cluster.specs.Steps.{is_of}
use Rattle.hx_cluster.specs.Messages.{is_same}
use Rattle.hx_cluster.specs.Safe.{IsSafe}
use Rattle.hx_replicas.specs.declared.slots.Work.{Work}
use Rattle.hx_replicas.specs.declared.slots.Work.TheVariants.{Idle, Accepted, Out}
use Rattle.hx_replicas.specs.Participants.{Participant, Slot, new_participant, slot_of, is_session}
use Rattle.hx_replicas.proofs.Parts.{part_eq-self}
use Rattle.hx_worlds.specs.World.{Job}
use Rattle.hx_worlds.specs.Jobs.{is_job}
use Rattle.hx_worlds.specs.Agree
use Rattle.hx_safe.proofs.Counting.{and-first, and-second, and-both, find-passes, find-any, find-single, none-find}
use Rattle.hx_safe.proofs.Ends.{same-self, session_same}
use Rattle.hx_safe.proofs.Waiting.{any-le}
use Rattle.hx_agreed.specs.InStep.{Each, of_instance, IsPending, is_lent_as, HasWork, HasSlot, IsAlong, IsUntouched, IsStale, IsHeldJob, IsOldIn, IsInBag, AreInStep}
use Rattle.hx_agreed.proofs.Lists.{each-le, each-all, or-first, or-second, all_stationed, all_stationed_pass, any_stationed, in_range}
use Rattle.hx_safe.proofs.Counting.{all_found}
use Rattle.hx_agreed.proofs.Slots.{all_slots, is_mine, mine_is}
use Rattle.hx_agreed.proofs.Placed.{placed_work, placed_live}

-- a session in which nothing was done has no row, and no message that is taken
no_row : (o : Option Row) → option_map (λ r. r.state) o ≡ None → o ≡ None
no_row None e = refl
no_row (Some r) e = cc

module _ (c : Cluster) (safe : IsSafe c) where
  untouched_rows : (s : SessionId) → ((q : PartId) → state_of c.rows s q ≡ None) → list_any (λ r. r.session.0 == s.0) c.rows ≡ false
  untouched_rows s none = one (find (λ r. r.session.0 == s.0) c.rows) refl
    where
      one : (o : Option Row) → find (λ r. r.session.0 == s.0) c.rows ≡ o → list_any (λ r. r.session.0 == s.0) c.rows ≡ false
      one None is = none-find (λ r. r.session.0 == s.0) c.rows is
      one (Some r) is =
          let mine : (r.session.0 == s.0) ≡ true = find-passes (λ r. r.session.0 == s.0) c.rows r is in
          let there : list_any (is_row s r.part) c.rows ≡ true = find-any (λ r. r.session.0 == s.0) (is_row s r.part) c.rows r is (and-both _ _ mine (part_eq-self r.part)) in
          let gone : list_any (is_row s r.part) c.rows ≡ false = none-find (is_row s r.part) c.rows (no_row (row_of c.rows s r.part) (none r.part)) in
          cc

  message_at : (s : SessionId) (p : Message → Bool) (m : Message) → find p c.mail ≡ Some m → m.session ≡ s → message_of c.mail s m.part ≡ Some m
  message_at s p m is mine =
      find-single p (is_message s m.part) c.mail m is
      (and-both (m.session.0 == s.0) (part_eq m.part m.part) (subst (λ (t : SessionId). (m.session.0 == t.0) ≡ true) mine (same-self m.session.0)) (part_eq-self m.part))
      (safe.mail.single s m.part)

  untouched_mail : (s : SessionId) → ((q : PartId) (m : Message) → message_of c.mail s q ≡ Some m → m.taken ≡ false)
      → list_any (λ m. (m.session.0 == s.0) && m.taken) c.mail ≡ false
  untouched_mail s none = one (find (λ m. (m.session.0 == s.0) && m.taken) c.mail) refl
    where
      one : (o : Option Message) → find (λ m. (m.session.0 == s.0) && m.taken) c.mail ≡ o → list_any (λ m. (m.session.0 == s.0) && m.taken) c.mail ≡ false
      one None is = none-find (λ m. (m.session.0 == s.0) && m.taken) c.mail is
      one (Some m) is =
          let both : ((m.session.0 == s.0) && m.taken) ≡ true = find-passes (λ m. (m.session.0 == s.0) && m.taken) c.mail m is in
          let mine = session_same m.session s (and-first (m.session.0 == s.0) m.taken both) in
          let no = none m.part m (message_at s (λ m. (m.session.0 == s.0) && m.taken) m is mine) in
          let yes = and-second (m.session.0 == s.0) m.taken both in
          cc

  untouched : (s : SessionId) → IsUntouched c s → Agree.is_untouched c s ≡ true
  untouched s u =
      let rows = untouched_rows s u.rows in
      let mail = untouched_mail s u.mail in
      and-both _ _ (ap not rows) (ap not mail)

  -- messages that are found pass a test of the list
  pending_there : (p : Message → Bool) (s : SessionId) (q : PartId) (n : Message) → message_of c.mail s q ≡ Some n → p n ≡ true → list_any p c.mail ≡ true
  pending_there p s q n found is = find-any (is_message s q) p c.mail n found is

  module _ (ws : List Participant) (jobs : List Job) (bag : List Message) (s : AreInStep c ws jobs bag) where
    -- one of the participants
    mine_there : (p : Agree.Stationed → Bool) (i : InstanceId) (t : SessionId) → (of_instance ws i).session ≡ Some t
        → p (record { instance = i; plain = of_instance ws i }) ≡ true → list_any p (Agree.stationed_from 0 ws) ≡ true
    mine_there p i t mine is = one (in_range ws i.0)
      where
        one : (i.0 < length ws) ⊎ (slice_index_or ws i.0 new_participant ≡ new_participant) → list_any p (Agree.stationed_from 0 ws) ≡ true
        one (inl lt) = any_stationed p 0 ws i.0 i.0 (omega arith) lt is
        one (inr new) = let none : (of_instance ws i).session ≡ None = ap (λ (w : Participant). w.session) new in cc

    cared_for : (l : Live) → find (is_of l.instance) c.live ≡ Some l → Agree.is_cared_for c (Agree.stationed_from 0 ws) l ≡ true
    cared_for l found = one ((s.each l.instance).free l.session (ap (option_map (λ x. x.session)) found))
      where
        one : ((of_instance ws l.instance).session ≡ Some l.session) ⊎ IsUntouched c l.session → Agree.is_cared_for c (Agree.stationed_from 0 ws) l ≡ true
        one (inl mine) = or-first _ _ (mine_there (λ p. is_session p.plain.session l.session) l.instance l.session mine (is_mine (of_instance ws l.instance).session l.session mine))
        one (inr u) = or-second _ _ (untouched l.session u)

    others : list_all (Agree.is_cared_for c (Agree.stationed_from 0 ws)) c.live ≡ true
    others =
        all_found (λ (l x : Live). is_of l.instance x) (Agree.is_cared_for c (Agree.stationed_from 0 ws)) c.live
        (λ l. same-self l.instance.0) (λ l. safe.sessions.instances l.instance) cared_for

    -- at a place
    at_place : (P : Agree.Stationed → Type 0) → ((i : InstanceId) → P (record { instance = i; plain = of_instance ws i })) → All P (Agree.stationed_from 0 ws)
    at_place P h = all_stationed P 0 ws (λ k j e. let same : j ≡ k = omega arith in subst (λ (n : ℕ). P (record { instance = record { 0 = j }; plain = slice_index_or ws n new_participant })) same (h (record { 0 = j })))

    sessions : list_all (λ p. Agree.is_below c.next_session p.plain.session) (Agree.stationed_from 0 ws) ≡ true
    sessions =
        all_stationed_pass (λ p. Agree.is_below c.next_session p.plain.session) 0 ws
        (λ k j e. (s.each (record { 0 = k })).below)

    -- slots
    accepted_well : (i : InstanceId) (mine : Option SessionId) (q : PartId) (x : Slot) (w : Work) → HasWork c bag jobs i mine q x w → Agree.is_accepted_well c bag w ≡ true
    accepted_well i mine q x Idle h = refl
    accepted_well i mine q x (Out m is_held) h = refl
    accepted_well i mine q x (Accepted m) h = and-both _ _ h.bagged (one (is_live c.live m.session) refl)
      where
        one : (b : Bool) → is_live c.live m.session ≡ b → (not b || Agree.is_waiting c m) ≡ true
        one true live = let w = h.waits live in pending_there (λ n. is_same m n && not n.taken) m.session m.part w.now w.found (and-both _ _ w.same (ap not w.untaken))
        one false live = refl

    job_there : (i : InstanceId) (mine : Option SessionId) (q : PartId) (x : Slot) (w : Work) → HasWork c bag jobs i mine q x w → Agree.has_job jobs i x w ≡ true
    job_there i mine q x Idle h = refl
    job_there i mine q x (Accepted m) h = refl
    job_there i mine q x (Out m is_held) h =
        and-both _ _ (any-le (is_lent_as i m is_held) (is_job i m.id) (λ j is. and-first (is_job i m.id j) (is_same j.message m) (and-first _ _ is)) jobs h.job)
        (subst (λ (t : StateId). (x.state.0 == t.0) ≡ true) h.of.state (same-self x.state.0))

    slots_pass : (p : InstanceId → Slot → Bool) → ((i : InstanceId) (q : PartId) → p i (slot_of (of_instance ws i) q) ≡ true)
        → All (λ x. list_all (p x.instance) x.plain.slots ≡ true) (Agree.stationed_from 0 ws)
    slots_pass p h = at_place (λ x. list_all (p x.instance) x.plain.slots ≡ true) (λ i. all_slots (p i) (of_instance ws i).slots (s.each i).distinct (h i))

    -- the bag
    bagged : (m : Message) → IsInBag c ws m → Agree.IsBagged c (Agree.stationed_from 0 ws) m
    bagged m b = record { id = b.id; session = b.session; legal = b.legal; initial = b.initial; pending = λ live. one (b.pending live) }
      where
        one : IsPending c m ⊎ IsOldIn ws m → (Agree.is_pending_as c m || Agree.is_old (Agree.stationed_from 0 ws) m) ≡ true
        one (inl n) = or-first _ _ (pending_there (is_same m) m.session m.part n.now n.found n.same)
        one (inr o) =
            or-second _ _
            (mine_there (λ p. is_session p.plain.session m.session && nat_le m.id.0 (slot_of p.plain m.part).last.0) o.instance m.session (mine_is (of_instance ws o.instance).session m.session o.session)
            (and-both _ _ o.session o.last))

    -- jobs
    out_not_new : (i : InstanceId) (j : Job) (q : PartId) → Agree.is_lent_to j (slot_of (of_instance ws i) q).work ≡ true → i.0 < length ws
    out_not_new i j q is = one (in_range ws i.0)
      where
        one : (i.0 < length ws) ⊎ (slice_index_or ws i.0 new_participant ≡ new_participant) → i.0 < length ws
        one (inl lt) = lt
        one (inr new) = let no : Agree.is_lent_to j (slot_of new_participant q).work ≡ true = subst (λ (w : Participant). Agree.is_lent_to j (slot_of w q).work ≡ true) new is in cc

    open_job : (j : Job) → IsHeldJob c ws jobs j → Agree.IsOpenJob c (Agree.stationed_from 0 ws) jobs j
    open_job j h = record {
      only = h.only;
      out = any_stationed (λ p. (p.instance.0 == j.instance.0) && Agree.is_lent_to j (slot_of p.plain j.message.part).work) 0 ws j.instance.0 j.instance.0 (omega arith)
          (out_not_new j.instance j j.message.part h.out) (and-both _ _ (same-self j.instance.0) h.out);
      taken = λ live. let t = h.taken live in
          subst (λ (o : Option Message). IsSomeAnd o (Agree.IsTakenAs c j)) (sym t.found) t.taken;
    }

    -- sessions
    attached : (i : InstanceId) (t : SessionId) → (of_instance ws i).session ≡ Some t → is_live c.live t ≡ true → Agree.IsAttached c (record { instance = i; plain = of_instance ws i }) t
    attached i t mine live = record {
      own = (s.each i).own t mine live;
      parts = λ q. (placed_live c bag jobs i (of_instance ws i) (s.each i) t mine live q).used;
      numbers = λ q. (placed_live c bag jobs i (of_instance ws i) (s.each i) t mine live q).last;
      initial = λ q. (placed_live c bag jobs i (of_instance ws i) (s.each i) t mine live q).initial;
    }

    known : (i : InstanceId) (t : SessionId) → IsAlong c (of_instance ws i) t → list_all (Agree.is_known (of_instance ws i) t) c.mail ≡ true
    known i t a =
        all_found (λ (m n : Message). is_message m.session m.part n) (Agree.is_known (of_instance ws i) t) c.mail
        (λ m. and-both _ _ (same-self m.session.0) (part_eq-self m.part)) (λ m. safe.mail.single m.session m.part)
        (λ m found. one m found (m.session.0 == t.0) refl)
      where
        one : (m : Message) → find (is_message m.session m.part) c.mail ≡ Some m → (b : Bool) → (m.session.0 == t.0) ≡ b → Agree.is_known (of_instance ws i) t m ≡ true
        one m found true is = or-second _ _ (a.mail m.part m (subst (λ (u : SessionId). find (is_message u m.part) c.mail ≡ Some m) (session_same m.session t is) found))
        one m found false is = or-first _ _ (ap not is)

    open_in : (i : InstanceId) → Agree.IfLive c (record { instance = i; plain = of_instance ws i }) (Agree.IsOpenIn c (record { instance = i; plain = of_instance ws i }))
    open_in i t mine live =
        let a = (s.each i).along t mine live in
        record { attached = attached i t mine live; rows = a.rows; mail = known i t a }

    -- a message of a participant's session is like those that it accepted
    alike : (i : InstanceId) → IsStale c bag (of_instance ws i) ⊎ ((q : PartId) → HasSlot c bag jobs i (of_instance ws i).session q (slot_of (of_instance ws i) q)) → Each (Agree.LikeAccepted (of_instance ws i)) bag
    alike i (inl stale) =
        each-le (λ m. is_session (of_instance ws i).session m.session ≡ false) (Agree.LikeAccepted (of_instance ws i))
        (λ m other mine t is. absurd (let z : true ≡ false = sym mine ∙ other in (cc))) bag stale.apart
    alike i (inr each) = each-le (IsInBag c ws) (Agree.LikeAccepted (of_instance ws i)) (λ m b mine t is. (each m.part).initial t is ∙ sym b.initial) bag s.bagged

    -- all that AgreeOpen asks of participants, jobs and bag
    pub record IsAgreed : Type 0 where
      pub sessions : list_all (λ p. Agree.is_below c.next_session p.plain.session) (Agree.stationed_from 0 ws) ≡ true
      pub others : list_all (Agree.is_cared_for c (Agree.stationed_from 0 ws)) c.live ≡ true
      pub accepted : All (λ p. list_all (λ x. Agree.is_accepted_well c bag x.work) p.plain.slots ≡ true) (Agree.stationed_from 0 ws)
      pub bagged : All (Agree.IsBagged c (Agree.stationed_from 0 ws)) bag
      pub alike : All (λ p. All (Agree.LikeAccepted p.plain) bag) (Agree.stationed_from 0 ws)
      pub slots : All (λ p. list_all (λ x. Agree.has_job jobs p.instance x x.work) p.plain.slots ≡ true) (Agree.stationed_from 0 ws)
      pub each_job : All (Agree.IsOpenJob c (Agree.stationed_from 0 ws) jobs) jobs
      pub live : All (λ p. Agree.IfLive c p (Agree.IsOpenIn c p)) (Agree.stationed_from 0 ws)

    pub agreed : IsAgreed
    agreed = record {
      sessions = sessions;
      others = others;
      accepted = slots_pass (λ i x. Agree.is_accepted_well c bag x.work) (λ i q. let w = of_instance ws i in accepted_well i w.session q (slot_of w q) (slot_of w q).work (placed_work c bag jobs i w (s.each i) q));
      bagged = each-all (Agree.IsBagged c (Agree.stationed_from 0 ws)) bag (each-le (IsInBag c ws) (Agree.IsBagged c (Agree.stationed_from 0 ws)) bagged bag s.bagged);
      alike = at_place (λ p. All (Agree.LikeAccepted p.plain) bag)
          (λ i. each-all (Agree.LikeAccepted (of_instance ws i)) bag (alike i (s.each i).slots));
      slots = slots_pass (λ i x. Agree.has_job jobs i x x.work) (λ i q. let w = of_instance ws i in job_there i w.session q (slot_of w q) (slot_of w q).work (placed_work c bag jobs i w (s.each i) q));
      each_job = each-all (Agree.IsOpenJob c (Agree.stationed_from 0 ws) jobs) jobs (each-le (IsHeldJob c ws jobs) (Agree.IsOpenJob c (Agree.stationed_from 0 ws) jobs) open_job jobs s.held);
      live = at_place (λ p. Agree.IfLive c p (Agree.IsOpenIn c p)) open_in;
    }
