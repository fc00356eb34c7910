-- A world that is put together of parts that agree is in step.
use Rattle.std.proofs.Common.{◌≡◌, ℕ, zero, suc, ◌+◌, ◌<◌, ◌&&◌, ◌||◌, ◌==◌, not, Bool, true, false, List, [], ◌∷◌, find, length, Option, Some, None, ◌⊎◌, inl, inr, refl, sym, ◌∙◌, subst, arith}
use Rattle.std.specs.Prelude.{slice_index_or, unwrap_or, is_some, is_none, nat_lt}
use Rattle.std.specs.List.{All, list_any, list_all}
use Rattle.std.specs.Option.{option_map}
use Rattle.std.proofs.lemmas.List.Elements.{All-head, All-tail}
use Rattle.hx_ids.specs.declared.InstanceId.{InstanceId}
use Rattle.hx_ids.specs.declared.SessionId.{SessionId}
use Rattle.hx_ids.specs.declared.StateId.{StateId}
use Rattle.hx_ids.specs.declared.PartId.{PartId}
use Rattle.hx_ids.specs.declared.Live.{Live}
use Rattle.hx_cluster.specs.declared.state.Row.{Row}
use Rattle.hx_cluster.specs.declared.state.Message.{Message}
use Rattle.hx_cluster.specs.declared.state.Cluster.{Cluster}
use Rattle.hx_cluster.specs.Ends.{part_eq, is_row, is_message, is_live, row_of, message_of}
use Rattle.hx_cluster.specs.Steps.{is_of, live_of, session_of}
use Rattle.hx_replicas.specs.declared.slots.Work.{Work}
use Rattle.hx_replicas.specs.Participants.{Participant, Slot, new_participant, new_slot, slot_of, all_idle, is_session}
use Rattle.hx_worlds.specs.Agree
use Rattle.hx_safe.proofs.Counting.{and-first, and-second, all-find, find-any, find-passes}
use Rattle.hx_safe.proofs.Ends.{same-self}
use Rattle.hx_safe.proofs.Kept.{IsKept}
use Rattle.hx_agreed.specs.InStep.{of_instance, HasWork, HasSlot, IsAlong, IsUntouched, IsStale, AreInStep}
use Rattle.hx_agreed.specs.OfParts.{IsOrderly}
use Rattle.hx_agreed.proofs.Lists.{in_range}
use Rattle.hx_agreed.proofs.Slots.{mine_is}
use Rattle.hx_agreed.proofs.Placed.{idle_slot, idle_is}
use Rattle.hx_safe.proofs.Sessions.{session_live}
use Rattle.hx_agreed.proofs.Frames.{new_known, found_session, found_part, one_instance}
use Rattle.hx_agreed.proofs.Changes.{instance_same}
use Rattle.hx_agreed.proofs.Replicas.{with_session}
use Rattle.hx_agreed.proofs.Sent.{AreSent, found_sent}

-- participants at their places
at_place : (P : Agree.Stationed → Type 0) (n : ℕ) (ws : List Participant) → All P (Agree.stationed_from n ws)
    → (k j : ℕ) → j ≡ n + k → k < length ws → P (record { instance = record { 0 = j }; plain = slice_index_or ws k new_participant })
at_place P n [] all k j e lt = absurd (omega arith)
at_place P n (w ∷ ws) all zero j e lt =
    let same : n ≡ j = omega arith in
    subst (λ (i : ℕ). P (record { instance = record { 0 = i }; plain = w })) same (All-head P (record { instance = record { 0 = n }; plain = w }) (Agree.stationed_from (n + 1) ws) all)
at_place P n (w ∷ ws) all (suc k) j e lt =
    at_place P (n + 1) ws (All-tail P (record { instance = record { 0 = n }; plain = w }) (Agree.stationed_from (n + 1) ws) all) k j (omega arith) (omega arith)

passes_at : (p : Participant → Bool) (n : ℕ) (ws : List Participant) → list_all (λ x. p x.plain) (Agree.stationed_from n ws) ≡ true
    → (k : ℕ) → k < length ws → p (slice_index_or ws k new_participant) ≡ true
passes_at p n [] all k lt = absurd (omega arith)
passes_at p n (w ∷ ws) all zero lt = and-first (p w) (list_all (λ x. p x.plain) (Agree.stationed_from (n + 1) ws)) all
passes_at p n (w ∷ ws) all (suc k) lt = passes_at p (n + 1) ws (and-second (p w) (list_all (λ x. p x.plain) (Agree.stationed_from (n + 1) ws)) all) k (omega arith)

has_at : (s : SessionId) (n : ℕ) (ws : List Participant) → Agree.has_any s (Agree.stationed_from n ws) ≡ true
    → (k : ℕ) × (is_session (slice_index_or ws k new_participant).session s ≡ true)
has_at s n [] e = cc
has_at s n (w ∷ ws) e = one (is_session w.session s) refl e (has_at s (n + 1) ws)
  where
    one : (b : Bool) → is_session w.session s ≡ b → (b || Agree.has_any s (Agree.stationed_from (n + 1) ws)) ≡ true
        → (Agree.has_any s (Agree.stationed_from (n + 1) ws) ≡ true → (k : ℕ) × (is_session (slice_index_or ws k new_participant).session s ≡ true))
        → (k : ℕ) × (is_session (slice_index_or (w ∷ ws) k new_participant).session s ≡ true)
    one true is f more = (zero, is)
    one false is f more = let r = more f in (suc r.0, r.1)

-- tests
after_not : (a b : Bool) → (not a || b) ≡ true → a ≡ true → b ≡ true
after_not true b e f = e
after_not false b e f = cc

not_true : (b : Bool) → not b ≡ true → b ≡ false
not_true true e = cc
not_true false e = refl

first_or : (a b : Bool) → (a || b) ≡ true → (a ≡ true) ⊎ (b ≡ true)
first_or true b e = inl refl
first_or false b e = inr e

-- a session in which nothing was done
untouched_is : (c : Cluster) (s : SessionId) → Agree.is_untouched c s ≡ true → IsUntouched c s
untouched_is c s e = record { rows = λ q. row q (row_of c.rows s q) refl; mail = λ q m is. untaken q m is m.taken refl }
  where
    no_rows : list_any (λ r. r.session.0 == s.0) c.rows ≡ false
    no_rows = not_true (list_any (λ r. r.session.0 == s.0) c.rows) (and-first (not (list_any (λ r. r.session.0 == s.0) c.rows)) (not (list_any (λ m. (m.session.0 == s.0) && m.taken) c.mail)) e)

    none_taken : list_any (λ m. (m.session.0 == s.0) && m.taken) c.mail ≡ false
    none_taken =
        not_true (list_any (λ m. (m.session.0 == s.0) && m.taken) c.mail)
        (and-second (not (list_any (λ r. r.session.0 == s.0) c.rows)) (not (list_any (λ m. (m.session.0 == s.0) && m.taken) c.mail)) e)

    row : (q : PartId) (o : Option Row) → row_of c.rows s q ≡ o → option_map (λ r. r.state) o ≡ None
    row q None is = refl
    row q (Some r) is =
        let here : (r.session.0 == s.0) ≡ true = and-first (r.session.0 == s.0) (part_eq r.part q) (find-passes (is_row s q) c.rows r is) in
        let some = find-any (is_row s q) (λ x. x.session.0 == s.0) c.rows r is here in
        absurd (let z : true ≡ false = sym some ∙ no_rows in (cc))

    untaken : (q : PartId) (m : Message) → message_of c.mail s q ≡ Some m → (b : Bool) → m.taken ≡ b → b ≡ false
    untaken q m is false taken = refl
    untaken q m is true taken =
        let here : (m.session.0 == s.0) ≡ true = and-first (m.session.0 == s.0) (part_eq m.part q) (find-passes (is_message s q) c.mail m is) in
        let some = find-any (is_message s q) (λ x. (x.session.0 == s.0) && x.taken) c.mail m is (grind (arith, here, taken)) in
        absurd (let z : true ≡ false = sym some ∙ none_taken in (cc))

-- a slot with an initial state has accepted a message
used_slot : (w : Participant) (q : PartId) → IsOrderly w → is_some (slot_of w q).initial ≡ true → nat_lt 0 (slot_of w q).last.0 ≡ true
used_slot w q orderly some = one (find (λ x. part_eq x.part q) w.slots) refl some
  where
    low : (o : Option StateId) (b : Bool) → (is_none o || b) ≡ true → is_some o ≡ true → b ≡ true
    low None b e f = cc
    low (Some t) b e f = e

    one : (o : Option Slot) → find (λ x. part_eq x.part q) w.slots ≡ o → is_some (unwrap_or o (new_slot q)).initial ≡ true → nat_lt 0 (unwrap_or o (new_slot q)).last.0 ≡ true
    one None is f = cc
    one (Some x) is f =
        low x.initial (nat_lt 0 x.last.0) (all-find (λ (y : Slot). is_none y.initial || nat_lt 0 y.last.0) (λ y. part_eq y.part q) w.slots x orderly.used is) f

module _ (c : Cluster) (ws : List Participant) (k : IsKept c) (sent : AreSent c) (orderly : All IsOrderly ws)
    (sessions : list_all (λ p. Agree.is_below c.next_session p.plain.session) (Agree.stationed_from 0 ws) ≡ true)
    (others : list_all (Agree.is_cared_for c (Agree.stationed_from 0 ws)) c.live ≡ true)
    (quiet : list_all (λ p. all_idle p.plain) (Agree.stationed_from 0 ws) ≡ true)
    (settled : All (λ p. Agree.IfLive c p (Agree.IsSettledIn c p)) (Agree.stationed_from 0 ws)) where
  -- at a place, or of a new participant
  passes : (p : Participant → Bool) → p new_participant ≡ true → list_all (λ x. p x.plain) (Agree.stationed_from 0 ws) ≡ true → (i : InstanceId) → p (of_instance ws i) ≡ true
  passes p new all i = one (in_range ws i.0)
    where
      one : (i.0 < length ws) ⊎ (slice_index_or ws i.0 new_participant ≡ new_participant) → p (slice_index_or ws i.0 new_participant) ≡ true
      one (inl lt) = passes_at p 0 ws all i.0 lt
      one (inr e) = subst (λ (w : Participant). p w ≡ true) (sym e) new

  orderly_at : (i : InstanceId) → IsOrderly (of_instance ws i)
  orderly_at i = one (in_range ws i.0)
    where
      one : (i.0 < length ws) ⊎ (slice_index_or ws i.0 new_participant ≡ new_participant) → IsOrderly (slice_index_or ws i.0 new_participant)
      one (inl lt) = orderly i.0 new_participant lt
      one (inr e) = subst IsOrderly (sym e) (record { distinct = tt; used = refl })

  settled_at : (i : InstanceId) (s : SessionId) → (of_instance ws i).session ≡ Some s → is_live c.live s ≡ true → Agree.IsSettledIn c (record { instance = i; plain = of_instance ws i }) s
  settled_at i s mine live = at_place (λ p. Agree.IfLive c p (Agree.IsSettledIn c p)) 0 ws settled i.0 i.0 (omega arith) (with_session ws i s mine) s mine live

  idle_at : (i : InstanceId) → all_idle (of_instance ws i) ≡ true
  idle_at i = passes all_idle refl quiet i

  work_at : (i : InstanceId) (q : PartId) → HasWork c [] [] i (of_instance ws i).session q (slot_of (of_instance ws i) q) (slot_of (of_instance ws i) q).work
  work_at i q =
      subst (λ (v : Work). HasWork c [] [] i (of_instance ws i).session q (slot_of (of_instance ws i) q) v)
      (sym (idle_is (slot_of (of_instance ws i) q).work (idle_slot (of_instance ws i) q (idle_at i)))) tt

  slots_at : (i : InstanceId) (o : Option SessionId) → (of_instance ws i).session ≡ o
      → IsStale c [] (of_instance ws i) ⊎ ((q : PartId) → HasSlot c [] [] i (of_instance ws i).session q (slot_of (of_instance ws i) q))
  slots_at i None is = inl (record { idle = idle_at i; dead = λ s mine. absurd (never s (sym is ∙ mine)); apart = tt })
    where
      never : (s : SessionId) → ◌≡◌ {A = Option SessionId} None (Some s) → ⊥
      never s e = (cc)
  slots_at i (Some s) is = one (is_live c.live s) refl
    where
      some_is : (t : SessionId) → Some s ≡ Some t → s ≡ t
      some_is t e = (cc)

      one : (b : Bool) → is_live c.live s ≡ b → IsStale c [] (of_instance ws i) ⊎ ((q : PartId) → HasSlot c [] [] i (of_instance ws i).session q (slot_of (of_instance ws i) q))
      one false dead = inl (record { idle = idle_at i; dead = λ t mine. subst (λ (u : SessionId). is_live c.live u ≡ false) (some_is t (sym is ∙ mine)) dead; apart = tt })
      one true live = let a = (settled_at i s is live).attached in inr (λ q. record {
        last = a.numbers q;
        used = a.parts q;
        initial = a.initial q;
        there = λ some. a.parts q (used_slot (of_instance ws i) q (orderly_at i) some);
        work = work_at i q;
      })

  along_at : (i : InstanceId) (s : SessionId) → (of_instance ws i).session ≡ Some s → is_live c.live s ≡ true → IsAlong c (of_instance ws i) s
  along_at i s mine live = record { rows = λ q out. (settled_at i s mine live).rows q; mail = known }
    where
      known : (q : PartId) (m : Message) → message_of c.mail s q ≡ Some m → Agree.is_known_at (slot_of (of_instance ws i) q) m ≡ true
      known q m found =
          let w = of_instance ws i in
          let come = all-find (Agree.is_to_come w s) (is_message s q) c.mail m (settled_at i s mine live).mail found in
          let session : (m.session.0 == s.0) ≡ true = subst (λ (u : SessionId). (m.session.0 == u.0) ≡ true) (found_session c k s q m found) (same-self m.session.0) in
          let both = after_not (m.session.0 == s.0) (not m.taken && nat_lt (slot_of w m.part).last.0 m.id.0) come session in
          new_known (slot_of w q) m (not_true m.taken (and-first (not m.taken) (nat_lt (slot_of w m.part).last.0 m.id.0) both))
          (subst (λ (r : PartId). nat_lt (slot_of w r).last.0 m.id.0 ≡ true) (found_part c k s q m found) (and-second (not m.taken) (nat_lt (slot_of w m.part).last.0 m.id.0) both))

  -- the session of an instance is its participant's, or nothing was done in it
  had_by : (i : InstanceId) (s : SessionId) → session_of c i ≡ Some s → (n : ℕ) → is_session (slice_index_or ws n new_participant).session s ≡ true → (of_instance ws i).session ≡ Some s
  had_by i s its n is =
      let j : InstanceId = record { 0 = n } in
      let theirs : (of_instance ws j).session ≡ Some s = mine_is (of_instance ws j).session s is in
      let own = (settled_at j s theirs (session_live c i s its)).attached.own in
      let same : i ≡ j = instance_same i j (one_instance c k i j s its own) in
      subst (λ (x : InstanceId). (of_instance ws x).session ≡ Some s) (sym same) theirs

  free_at : (i : InstanceId) (s : SessionId) → session_of c i ≡ Some s → ((of_instance ws i).session ≡ Some s) ⊎ IsUntouched c s
  free_at i s its = one (live_of c.live i) refl its
    where
      two : (Agree.has_any s (Agree.stationed_from 0 ws) ≡ true) ⊎ (Agree.is_untouched c s ≡ true) → ((of_instance ws i).session ≡ Some s) ⊎ IsUntouched c s
      two (inl any) = let at = has_at s 0 ws any in inl (had_by i s its at.0 at.1)
      two (inr none) = inr (untouched_is c s none)

      one : (o : Option Live) → live_of c.live i ≡ o → option_map (λ l. l.session) o ≡ Some s → ((of_instance ws i).session ≡ Some s) ⊎ IsUntouched c s
      one None found e = cc
      one (Some l) found e =
          let same : l.session ≡ s = cc in
          let cared : Agree.is_cared_for c (Agree.stationed_from 0 ws) l ≡ true = all-find (Agree.is_cared_for c (Agree.stationed_from 0 ws)) (is_of i) c.live l others found in
          two (first_or (Agree.has_any s (Agree.stationed_from 0 ws)) (Agree.is_untouched c s)
          (subst (λ (u : SessionId). (Agree.has_any u (Agree.stationed_from 0 ws) || Agree.is_untouched c u) ≡ true) same cared))

  pub parts_in_step : AreInStep c ws [] []
  parts_in_step = record {
    each = λ i. record {
      distinct = (orderly_at i).distinct;
      below = passes (λ w. Agree.is_below c.next_session w.session) refl sessions i;
      own = λ s mine live. (settled_at i s mine live).attached.own;
      slots = slots_at i (of_instance ws i).session refl;
      along = along_at i;
      free = free_at i;
    };
    held = tt;
    bagged = tt;
    numbers = λ id. omega arith;
    mail = found_sent c sent;
    first = sent.first;
  }
