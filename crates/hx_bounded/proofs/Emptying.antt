-- Work on a live instance leaves no message of its session pending.
use Rattle.std.proofs.Common.{◌≡◌, ℕ, ◌<◌, ◌||◌, ◌&&◌, ◌==◌, not, Bool, true, false, List, [], ◌∷◌, length, filter, find, Option, Some, None, ◌⊎◌, inl, inr, refl, sym, ap, ◌∙◌, subst, arith}
use Rattle.std.specs.Prelude.{if◌then◌else◌, nat_le, nat_lt}
use Rattle.std.specs.List.{list_any, filter_map}
use Rattle.std.specs.Option.{option_map}
use Rattle.std.proofs.lemmas.Bool.Decides.{nat_tests}
use Rattle.hx_ids.specs.declared.InstanceId.{InstanceId}
use Rattle.hx_ids.specs.declared.SessionId.{SessionId}
use Rattle.hx_ids.specs.declared.StateId.{StateId}
use Rattle.hx_ids.specs.declared.MsgId.{MsgId}
use Rattle.hx_ids.specs.declared.PartId.{PartId}
use Rattle.hx_ids.specs.declared.Live.{Live}
use Rattle.hx_cluster.specs.declared.description.Spec.{Spec}
use Rattle.hx_cluster.specs.declared.state.Message.{Message}
use Rattle.hx_cluster.specs.declared.state.Cluster.{Cluster}
use Rattle.hx_cluster.specs.Ends.{part_eq, is_live, message_of, state_of}
use Rattle.hx_cluster.specs.Steps.{live_of, session_of}
use Rattle.hx_cluster.specs.Messages.{initial_of, standing_of}
use Rattle.hx_cluster.specs.Safe.{is_row_written}
use Rattle.hx_cluster.specs.Valid.{IsValid}
use Rattle.hx_control.specs.Controllers.{Controller}
use Rattle.hx_replicas.specs.declared.DeliverFault.TheVariants as faults
use Rattle.hx_replicas.specs.declared.slots.Work.{Work}
use Rattle.hx_replicas.specs.declared.slots.Work.TheVariants.{Idle, Accepted, Out}
use Rattle.hx_replicas.specs.Participants.{Slot, slot_in, slot_of, state_for, is_out, slot_fault, fault_at, deliver_fault, accepted_of, accepted_in, has_accepted}
use Rattle.hx_worlds.specs.Agree.{is_known_at, is_accepted_as, is_out_as}
use Rattle.hx_worlds.specs.World.{World, State, Job, participant_of}
use Rattle.hx_worlds.specs.Jobs as Jobs
use Rattle.hx_safe.proofs.Counting.{and-six}
use Rattle.hx_safe.proofs.Ends.{same-self}
use Rattle.hx_safe.proofs.Kept.{IsKept}
use Rattle.hx_scripted.proofs.Standing.{Last}
use Rattle.hx_agreed.specs.InStep.{of_instance, IsUntaken, IsAcceptedHere, IsOutHere, HasWork, IsAlong, IsPlaced, is_lent_as}
use Rattle.hx_agreed.proofs.Slots.{is_mine}
use Rattle.hx_agreed.proofs.Placed.{placed_work}
use Rattle.hx_safe.proofs.Sessions.{session_live}
use Rattle.hx_agreed.proofs.Frames.{same_is, found_pending, found_session, found_part}
use Rattle.hx_agreed.proofs.Going.{whole_there}
use Rattle.hx_bounded.proofs.Carrying.{IsClosed}
use Rattle.hx_bounded.proofs.Working.{IsAtWork}

-- the messages of a session are done
abbrev pub IsEmptyOf : Cluster → InstanceId → Type 0
IsEmptyOf c i = (s : SessionId) → session_of c i ≡ Some s → (q : PartId) → message_of c.mail s q ≡ None

-- no open job of an instance
abbrev pub IsJobless : InstanceId → World → Type 0
IsJobless i w = (id : MsgId) → list_any (Jobs.is_job i id) w.jobs ≡ false

-- each pending message of a session was delivered
abbrev pub AreSeen : InstanceId → SessionId → World → Type 0
AreSeen i s w = (q : PartId) (m : Message) → message_of w.cluster.mail s q ≡ Some m → nat_le m.id.0 (slot_of (participant_of w i) q).last.0 ≡ true

-- what is accepted is in a list
abbrev pub has_its : List Message → MsgId → Bool
has_its ns id = list_any (λ n. n.id.0 == id.0) ns

abbrev pub AreListed : InstanceId → List Message → World → Type 0
AreListed i ns w = (q : PartId) (m : Message) → (slot_of (participant_of w i) q).work ≡ Accepted m → has_its ns m.id ≡ true

-- lists
pub any_filtered : (p k : Job → Bool) (js : List Job) → list_any p (filter k js) ≡ list_any (λ j. k j && p j) js
any_filtered p k [] = refl
any_filtered p k (j ∷ js) = grind (arith, any_filtered p k js)

pub same_number : (a b : MsgId) → (a.0 == b.0) ≡ true → a ≡ b
same_number a b e = let same : a.0 ≡ b.0 = grind (arith, nat_tests, e) in ap (λ (n : ℕ). record { 0 = n }) same

-- a slot that accepted a message is among the slots
pub work_listed : (xs : List Slot) (q : PartId) (m : Message) → (slot_in xs q).work ≡ Accepted m → list_any (λ x. has_accepted m.id x.work) xs ≡ true
work_listed [] q m e = absurd (let no : Idle ≡ Accepted m = e in cc)
work_listed (x ∷ xs) q m e = one (part_eq x.part q) refl (λ f. work_listed xs q m f)
  where
    one : (b : Bool) → part_eq x.part q ≡ b → ((slot_in xs q).work ≡ Accepted m → list_any (λ y. has_accepted m.id y.work) xs ≡ true) → (has_accepted m.id x.work || list_any (λ y. has_accepted m.id y.work) xs) ≡ true
    one true is rest =
        let here : (slot_in (x ∷ xs) q).work ≡ x.work = rw is refl in
        ap (λ (w : Work). has_accepted m.id w || list_any (λ y. has_accepted m.id y.work) xs) (sym here ∙ e)
        ∙ ap (λ (b : Bool). b || list_any (λ y. has_accepted m.id y.work) xs) (same-self m.id.0)
    one false is rest =
        let there : (slot_in (x ∷ xs) q).work ≡ (slot_in xs q).work = rw is refl in
        or_true (has_accepted m.id x.work) (list_any (λ y. has_accepted m.id y.work) xs) (rest (sym there ∙ e))
      where
        or_true : (a b : Bool) → b ≡ true → (a || b) ≡ true
        or_true true b e = refl
        or_true false b e = e

-- what is accepted by number
pub accepted_none : (xs : List Slot) (id : MsgId) → accepted_in (find (λ x. has_accepted id x.work) xs) ≡ None → list_any (λ x. has_accepted id x.work) xs ≡ false
accepted_none [] id e = refl
accepted_none (x ∷ xs) id e = one (has_accepted id x.work) refl e (λ f. accepted_none xs id f)
  where
    work_of : (w : Work) → has_accepted id w ≡ true → accepted_of w ≡ None → ⊥
    work_of Idle a b = cc
    work_of (Accepted m) a b = cc
    work_of (Out m is_held) a b = cc

    one : (b : Bool) → has_accepted id x.work ≡ b → accepted_in (if b then Some x else find (λ y. has_accepted id y.work) xs) ≡ None
        → (accepted_in (find (λ y. has_accepted id y.work) xs) ≡ None → list_any (λ y. has_accepted id y.work) xs ≡ false) → (b || list_any (λ y. has_accepted id y.work) xs) ≡ false
    one true is e rest = absurd (work_of x.work is e)
    one false is e rest = rest e

pub accepted_number : (xs : List Slot) (id : MsgId) (m : Message) → accepted_in (find (λ x. has_accepted id x.work) xs) ≡ Some m → m.id ≡ id
accepted_number [] id m e = cc
accepted_number (x ∷ xs) id m e = one (has_accepted id x.work) refl e (λ f. accepted_number xs id m f)
  where
    some_is : (a b : Message) → Some a ≡ Some b → a ≡ b
    some_is a b e = cc

    work_of : (w : Work) → has_accepted id w ≡ true → accepted_of w ≡ Some m → m.id ≡ id
    work_of Idle a b = cc
    work_of (Accepted n) a b = ap (λ (x : Message). x.id) (sym (some_is n m b)) ∙ same_number n.id id a
    work_of (Out n is_held) a b = cc

    one : (b : Bool) → has_accepted id x.work ≡ b → accepted_in (if b then Some x else find (λ y. has_accepted id y.work) xs) ≡ Some m
        → (accepted_in (find (λ y. has_accepted id y.work) xs) ≡ Some m → m.id ≡ id) → m.id ≡ id
    one true is e rest = work_of x.work is e
    one false is e rest = rest e

-- and all that is accepted is in the list that is run
pub all_listed : (xs : List Slot) (id : MsgId) → list_any (λ x. has_accepted id x.work) xs ≡ true → has_its (filter_map (λ x. accepted_of x.work) xs) id ≡ true
all_listed [] id e = cc
all_listed (x ∷ xs) id e = one x.work refl e (λ f. all_listed xs id f)
  where
    one : (w : Work) → x.work ≡ w → (has_accepted id w || list_any (λ y. has_accepted id y.work) xs) ≡ true
        → (list_any (λ y. has_accepted id y.work) xs ≡ true → has_its (filter_map (λ y. accepted_of y.work) xs) id ≡ true) → has_its (filter_map (λ y. accepted_of y.work) (x ∷ xs)) id ≡ true
    one Idle is e rest = rw is (rest e)
    one (Out m is_held) is e rest = rw is (rest e)
    one (Accepted m) is e rest = rw is (two (m.id.0 == id.0) e)
      where
        two : (b : Bool) → (b || list_any (λ y. has_accepted id y.work) xs) ≡ true → (b || has_its (filter_map (λ y. accepted_of y.work) xs) id) ≡ true
        two true e = refl
        two false e = rest e

pub any_more : {X : Type 0} (p q : X → Bool) → ((x : X) → p x ≡ true → q x ≡ true) → (xs : List X) → list_any p xs ≡ true → list_any q xs ≡ true
any_more p q h [] e = cc
any_more p q h (x ∷ xs) e = grind (arith, e, h x, any_more p q h xs)

-- a delivery that nothing refuses
free_slot : (x : Slot) (m : Message) → x.work ≡ Idle → nat_le m.id.0 x.last.0 ≡ false → ((state_for x.initial x.state m.initial).0 == m.from.0) ≡ true → fault_at x m ≡ None
free_slot x m idle above from =
    ap (λ (w : Work). slot_fault w x.state x.last x.initial m) idle
    ∙ (λ i. if above i then Some (faults.Repeat x.last) else if from i then None else Some (faults.WrongFrom (state_for x.initial x.state m.initial)))

module _ (spec : Spec) (valid : IsValid spec) (last : Last) (P : Cluster → Type 0) (H : Job → Type 0) (closed : IsClosed P H) (live : List Live) (ks : List Controller)
    (i : InstanceId) (low : i.0 < length spec.instances) (s : SessionId) (own : option_map (λ l. l.session) (live_of live i) ≡ Some s) where
  pub kept_now : (x : State) → IsAtWork spec valid last P H closed live ks x → IsKept x.world.cluster
  kept_now x a = (whole_there spec last x.world valid a.stands.scripted).kept

  pub session_now : (x : State) → IsAtWork spec valid last P H closed live ks x → session_of x.world.cluster i ≡ Some s
  session_now x a = ap (λ (ls : List Live). option_map (λ l. l.session) (live_of ls i)) a.works.sessions ∙ own

  pub alive_now : (x : State) → IsAtWork spec valid last P H closed live ks x → is_live x.world.cluster.live s ≡ true
  alive_now x a = session_live x.world.cluster i s (session_now x a)

  -- the participant has its session, and no job is open
  pub record IsReady (x : State) : Type 0 where
    pub at_work : IsAtWork spec valid last P H closed live ks x
    pub jobless : IsJobless i x.world
    pub mine : (participant_of x.world i).session ≡ Some s

  module _ (x : State) (r : IsReady x) where
    placed : IsPlaced x.world.cluster x.world.bag x.world.jobs i (of_instance x.world.participants i)
    placed = r.at_work.stands.in_step.parts.each i

    along : IsAlong x.world.cluster (of_instance x.world.participants i) s
    along = placed.along s r.mine (alive_now x r.at_work)

    work_at : (q : PartId) (w : Work) → (slot_of (participant_of x.world i) q).work ≡ w
        → HasWork x.world.cluster x.world.bag x.world.jobs i (participant_of x.world i).session q (slot_of (participant_of x.world i) q) w
    work_at q w is =
        subst (λ (v : Work). HasWork x.world.cluster x.world.bag x.world.jobs i (participant_of x.world i).session q (slot_of (participant_of x.world i) q) v) is
        (placed_work x.world.cluster x.world.bag x.world.jobs i (participant_of x.world i) placed q)

    never_out : (q : PartId) (m : Message) (is_held : Bool) → (slot_of (participant_of x.world i) q).work ≡ Out m is_held → ⊥
    never_out q m is_held is =
        let o : IsOutHere x.world.bag x.world.jobs i (participant_of x.world i).session q (slot_of (participant_of x.world i) q) m is_held = work_at q (Out m is_held) is in
        let some = any_more (is_lent_as i m is_held) (Jobs.is_job i m.id) (λ j e. grind (arith, e)) x.world.jobs o.job in
        absurd (let no : true ≡ false = sym some ∙ r.jobless m.id in cc)

    not_out : (q : PartId) → is_out (slot_of (participant_of x.world i) q).work ≡ false
    not_out q = one (slot_of (participant_of x.world i) q).work refl
      where
        one : (w : Work) → (slot_of (participant_of x.world i) q).work ≡ w → is_out w ≡ false
        one Idle is = refl
        one (Accepted m) is = refl
        one (Out m is_held) is = absurd (never_out q m is_held is)

    some_is : (a b : Message) → Some a ≡ Some b → a ≡ b
    some_is a b e = cc

    session_is : (a b : SessionId) → Some a ≡ Some b → a ≡ b
    session_is a b e = cc

    -- what is accepted is what is pending
    accepted_pending : (q : PartId) (m n : Message) → message_of x.world.cluster.mail s q ≡ Some m → (slot_of (participant_of x.world i) q).work ≡ Accepted n
        → nat_le m.id.0 (slot_of (participant_of x.world i) q).last.0 ≡ true
    accepted_pending q m n found is =
        let a : IsAcceptedHere x.world.cluster x.world.bag (participant_of x.world i).session q (slot_of (participant_of x.world i) q) n = work_at q (Accepted n) is in
        let session : n.session ≡ s = session_is n.session s (sym a.of.session ∙ r.mine) in
        let u : IsUntaken x.world.cluster n = a.waits (subst (λ (v : SessionId). is_live x.world.cluster.live v ≡ true) (sym session) (alive_now x r.at_work)) in
        let same : u.now ≡ m = some_is u.now m (sym u.found ∙ (λ k. message_of x.world.cluster.mail (session k) (a.of.part k)) ∙ found) in
        let number : m.id ≡ (slot_of (participant_of x.world i) q).last = ap (λ (y : Message). y.id) (sym same) ∙ sym (same_is n u.now u.same).id ∙ sym a.of.last in
        subst (λ (v : MsgId). nat_le m.id.0 v.0 ≡ true) number (grind (arith, nat_tests))

    -- a pending message can be delivered, or was
    pub seen_or_free : (q : PartId) (m : Message) → message_of x.world.cluster.mail s q ≡ Some m
        → (deliver_fault (participant_of x.world i) m ≡ None) ⊎ (nat_le m.id.0 (slot_of (participant_of x.world i) q).last.0 ≡ true)
    seen_or_free q m found = one (slot_of (participant_of x.world i) q).work refl
      where
        k : IsKept x.world.cluster
        k = kept_now x r.at_work

        free : (slot_of (participant_of x.world i) q).work ≡ Idle → deliver_fault (participant_of x.world i) m ≡ None
        free idle =
            let session : m.session ≡ s = found_session x.world.cluster k s q m found in
            let part : m.part ≡ q = found_part x.world.cluster k s q m found in
            let known = along.mail q m found in
            let at : (not m.taken && (false || nat_lt (slot_of (participant_of x.world i) q).last.0 m.id.0) || false) ≡ true
            = (λ j. not m.taken && (is_accepted_as m (sym idle j) || nat_lt (slot_of (participant_of x.world i) q).last.0 m.id.0) || is_out_as m (sym idle j)) ∙ known in
            let untaken : m.taken ≡ false = grind (arith, at) in
            let above : nat_le m.id.0 (slot_of (participant_of x.world i) q).last.0 ≡ false = grind (arith, nat_tests, at) in
            let pending = and-six (is_live x.world.cluster.live m.session) _ _ _ (not m.written || m.taken) _ (found_pending x.world.cluster k s q m found) in
            let marks = pending.4 in
            let unwritten : m.written ≡ false = grind (arith, marks, untaken) in
            let stands : ((standing_of x.world.cluster m.session m.part).0 == m.from.0) ≡ true =
            sym (ap (λ (b : Bool). if b then is_row_written m (state_of x.world.cluster.rows m.session m.part) else (standing_of x.world.cluster m.session m.part).0 == m.from.0) unwritten) ∙ pending.5 in
            let row = along.rows q (not_out q) in
            let initial = (r.at_work.stands.in_step.parts.mail s q m found).initial in
            let counts : state_for (slot_of (participant_of x.world i) q).initial (slot_of (participant_of x.world i) q).state m.initial ≡ standing_of x.world.cluster s q
            = ap (λ (t : StateId). state_for (slot_of (participant_of x.world i) q).initial (slot_of (participant_of x.world i) q).state t) (initial ∙ ap (initial_of x.world.cluster) part) ∙ row in
            let from : ((state_for (slot_of (participant_of x.world i) q).initial (slot_of (participant_of x.world i) q).state m.initial).0 == m.from.0) ≡ true
            = ap (λ (t : StateId). t.0 == m.from.0) (counts ∙ (λ j. standing_of x.world.cluster (sym session j) (sym part j))) ∙ stands in
            ap (λ (b : Bool). if b then fault_at (slot_of (participant_of x.world i) m.part) m else Some (faults.OtherSession (participant_of x.world i).session))
            (is_mine (participant_of x.world i).session m.session (r.mine ∙ ap (λ (v : SessionId). Some v) (sym session)))
            ∙ ap (λ (p : PartId). fault_at (slot_of (participant_of x.world i) p) m) part
            ∙ free_slot (slot_of (participant_of x.world i) q) m idle above from

        one : (w : Work) → (slot_of (participant_of x.world i) q).work ≡ w
            → (deliver_fault (participant_of x.world i) m ≡ None) ⊎ (nat_le m.id.0 (slot_of (participant_of x.world i) q).last.0 ≡ true)
        one Idle is = inl (free is)
        one (Accepted n) is = inr (accepted_pending q m n found is)
        one (Out n is_held) is = absurd (never_out q n is_held is)

    -- where all was seen, and nothing is accepted, nothing is pending
    pub emptied : AreSeen i s x.world → AreListed i [] x.world → (q : PartId) → message_of x.world.cluster.mail s q ≡ None
    emptied seen listed q = one (message_of x.world.cluster.mail s q) refl
      where
        known_low : (w : Work) (m : Message) → w ≡ Idle → is_known_at (slot_of (participant_of x.world i) q) m ≡ true → (slot_of (participant_of x.world i) q).work ≡ w
            → nat_le m.id.0 (slot_of (participant_of x.world i) q).last.0 ≡ true → ⊥
        known_low w m idle known is low =
            let at : (not m.taken && (false || nat_lt (slot_of (participant_of x.world i) q).last.0 m.id.0) || false) ≡ true
            = (λ j. not m.taken && (is_accepted_as m (sym (is ∙ idle) j) || nat_lt (slot_of (participant_of x.world i) q).last.0 m.id.0) || is_out_as m (sym (is ∙ idle) j)) ∙ known in
            absurd (grind (arith, nat_tests, at, low))

        two : (m : Message) → message_of x.world.cluster.mail s q ≡ Some m → (w : Work) → (slot_of (participant_of x.world i) q).work ≡ w → ⊥
        two m found Idle is = known_low Idle m refl (along.mail q m found) is (seen q m found)
        two m found (Accepted n) is = absurd (let no : false ≡ true = listed q n is in cc)
        two m found (Out n is_held) is = never_out q n is_held is

        one : (o : Option Message) → message_of x.world.cluster.mail s q ≡ o → o ≡ None
        one None is = refl
        one (Some m) is = absurd (two m is (slot_of (participant_of x.world i) q).work refl)
