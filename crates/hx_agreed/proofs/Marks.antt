-- A message is taken, its outcome is written, and one that was handed out is put back.
use Rattle.std.proofs.Common.{◌≡◌, ℕ, ◌&&◌, ◌==◌, Bool, true, false, List, [], ◌∷◌, ◌++◌, map, find, Option, Some, None, inl, refl, sym, ap, ◌∙◌, subst, arith}
use Rattle.std.specs.Prelude.{is_some, is_none, nat_le, slice_set, if◌then◌else◌}
use Rattle.std.specs.List.{list_any}
use Rattle.std.specs.Option.{option_map}
use Rattle.std.proofs.lemmas.Bool.{cond_both}
use Rattle.std.proofs.lemmas.Bool.Decides.{nat_tests}
use Rattle.hx_lists.specs.Lists.{count}
use Rattle.hx_ids.specs.declared.InstanceId.{InstanceId}
use Rattle.hx_ids.specs.declared.StateId.{StateId}
use Rattle.hx_ids.specs.declared.SessionId.{SessionId}
use Rattle.hx_ids.specs.declared.MsgId.{MsgId}
use Rattle.hx_ids.specs.declared.PartId.{PartId}
use Rattle.hx_cluster.specs.declared.state.Message.{Message}
use Rattle.hx_cluster.specs.declared.state.Cluster.{Cluster}
use Rattle.hx_cluster.specs.declared.happenings.Outcome.{Outcome}
use Rattle.hx_cluster.specs.declared.happenings.Outcome.TheVariants as outcomes
use Rattle.hx_cluster.specs.declared.happenings.TakeFault.TheVariants as takes
use Rattle.hx_cluster.specs.Ends.{part_eq, is_message, is_live, state_of, message_of}
use Rattle.hx_cluster.specs.Messages.{is_same, state_after, has_id, as_taken, as_written, pending_of, after_take}
use Rattle.hx_cluster.specs.Marks.{take_fault}
use Rattle.hx_cluster.specs.Events.{can_take}
use Rattle.hx_replicas.specs.declared.slots.Work.{Work}
use Rattle.hx_replicas.specs.declared.slots.Work.TheVariants.{Idle, Accepted, Out}
use Rattle.hx_replicas.specs.Participants.{Participant, Slot, slot_in, slot_of, accepted_of, has_accepted, accepted_in, accepted_by, is_idle, is_out, brought, finish, hand_out, made_ready, emptied_for}
use Rattle.hx_replicas.specs.Layout.{AreDistinct}
use Rattle.hx_replicas.proofs.Putting.{part-slot_in, slot_in-put, slots-hand_out}
use Rattle.hx_worlds.specs.World.{Job}
use Rattle.hx_worlds.specs.Jobs.{is_job}
use Rattle.hx_worlds.specs.Agree.{is_known_at, is_exactly, is_lent_to, is_at_end}
use Rattle.hx_safe.proofs.Counting.{and-first, and-second, and-both, any-append, count-append, count-none, find-passes, find-any, find-single, none-find}
use Rattle.hx_safe.proofs.Ends.{same-self, session_same, part_eq-self}
use Rattle.hx_safe.proofs.Kept.{IsKept}
use Rattle.hx_safe.proofs.Calming.{same_self}
use Rattle.hx_agreed.specs.InStep.{Each, of_instance, IsUntaken, is_lent_as, IsAcceptedHere, HasWork, HasSlot, IsPlaced, IsTakenBy, IsHeldJob, AreInStep}
use Rattle.hx_agreed.proofs.Lists.{each-le, each-append, or-first, or-second}
use Rattle.hx_agreed.proofs.Lent.{exactly_self}
use Rattle.hx_agreed.proofs.Slots.{slot-found, slot_in-other, distinct-put}
use Rattle.hx_agreed.proofs.Placed.{placed_work, placed_busy}
use Rattle.hx_agreed.proofs.Frames.{same_is, same_sym, same_both, found_pending, one_number, job_out}
use Rattle.hx_agreed.proofs.Changes.{is_replica, WasPending, board_stays, change_in_step}
use Rattle.hx_agreed.proofs.Replicas.{here_put, others_put, with_session, out_other, never_here, one_bagged}
use Rattle.hx_agreed.proofs.Ending.{mine, replica}

-- the slot that accepted a message
work_accepted : (w : Work) (m : Message) → accepted_of w ≡ Some m → w ≡ Accepted m
work_accepted Idle m e = cc
work_accepted (Accepted n) m e = let same : n ≡ m = cc in ap Accepted same
work_accepted (Out n is_held) m e = cc

part_of_work : (c : Cluster) (bag : List Message) (jobs : List Job) (i : InstanceId) (mine : Option SessionId) (q : PartId) (x : Slot) (w : Work) (m : Message) → w ≡ Accepted m → HasWork c bag jobs i mine q x w → m.part ≡ q
part_of_work c bag jobs i mine q x w m e h = of (subst (λ (v : Work). HasWork c bag jobs i mine q x v) e h)
  where
    of : IsAcceptedHere c bag mine q x m → m.part ≡ q
    of a = a.of.part

pub accepted_slot : (c : Cluster) (bag : List Message) (jobs : List Job) (i : InstanceId) (w : Participant) (id : MsgId) (m : Message) → IsPlaced c bag jobs i w → accepted_by w id ≡ Some m → (slot_of w m.part).work ≡ Accepted m
accepted_slot c bag jobs i w id m p e = one (find (λ x. has_accepted id x.work) w.slots) refl e
  where
    one : (o : Option Slot) → find (λ x. has_accepted id x.work) w.slots ≡ o → accepted_in o ≡ Some m → (slot_of w m.part).work ≡ Accepted m
    one None is e = cc
    one (Some x) is e =
        let here : slot_of w x.part ≡ x = slot-found w.slots (λ y. has_accepted id y.work) x p.distinct is in
        let work : (slot_of w x.part).work ≡ Accepted m = ap (λ (y : Slot). y.work) here ∙ work_accepted x.work m e in
        let part = part_of_work c bag jobs i w.session x.part (slot_of w x.part) (slot_of w x.part).work m work (placed_work c bag jobs i w p x.part) in
        subst (λ (q : PartId). (slot_of w q).work ≡ Accepted m) (sym part) work

-- messages with a mark
pub some_is : (m n : Message) → Some m ≡ Some n → m ≡ n
some_is m n e = (cc)

number_is : (a b : MsgId) → (a.0 == b.0) ≡ true → a ≡ b
number_is a b e = let same : a.0 ≡ b.0 = grind (arith, nat_tests, e) in ap (λ (n : ℕ). record { 0 = n }) same

pub marked : (f : Message → Message) (u : SessionId) (p : PartId) → ((m : Message) → is_message u p (f m) ≡ is_message u p m) → (mail : List Message) → message_of (map f mail) u p ≡ option_map f (message_of mail u p)
marked f u p h [] = refl
marked f u p h (m ∷ mail) = one (is_message u p m) refl (marked f u p h mail)
  where
    one : (b : Bool) → is_message u p m ≡ b → message_of (map f mail) u p ≡ option_map f (message_of mail u p) → message_of (map f (m ∷ mail)) u p ≡ option_map f (message_of (m ∷ mail) u p)
    one true e more = rw (h m, e) refl
    one false e more = rw (h m, e) more

pub taken_message : (s : SessionId) (id : MsgId) (u : SessionId) (p : PartId) (m : Message) → is_message u p (as_taken s id m) ≡ is_message u p m
taken_message s id u p m = cond_both (has_id s id m) (record m { taken = true }) m (λ (x : Message). is_message u p x ≡ is_message u p m) (λ e. refl) (λ e. refl)

taken_same : (s : SessionId) (id : MsgId) (m : Message) → is_same m (as_taken s id m) ≡ true
taken_same s id m = cond_both (has_id s id m) (record m { taken = true }) m (λ (x : Message). is_same m x ≡ true) (λ e. same_self m) (λ e. same_self m)

pub written_message : (s : SessionId) (id : MsgId) (u : SessionId) (p : PartId) (m : Message) → is_message u p (as_written s id m) ≡ is_message u p m
written_message s id u p m = cond_both (has_id s id m) (record m { written = true }) m (λ (x : Message). is_message u p x ≡ is_message u p m) (λ e. refl) (λ e. refl)

pub written_same : (s : SessionId) (id : MsgId) (m : Message) → is_same m (as_written s id m) ≡ true
written_same s id m = cond_both (has_id s id m) (record m { written = true }) m (λ (x : Message). is_same m x ≡ true) (λ e. same_self m) (λ e. same_self m)

option_some : (f : Message → Message) (o : Option Message) (n : Message) → option_map f o ≡ Some n → (m : Message) × (o ≡ Some m) × (f m ≡ n)
option_some f None n e = cc
option_some f (Some m) n e = (m, refl, some_is (f m) n e)

-- elsewhere none has the mark
module _ (c : Cluster) (k : IsKept c) (s : SessionId) (id : MsgId) (q : PartId) (now : Message) (found : message_of c.mail s q ≡ Some now) (number : now.id ≡ id) where
  unmarked : (u : SessionId) (p : PartId) → is_replica s q u p ≡ false → (n : Message) → message_of c.mail u p ≡ Some n → (b : Bool) → has_id s id n ≡ b → b ≡ false
  unmarked u p other n is false e = refl
  unmarked u p other n is true e =
      let same = one_number c k u s p q n now is found (number_is n.id id (and-second (n.session.0 == s.0) (n.id.0 == id.0) e) ∙ sym number) in
      let one = find-passes (is_message u p) c.mail n is in
      let two : is_message s q n ≡ true = subst (λ (m : Message). is_message s q m ≡ true) (sym same) (find-passes (is_message s q) c.mail now found) in
      sym (replica n u p s q one two) ∙ other

  marked_elsewhere : (f : Message → Message) (u : SessionId) (p : PartId) → ((m : Message) → is_message u p (if has_id s id m then f m else m) ≡ is_message u p m) → is_replica s q u p ≡ false
      → message_of (map (λ m. if has_id s id m then f m else m) c.mail) u p ≡ message_of c.mail u p
  marked_elsewhere f u p same other = marked (λ m. if has_id s id m then f m else m) u p same c.mail ∙ one (message_of c.mail u p) refl
    where
      one : (o : Option Message) → message_of c.mail u p ≡ o → option_map (λ m. if has_id s id m then f m else m) o ≡ o
      one None is = refl
      one (Some n) is = let e = unmarked u p other n is (has_id s id n) refl in rw e refl

  pub taken_elsewhere : (u : SessionId) (p : PartId) → is_replica s q u p ≡ false → message_of (map (as_taken s id) c.mail) u p ≡ message_of c.mail u p
  taken_elsewhere u p other = marked_elsewhere (λ m. record m { taken = true }) u p (taken_message s id u p) other

  pub written_elsewhere : (u : SessionId) (p : PartId) → is_replica s q u p ≡ false → message_of (map (as_written s id) c.mail) u p ≡ message_of c.mail u p
  written_elsewhere u p other = marked_elsewhere (λ m. record m { written = true }) u p (written_message s id u p) other

  mine_found : now.session ≡ s
  mine_found = session_same now.session s (and-first (now.session.0 == s.0) (part_eq now.part q) (find-passes (is_message s q) c.mail now found))

  has_now : has_id s id now ≡ true
  has_now = and-both (now.session.0 == s.0) (now.id.0 == id.0) (subst (λ (u : SessionId). (now.session.0 == u.0) ≡ true) mine_found (same-self now.session.0)) (subst (λ (x : MsgId). (now.id.0 == x.0) ≡ true) number (same-self now.id.0))

  pub pending_found : pending_of c s id ≡ Some now
  pending_found = one (pending_of c s id) refl
    where
      one : (o : Option Message) → pending_of c s id ≡ o → o ≡ Some now
      one None is =
          let none = none-find (has_id s id) c.mail is in
          let some = find-any (is_message s q) (has_id s id) c.mail now found has_now in
          absurd (let z : true ≡ false = sym some ∙ none in (cc))
      one (Some x) is =
          let p = and-second (x.session.0 == s.0) (x.id.0 == id.0) (find-passes (has_id s id) c.mail x is) in
          let one : find (λ y. y.id.0 == id.0) c.mail ≡ Some x = find-single (has_id s id) (λ y. y.id.0 == id.0) c.mail x is p (k.mail.numbers id) in
          let other : find (λ y. y.id.0 == id.0) c.mail ≡ Some now = find-single (is_message s q) (λ y. y.id.0 == id.0) c.mail now found (and-second (now.session.0 == s.0) (now.id.0 == id.0) has_now) (k.mail.numbers id) in
          sym one ∙ other

  pub taken_now : message_of (map (as_taken s id) c.mail) s q ≡ Some (record now { taken = true })
  taken_now = marked (as_taken s id) s q (taken_message s id s q) c.mail ∙ ap (option_map (as_taken s id)) found ∙ (rw has_now refl)

  pub written_now : message_of (map (as_written s id) c.mail) s q ≡ Some (record now { written = true })
  written_now = marked (as_written s id) s q (written_message s id s q) c.mail ∙ ap (option_map (as_written s id)) found ∙ (rw has_now refl)

-- what was taken or written was pending before
pub was_taken : (c : Cluster) (s : SessionId) (id : MsgId) (u : SessionId) (p : PartId) (n : Message) → message_of (map (as_taken s id) c.mail) u p ≡ Some n → WasPending c u p n
was_taken c s id u p n is =
    let x = option_some (as_taken s id) (message_of c.mail u p) n (sym (marked (as_taken s id) u p (taken_message s id u p) c.mail) ∙ is) in
    record { before = x.0; found = x.1; same = subst (λ (m : Message). is_same x.0 m ≡ true) x.2 (taken_same s id x.0) }

pub was_written : (c : Cluster) (s : SessionId) (id : MsgId) (u : SessionId) (p : PartId) (n : Message) → message_of (map (as_written s id) c.mail) u p ≡ Some n → WasPending c u p n
was_written c s id u p n is =
    let x = option_some (as_written s id) (message_of c.mail u p) n (sym (marked (as_written s id) u p (written_message s id u p) c.mail) ∙ is) in
    record { before = x.0; found = x.1; same = subst (λ (m : Message). is_same x.0 m ≡ true) x.2 (written_same s id x.0) }

-- what nothing refuses is of a live session, and it is refused only where the session isn't live
pub live_by : {F : Type 0} (live : Bool) (fault : Option F) (ended : F) → is_none (if live then fault else Some ended) ≡ true → live ≡ true
live_by true fault ended e = refl
live_by false fault ended e = cc

pub dead_by : {F : Type 0} (live : Bool) (fault : Option F) (ended : F) → (live ≡ true → is_none fault ≡ true) → is_none (if live then fault else Some ended) ≡ false → live ≡ false
dead_by true fault ended none e = let both = sym (none refl) ∙ e in cc
dead_by false fault ended none e = refl

-- a take that nothing refuses
pub take_live : (c : Cluster) (s : SessionId) (id : MsgId) → can_take c s id ≡ true → is_live c.live s ≡ true
take_live c s id can = live_by (is_live c.live s) (take_fault (pending_of c s id)) takes.SessionEnded can

taken_by_none : (m : Message) → m.taken ≡ false → is_none (take_fault (Some m)) ≡ true
taken_by_none m e = rw e refl

-- a job's message that is marked
after_mark : (m : Message) (o : Outcome) → state_after (record m { taken = true }) o ≡ state_after m o
after_mark m outcomes.Ok = refl
after_mark m outcomes.Failed = refl

taken_after : (c : Cluster) (s : SessionId) (id : MsgId) (x : Job) → IsTakenBy c x → IsTakenBy (after_take c s id) x
taken_after c s id x t = one (has_id s id t.now) refl
  where
    one : (b : Bool) → has_id s id t.now ≡ b → IsTakenBy (after_take c s id) x
    one true e = record {
      now = record t.now { taken = true };
      found = marked (as_taken s id) x.message.session x.message.part (taken_message s id x.message.session x.message.part) c.mail ∙ ap (option_map (as_taken s id)) t.found ∙ (rw e refl);
      taken = record {
        same = t.taken.same;
        taken = refl;
        written = t.taken.written;
        ended = λ is. subst (λ (z : StateId). is_at_end z (state_of c.rows t.now.session t.now.part) ≡ true) (sym (after_mark t.now x.outcome)) (t.taken.ended is);
      };
      row = t.row;
    }
    one false e = record {
      now = t.now;
      found = marked (as_taken s id) x.message.session x.message.part (taken_message s id x.message.session x.message.part) c.mail ∙ ap (option_map (as_taken s id)) t.found ∙ (rw e refl);
      taken = record { same = t.taken.same; taken = t.taken.taken; written = t.taken.written; ended = t.taken.ended };
      row = t.row;
    }

module _ (c : Cluster) (ws : List Participant) (jobs : List Job) (bag : List Message) (k : IsKept c) (a : AreInStep c ws jobs bag) (i : InstanceId) (m : Message)
    (work : (slot_of (of_instance ws i) m.part).work ≡ Accepted m) where
  pub accepted_here : IsAcceptedHere c bag (of_instance ws i).session m.part (slot_of (of_instance ws i) m.part) m
  accepted_here = let w = of_instance ws i in subst (λ (v : Work). HasWork c bag jobs i w.session m.part (slot_of w m.part) v) work (placed_work c bag jobs i w (a.each i) m.part)

  active : (p : PartId) → HasSlot c bag jobs i (of_instance ws i).session p (slot_of (of_instance ws i) p)
  active = placed_busy c bag jobs i (of_instance ws i) (a.each i) m.part (ap is_idle work)

  pub refused_dead : can_take c m.session m.id ≡ false → is_live c.live m.session ≡ false
  refused_dead refused = dead_by (is_live c.live m.session) (take_fault (pending_of c m.session m.id)) takes.SessionEnded none refused
    where
      none : is_live c.live m.session ≡ true → is_none (take_fault (pending_of c m.session m.id)) ≡ true
      none live =
          let u = accepted_here.waits live in
          let same = same_is m u.now u.same in
          ap (λ (o : Option Message). is_none (take_fault o)) (pending_found c k m.session m.id m.part u.now u.found (sym same.id)) ∙ taken_by_none u.now u.untaken

  not_out : is_out (slot_of (of_instance ws i) m.part).work ≡ false
  not_out = ap is_out work

  -- no job has its number
  no_job : (x : Job) → IsHeldJob c ws jobs x → (b : Bool) → is_job i m.id x ≡ b → b ≡ false
  no_job x g false e = refl
  no_job x g true e =
      let o = job_out c ws jobs bag a x g in
      let number : m.id ≡ o.message.id = sym (number_is x.message.id m.id (and-second (x.instance.0 == i.0) (x.message.id.0 == m.id.0) e)) ∙ (same_is x.message o.message o.same).id in
      let same = one_bagged bag m o.message a.numbers accepted_here.bagged o.here.bagged number in
      let part : m.part ≡ x.message.part = (same_is m o.message same).part ∙ sym (same_is x.message o.message o.same).part in
      let at : (i.0 == x.instance.0) ≡ true = let f = and-first (x.instance.0 == i.0) (x.message.id.0 == m.id.0) e in grind (arith, nat_tests, f) in
      absurd (never_here ws i m.part x not_out g.out at (subst (λ (p : PartId). part_eq m.part p ≡ true) part (part_eq-self m.part)))

  none_counted : (xs : List Job) → Each (IsHeldJob c ws jobs) xs → list_any (is_job i m.id) xs ≡ false
  none_counted [] e = refl
  none_counted (x ∷ xs) e = let f = no_job x e.0 (is_job i m.id x) refl in grind (arith, f, none_counted xs e.1)

  pub take_in_step : (failed : Bool) (job : Job) → can_take c m.session m.id ≡ true → job.instance ≡ i → job.message ≡ m
      → is_some job.handler ≡ is_some (made_ready (slot_of (of_instance ws i) m.part) m failed).handler → job.is_written ≡ false
      → AreInStep (after_take c m.session m.id) (slice_set ws i.0 (hand_out (of_instance ws i) m failed)) (jobs ++ job ∷ []) bag
  take_in_step failed job can its_instance its_message held unwritten =
      change_in_step c d ws ws' jobs (jobs ++ job ∷ []) bag i m.session m.part k a (record {
        others = others_put ws i (hand_out (of_instance ws i) m failed);
        mine = acc.of.session;
        session = ap (λ (p : Participant). p.session) here ∙ acc.of.session;
        active = active;
        distinct = subst (λ (p : Participant). AreDistinct (map (λ z. z.part) p.slots)) (sym here)
            (subst (λ (xs : List Slot). AreDistinct (map (λ z. z.part) xs)) (sym (slots-hand_out (of_instance ws i) m failed)) (distinct-put (of_instance ws i).slots (y failed) (a.each i).distinct));
        slots = slots failed;
        board = record {
          same = record { live = refl; sessions = refl; messages = refl; models = refl; resources = refl };
          rows = λ t p e. refl;
          mail = λ t p e. taken_elsewhere c k m.session m.id m.part u.now u.found (sym (same_is m u.now u.same).id) t p e;
          lent = λ n x h e is. any-append (is_lent_as n x h) jobs (job ∷ []) ∙ or-first _ _ is;
          lent_here = λ p x h e f is. any-append (is_lent_as i x h) jobs (job ∷ []) ∙ or-first _ _ is;
          before = λ n found. was_taken c m.session m.id m.session m.part n found;
          pending = λ b s q its p. inl (record {
            now = as_taken m.session m.id p.now;
            found = marked (as_taken m.session m.id) b.session b.part (taken_message m.session m.id b.session b.part) c.mail ∙ ap (option_map (as_taken m.session m.id)) p.found;
            same = same_both b p.now (as_taken m.session m.id p.now) p.same (taken_same m.session m.id p.now);
          });
        };
        slot = subst (λ (z : Slot). HasSlot d bag (jobs ++ job ∷ []) i (Some m.session) m.part z) (sym now) (record {
          last = (active m.part).last;
          used = (active m.part).used;
          initial = (active m.part).initial;
          there = (active m.part).there;
          work = record {
            of = record { part = refl; session = refl; last = acc.of.last; state = acc.of.state; initial = acc.of.initial };
            bagged = acc.bagged;
            job = any-append (is_lent_as i m (is_some (made_ready (slot_of (of_instance ws i) m.part) m failed).handler)) jobs (job ∷ []) ∙ or-second _ _ (or-first _ false lent_now);
          };
        });
        row_here = λ live idle. absurd (let out : is_out (slot_of (of_instance ws' i) m.part).work ≡ true = ap (λ (z : Slot). is_out z.work) now in let no : true ≡ false = sym out ∙ idle in (cc));
        mail_here = λ live n found. subst (λ (z : Slot). is_known_at z n ≡ true) (sym now) (or-second _ (is_same n m) (let e = some_is (record u.now { taken = true }) n (sym now_taken ∙ found) in subst (λ (x : Message). is_same x m ≡ true) e (same_sym m u.now u.same)));
        last = subst (λ (z : Slot). nat_le (slot_of (of_instance ws i) m.part).last.0 z.last.0 ≡ true) (sym now) (grind (arith, nat_tests));
        jobs_held = each-append (IsHeldJob d ws' (jobs ++ job ∷ [])) jobs job (each-le (IsHeldJob c ws jobs) (IsHeldJob d ws' (jobs ++ job ∷ [])) old jobs a.held) new;
      })
    where
      d : Cluster
      d = after_take c m.session m.id

      ws' : List Participant
      ws' = slice_set ws i.0 (hand_out (of_instance ws i) m failed)

      acc : IsAcceptedHere c bag (of_instance ws i).session m.part (slot_of (of_instance ws i) m.part) m
      acc = accepted_here

      u : IsUntaken c m
      u = accepted_here.waits (take_live c m.session m.id can)

      now_taken : message_of (map (as_taken m.session m.id) c.mail) m.session m.part ≡ Some (record (accepted_here.waits (take_live c m.session m.id can)).now { taken = true })
      now_taken = let v = accepted_here.waits (take_live c m.session m.id can) in taken_now c k m.session m.id m.part v.now v.found (sym (same_is m v.now v.same).id)

      y : Bool → Slot
      y f = emptied_for (made_ready (slot_of (of_instance ws i) m.part) m f) m

      part_y : (f : Bool) → (emptied_for (made_ready (slot_of (of_instance ws i) m.part) m f) m).part ≡ m.part
      part_y f = part-slot_in (of_instance ws i).slots m.part

      here : of_instance (slice_set ws i.0 (hand_out (of_instance ws i) m failed)) i ≡ hand_out (of_instance ws i) m failed
      here = here_put ws i (hand_out (of_instance ws i) m failed) (with_session ws i m.session accepted_here.of.session)

      now : slot_of (of_instance (slice_set ws i.0 (hand_out (of_instance ws i) m failed)) i) m.part ≡ emptied_for (made_ready (slot_of (of_instance ws i) m.part) m failed) m
      now =
          ap (λ (p : Participant). slot_of p m.part) here ∙ ap (λ (xs : List Slot). slot_in xs m.part) (slots-hand_out (of_instance ws i) m failed)
          ∙ slot_in-put (of_instance ws i).slots (emptied_for (made_ready (slot_of (of_instance ws i) m.part) m failed) m) m.part (part-slot_in (of_instance ws i).slots m.part)

      slots : (f : Bool) (p : PartId) → part_eq m.part p ≡ false → slot_of (of_instance (slice_set ws i.0 (hand_out (of_instance ws i) m failed)) i) p ≡ slot_of (of_instance ws i) p
      slots f p other =
          ap (λ (v : Participant). slot_of v p) here ∙ ap (λ (xs : List Slot). slot_in xs p) (slots-hand_out (of_instance ws i) m failed)
          ∙ slot_in-other (of_instance ws i).slots (emptied_for (made_ready (slot_of (of_instance ws i) m.part) m failed) m) p (subst (λ (r : PartId). part_eq r p ≡ false) (sym (part-slot_in (of_instance ws i).slots m.part)) other)

      handler_now : (b : Bool) → is_some job.handler ≡ b → (if b then is_some job.handler else is_none job.handler) ≡ true
      handler_now b e = two job.handler b e
        where
          two : (o : Option ℕ) (x : Bool) → is_some o ≡ x → (if x then is_some o else is_none o) ≡ true
          two None true e = cc
          two None false e = refl
          two (Some n) true e = refl
          two (Some n) false e = cc

      job_now : is_job i m.id job ≡ true
      job_now = and-both (job.instance.0 == i.0) (job.message.id.0 == m.id.0) (subst (λ (n : InstanceId). (job.instance.0 == n.0) ≡ true) its_instance (same-self job.instance.0))
          (subst (λ (n : Message). (job.message.id.0 == n.id.0) ≡ true) its_message (same-self job.message.id.0))

      lent_now : is_lent_as i m (is_some (made_ready (slot_of (of_instance ws i) m.part) m failed).handler) job ≡ true
      lent_now = and-both (is_job i m.id job && is_same job.message m) _ (and-both (is_job i m.id job) (is_same job.message m) job_now (subst (λ (n : Message). is_same job.message n ≡ true) its_message (same_self job.message)))
          (handler_now (is_some (made_ready (slot_of (of_instance ws i) m.part) m failed).handler) held)

      old : (x : Job) → IsHeldJob c ws jobs x → IsHeldJob (after_take c m.session m.id) (slice_set ws i.0 (hand_out (of_instance ws i) m failed)) (jobs ++ job ∷ []) x
      old x g = record {
        only = count-append (is_job x.instance x.message.id) jobs (job ∷ []) ∙ (let f = apart (is_job x.instance x.message.id job) refl in let o = g.only in grind (arith, f, o));
        out = out_other ws (slice_set ws i.0 (hand_out (of_instance ws i) m failed)) i m.part x (others_put ws i (hand_out (of_instance ws i) m failed)) (slots failed) (never_here ws i m.part x not_out g.out) g.out;
        taken = λ live. taken (g.taken live);
      }
        where
          apart : (b : Bool) → is_job x.instance x.message.id job ≡ b → b ≡ false
          apart false e = refl
          apart true e =
              let f : is_job i m.id x ≡ true = let e1 = and-first (job.instance.0 == x.instance.0) (job.message.id.0 == x.message.id.0) e in
              let e2 = and-second (job.instance.0 == x.instance.0) (job.message.id.0 == x.message.id.0) e in
              and-both (x.instance.0 == i.0) (x.message.id.0 == m.id.0)
              (let f1 = subst (λ (n : InstanceId). (n.0 == x.instance.0) ≡ true) its_instance e1 in grind (arith, nat_tests, f1))
              (let f2 = subst (λ (n : Message). (n.id.0 == x.message.id.0) ≡ true) its_message e2 in grind (arith, nat_tests, f2)) in
              let g2 = no_job x g (is_job i m.id x) refl in
              sym f ∙ g2

          taken : IsTakenBy c x → IsTakenBy (after_take c m.session m.id) x
          taken t = taken_after c m.session m.id x t

      new : IsHeldJob (after_take c m.session m.id) (slice_set ws i.0 (hand_out (of_instance ws i) m failed)) (jobs ++ job ∷ []) job
      new = record {
        only = subst (λ (n : InstanceId). count (is_job n job.message.id) (jobs ++ job ∷ []) ≡ 1) (sym its_instance)
            (subst (λ (n : Message). count (is_job i n.id) (jobs ++ job ∷ []) ≡ 1) (sym its_message)
            (count-append (is_job i m.id) jobs (job ∷ []) ∙ (let zero = count-none (is_job i m.id) jobs (none_counted jobs a.held) in let f = job_now in grind (arith, zero, f))));
        out = subst (λ (n : InstanceId). is_lent_to job (slot_of (of_instance (slice_set ws i.0 (hand_out (of_instance ws i) m failed)) n) job.message.part).work ≡ true) (sym its_instance)
            (subst (λ (n : Message). is_lent_to job (slot_of (of_instance (slice_set ws i.0 (hand_out (of_instance ws i) m failed)) i) n.part).work ≡ true) (sym its_message)
            (subst (λ (z : Slot). is_lent_to job z.work ≡ true) (sym now)
            (and-both (is_exactly job.message m) _ (subst (λ (n : Message). is_exactly job.message n ≡ true) its_message (exactly_self job.message)) (handler_now (is_some (made_ready (slot_of (of_instance ws i) m.part) m failed).handler) held))));
        taken = λ live. taken;
      }
        where
          never_written : job.is_written ≡ true → ⊥
          never_written is = absurd (let z : true ≡ false = sym is ∙ unwritten in (cc))

          taken : IsTakenBy (after_take c m.session m.id) job
          taken =
              let v = accepted_here.waits (take_live c m.session m.id can) in
              let pending = found_pending c k m.session m.part v.now v.found in
              let untaken = v.untaken in
              let none : v.now.written ≡ false = grind (arith, pending, untaken) in
              record {
                now = record v.now { taken = true };
                found = subst (λ (n : Message). message_of (map (as_taken m.session m.id) c.mail) n.session n.part ≡ Some (record v.now { taken = true })) (sym its_message) now_taken;
                taken = record {
                  same = subst (λ (n : Message). is_same n v.now ≡ true) (sym its_message) v.same;
                  taken = refl;
                  written = none ∙ sym unwritten;
                  ended = λ is. absurd (never_written is);
                };
                row = λ is. absurd (never_written is);
              }

  -- put back, where the session isn't live
  pub put_back_in_step : (failed : Bool) (handler : Option ℕ) → is_live c.live m.session ≡ false
      → AreInStep c (slice_set (slice_set ws i.0 (hand_out (of_instance ws i) m failed)) i.0 (finish (of_instance (slice_set ws i.0 (hand_out (of_instance ws i) m failed)) i) m None handler)) jobs bag
  put_back_in_step failed handler dead =
      change_in_step c c ws ws2 jobs jobs bag i m.session m.part k a (record {
        others = λ n other. others_put (slice_set ws i.0 (hand_out (of_instance ws i) m failed)) i (finish (of_instance (slice_set ws i.0 (hand_out (of_instance ws i) m failed)) i) m None handler) n other ∙ others_put ws i (hand_out (of_instance ws i) m failed) n other;
        mine = accepted_here.of.session;
        session = ap (λ (p : Participant). p.session) here2 ∙ ap (λ (p : Participant). p.session) here1 ∙ accepted_here.of.session;
        active = active;
        distinct = subst (λ (p : Participant). AreDistinct (map (λ z. z.part) p.slots)) (sym here2)
            (distinct-put (of_instance (slice_set ws i.0 (hand_out (of_instance ws i) m failed)) i).slots _
            (subst (λ (p : Participant). AreDistinct (map (λ z. z.part) p.slots)) (sym here1)
            (subst (λ (xs : List Slot). AreDistinct (map (λ z. z.part) xs)) (sym (slots-hand_out (of_instance ws i) m failed))
            (distinct-put (of_instance ws i).slots (emptied_for (made_ready (slot_of (of_instance ws i) m.part) m failed) m) (a.each i).distinct))));
        slots = slots;
        board = board_stays c ws ws2 jobs bag i m.session m.part;
        slot = subst (λ (z : Slot). HasSlot c bag jobs i (Some m.session) m.part z) (sym now) (record {
          last = (active m.part).last;
          used = (active m.part).used;
          initial = (active m.part).initial;
          there = (active m.part).there;
          work = tt;
        });
        row_here = λ live idle. absurd (never live);
        mail_here = λ live n found. absurd (never live);
        last = subst (λ (z : Slot). nat_le (slot_of (of_instance ws i) m.part).last.0 z.last.0 ≡ true) (sym now) (grind (arith, nat_tests));
        jobs_held = each-le (IsHeldJob c ws jobs) (IsHeldJob c ws2 jobs)
            (λ x g. record {
              only = g.only;
              out = out_other ws ws2 i m.part x (λ n other. others_put (slice_set ws i.0 (hand_out (of_instance ws i) m failed)) i (finish (of_instance (slice_set ws i.0 (hand_out (of_instance ws i) m failed)) i) m None handler) n other ∙ others_put ws i (hand_out (of_instance ws i) m failed) n other) slots (never_here ws i m.part x not_out g.out) g.out;
              taken = g.taken;
            }) jobs a.held;
      })
    where
      never : is_live c.live m.session ≡ true → ⊥
      never live = absurd (let z : true ≡ false = sym live ∙ dead in (cc))

      ws2 : List Participant
      ws2 = slice_set (slice_set ws i.0 (hand_out (of_instance ws i) m failed)) i.0 (finish (of_instance (slice_set ws i.0 (hand_out (of_instance ws i) m failed)) i) m None handler)

      here1 : of_instance (slice_set ws i.0 (hand_out (of_instance ws i) m failed)) i ≡ hand_out (of_instance ws i) m failed
      here1 = here_put ws i (hand_out (of_instance ws i) m failed) (with_session ws i m.session accepted_here.of.session)

      here2 : of_instance (slice_set (slice_set ws i.0 (hand_out (of_instance ws i) m failed)) i.0 (finish (of_instance (slice_set ws i.0 (hand_out (of_instance ws i) m failed)) i) m None handler)) i
          ≡ finish (of_instance (slice_set ws i.0 (hand_out (of_instance ws i) m failed)) i) m None handler
      here2 =
          here_put (slice_set ws i.0 (hand_out (of_instance ws i) m failed)) i (finish (of_instance (slice_set ws i.0 (hand_out (of_instance ws i) m failed)) i) m None handler)
          (with_session (slice_set ws i.0 (hand_out (of_instance ws i) m failed)) i m.session (ap (λ (p : Participant). p.session) here1 ∙ accepted_here.of.session))

      now1 : slot_of (of_instance (slice_set ws i.0 (hand_out (of_instance ws i) m failed)) i) m.part ≡ emptied_for (made_ready (slot_of (of_instance ws i) m.part) m failed) m
      now1 =
          ap (λ (p : Participant). slot_of p m.part) here1 ∙ ap (λ (xs : List Slot). slot_in xs m.part) (slots-hand_out (of_instance ws i) m failed)
          ∙ slot_in-put (of_instance ws i).slots (emptied_for (made_ready (slot_of (of_instance ws i) m.part) m failed) m) m.part (part-slot_in (of_instance ws i).slots m.part)

      now : slot_of (of_instance (slice_set (slice_set ws i.0 (hand_out (of_instance ws i) m failed)) i.0 (finish (of_instance (slice_set ws i.0 (hand_out (of_instance ws i) m failed)) i) m None handler)) i) m.part
          ≡ brought (emptied_for (made_ready (slot_of (of_instance ws i) m.part) m failed) m) m.from handler
      now =
          let v = of_instance (slice_set ws i.0 (hand_out (of_instance ws i) m failed)) i in
          ap (λ (p : Participant). slot_of p m.part) here2 ∙ slot_in-put v.slots (brought (slot_of v m.part) m.from handler) m.part (part-slot_in v.slots m.part)
          ∙ ap (λ (z : Slot). brought z m.from handler) now1

      slots : (p : PartId) → part_eq m.part p ≡ false
          → slot_of (of_instance (slice_set (slice_set ws i.0 (hand_out (of_instance ws i) m failed)) i.0 (finish (of_instance (slice_set ws i.0 (hand_out (of_instance ws i) m failed)) i) m None handler)) i) p ≡ slot_of (of_instance ws i) p
      slots p other =
          let v = of_instance (slice_set ws i.0 (hand_out (of_instance ws i) m failed)) i in
          ap (λ (u : Participant). slot_of u p) here2
          ∙ slot_in-other v.slots (brought (slot_of v m.part) m.from handler) p (subst (λ (r : PartId). part_eq r p ≡ false) (sym (part-slot_in v.slots m.part)) other)
          ∙ ap (λ (u : Participant). slot_of u p) here1 ∙ ap (λ (xs : List Slot). slot_in xs p) (slots-hand_out (of_instance ws i) m failed)
          ∙ slot_in-other (of_instance ws i).slots (emptied_for (made_ready (slot_of (of_instance ws i) m.part) m failed) m) p (subst (λ (r : PartId). part_eq r p ≡ false) (sym (part-slot_in (of_instance ws i).slots m.part)) other)
