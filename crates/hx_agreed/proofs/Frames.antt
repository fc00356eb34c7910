-- What stays of a participant, its slots and its jobs where a cluster changes elsewhere.
use Rattle.std.proofs.Common.{◌≡◌, ℕ, ◌≤◌, ◌&&◌, ◌||◌, ◌==◌, not, Bool, true, false, List, find, Option, Some, None, ◌⊎◌, inl, inr, refl, sym, ap, ◌∙◌, subst, arith}
use Rattle.std.specs.Prelude.{unwrap_or, is_some, nat_lt}
use Rattle.std.specs.List.{list_any}
use Rattle.std.specs.Option.{option_map}
use Rattle.std.proofs.lemmas.Bool.Decides.{nat_tests}
use Rattle.hx_ids.specs.declared.InstanceId.{InstanceId}
use Rattle.hx_ids.specs.declared.StateId.{StateId}
use Rattle.hx_ids.specs.declared.SessionId.{SessionId}
use Rattle.hx_ids.specs.declared.MsgId.{MsgId}
use Rattle.hx_ids.specs.declared.PartId.{PartId}
use Rattle.hx_ids.specs.declared.Live.{Live}
use Rattle.hx_model.specs.declared.ModelParts.{ModelParts}
use Rattle.hx_model.specs.Model.{is_legal}
use Rattle.hx_cluster.specs.declared.state.Row.{Row}
use Rattle.hx_cluster.specs.declared.state.Message.{Message}
use Rattle.hx_cluster.specs.declared.state.Cluster.{Cluster}
use Rattle.hx_cluster.specs.Ends.{part_eq, is_row, is_message, is_session, is_live, row_of, state_of, message_of, model_of}
use Rattle.hx_cluster.specs.Steps.{is_of, live_of, session_of}
use Rattle.hx_cluster.specs.Messages.{initial_of, is_same, state_after}
use Rattle.hx_cluster.specs.Events.{has_part}
use Rattle.hx_cluster.specs.Safe.{is_pending, is_kept}
use Rattle.hx_replicas.specs.declared.slots.Work.{Work}
use Rattle.hx_replicas.specs.declared.slots.Work.TheVariants.{Idle, Accepted, Out}
use Rattle.hx_replicas.specs.Participants.{Participant, Slot, slot_of, counts_as, state_for, is_session as is_mine}
use Rattle.hx_worlds.specs.World.{Job}
use Rattle.hx_worlds.specs.Agree.{is_below, is_known_at, is_accepted_as, is_out_as, is_exactly, is_lent_to, is_at_end}
use Rattle.hx_safe.proofs.Counting.{and-first, and-second, and-both, find-passes, find-single, all-find}
use Rattle.hx_safe.proofs.Ends.{same-self, session_same, part_same}
use Rattle.hx_safe.proofs.Kept.{IsKept, number-below}
use Rattle.hx_agreed.specs.InStep.{of_instance, IsUntaken, IsPending, is_lent_as, IsOutHere, Each, HasWork, HasSlot, IsAlong, IsUntouched, IsStale, IsPlaced, IsTakenBy, IsHeldJob, IsOldIn, IsInBag, AreInStep}
use Rattle.hx_agreed.proofs.Lists.{or-first, or-second}
use Rattle.hx_agreed.proofs.Lent.{exactly_same}
use Rattle.hx_agreed.proofs.Placed.{placed_work, placed_live}

-- what is used of two messages that are the same but for their marks
pub record AreSame (a b : Message) : Type 0 where
  pub id : a.id ≡ b.id
  pub session : a.session ≡ b.session
  pub part : a.part ≡ b.part
  pub to : a.to ≡ b.to

id_is : (a b : MsgId) → (a.0 == b.0) ≡ true → a ≡ b
id_is a b e = let same : a.0 ≡ b.0 = grind (arith, nat_tests, e) in ap (λ (n : ℕ). record { 0 = n }) same

state_is : (a b : StateId) → (a.0 == b.0) ≡ true → a ≡ b
state_is a b e = let same : a.0 ≡ b.0 = grind (arith, nat_tests, e) in ap (λ (n : ℕ). record { 0 = n }) same

pub same_is : (a b : Message) → is_same a b ≡ true → AreSame a b
same_is a b e = record {
  id = id_is a.id b.id (grind (arith, e));
  session = session_same a.session b.session (grind (arith, e));
  part = part_same a.part b.part (grind (arith, e));
  to = state_is a.to b.to (grind (arith, e));
}

pub same_initial : (a b : Message) → is_same a b ≡ true → a.initial ≡ b.initial
same_initial a b e = state_is a.initial b.initial (grind (arith, e))

pub same_sym : (a b : Message) → is_same a b ≡ true → is_same b a ≡ true
same_sym a b e = grind (arith, nat_tests, e)

pub same_both : (a b d : Message) → is_same a b ≡ true → is_same b d ≡ true → is_same a d ≡ true
same_both a b d e f = grind (arith, nat_tests, e, f)

-- a message that is above what was accepted is known
pub new_known : (x : Slot) (m : Message) → m.taken ≡ false → nat_lt x.last.0 m.id.0 ≡ true → is_known_at x m ≡ true
new_known x m untaken low =
    or-first (not m.taken && (is_accepted_as m x.work || nat_lt x.last.0 m.id.0)) (is_out_as m x.work)
    (and-both (not m.taken) (is_accepted_as m x.work || nat_lt x.last.0 m.id.0) (ap not untaken) (or-second (is_accepted_as m x.work) (nat_lt x.last.0 m.id.0) low))

-- replicas of a session that are alike in two clusters
pub record IsLike (c d : Cluster) (s : SessionId) : Type 0 where
  pub rows : (q : PartId) → state_of d.rows s q ≡ state_of c.rows s q
  pub mail : (q : PartId) → message_of d.mail s q ≡ message_of c.mail s q

-- parts stay, with their models
pub record HasParts (c d : Cluster) : Type 0 where
  pub part : (q : PartId) → has_part c q ≡ true → has_part d q ≡ true
  pub model : (q : PartId) → has_part c q ≡ true → model_of d.models d.resources q.resource ≡ model_of c.models c.resources q.resource

pub initial_like : (c d : Cluster) → HasParts c d → (q : PartId) → has_part c q ≡ true → initial_of d q ≡ initial_of c q
initial_like c d parts q there = ap (λ (m : ModelParts). m.initial) (parts.model q there)

pub untaken_like : (c d : Cluster) (m : Message) → IsLike c d m.session → IsUntaken c m → IsUntaken d m
untaken_like c d m like u = record { now = u.now; found = like.mail m.part ∙ u.found; same = u.same; untaken = u.untaken }

pub pending_like : (c d : Cluster) (m : Message) → IsLike c d m.session → IsPending c m → IsPending d m
pending_like c d m like u = record { now = u.now; found = like.mail m.part ∙ u.found; same = u.same }

pub untouched_like : (c d : Cluster) (s : SessionId) → IsLike c d s → IsUntouched c s → IsUntouched d s
untouched_like c d s like u = record { rows = λ q. like.rows q ∙ u.rows q; mail = λ q m e. u.mail q m (sym (like.mail q) ∙ e) }

pub taken_like : (c d : Cluster) (j : Job) → IsLike c d j.message.session → IsTakenBy c j → IsTakenBy d j
taken_like c d j like t =
    let same = same_is j.message t.now t.taken.same in
    record {
      now = t.now;
      found = like.mail j.message.part ∙ t.found;
      taken = record {
        same = t.taken.same;
        taken = t.taken.taken;
        written = t.taken.written;
        ended = λ is. subst (λ (o : Option StateId). is_at_end (state_after t.now j.outcome) o ≡ true)
            (sym (subst (λ (s : SessionId). state_of d.rows s t.now.part ≡ state_of c.rows s t.now.part) same.session (like.rows t.now.part))) (t.taken.ended is);
      };
      row = λ is. like.rows j.message.part ∙ t.row is;
    }

-- where the cluster is kept, what has no part has no row, and what isn't live has neither row nor message
module _ (c : Cluster) (k : IsKept c) where
  row_passes : (s : SessionId) (q : PartId) (p : Row → Bool) → ((r : Row) → is_kept c r ≡ true → is_row s q r ≡ true → p r ≡ true) → (o : Option Row) → row_of c.rows s q ≡ o → (r : Row) → o ≡ Some r → p r ≡ true
  row_passes s q p h None is r e = cc
  row_passes s q p h (Some x) is r e =
      let same : x ≡ r = cc in
      subst (λ (y : Row). p y ≡ true) same (h x (all-find (is_kept c) (is_row s q) c.rows x k.rows.kept is) (find-passes (is_row s q) c.rows x is))

  no_state : (s : SessionId) (q : PartId) → ((r : Row) → row_of c.rows s q ≡ Some r → ⊥) → state_of c.rows s q ≡ None
  no_state s q never = one (row_of c.rows s q) refl
    where
      one : (o : Option Row) → row_of c.rows s q ≡ o → option_map (λ r. r.state) o ≡ None
      one None is = refl
      one (Some r) is = absurd (never r is)

  pub no_part : (s : SessionId) (q : PartId) → has_part c q ≡ false → state_of c.rows s q ≡ None
  no_part s q none = no_state s q (λ r is.
      let kept : is_kept c r ≡ true = all-find (is_kept c) (is_row s q) c.rows r k.rows.kept is in
      let there : has_part c r.part ≡ true = grind (arith, kept) in
      let same = part_same r.part q (and-second (r.session.0 == s.0) (part_eq r.part q) (find-passes (is_row s q) c.rows r is)) in
      let yes : has_part c q ≡ true = subst (λ (p : PartId). has_part c p ≡ true) same there in
      cc)

  pub row_gone : (s : SessionId) (q : PartId) → is_live c.live s ≡ false → state_of c.rows s q ≡ None
  row_gone s q none = no_state s q (λ r is.
      let kept : is_kept c r ≡ true = all-find (is_kept c) (is_row s q) c.rows r k.rows.kept is in
      let there : is_live c.live r.session ≡ true = grind (arith, kept) in
      let same = session_same r.session s (and-first (r.session.0 == s.0) (part_eq r.part q) (find-passes (is_row s q) c.rows r is)) in
      let yes : is_live c.live s ≡ true = subst (λ (u : SessionId). is_live c.live u ≡ true) same there in
      cc)

  -- what holds of a message that is pending
  pub found_pending : (s : SessionId) (q : PartId) (m : Message) → message_of c.mail s q ≡ Some m → is_pending c m ≡ true
  found_pending s q m is = all-find (is_pending c) (is_message s q) c.mail m k.mail.pending is

  pub found_session : (s : SessionId) (q : PartId) (m : Message) → message_of c.mail s q ≡ Some m → m.session ≡ s
  found_session s q m is = session_same m.session s (and-first (m.session.0 == s.0) (part_eq m.part q) (find-passes (is_message s q) c.mail m is))

  pub found_part : (s : SessionId) (q : PartId) (m : Message) → message_of c.mail s q ≡ Some m → m.part ≡ q
  found_part s q m is = part_same m.part q (and-second (m.session.0 == s.0) (part_eq m.part q) (find-passes (is_message s q) c.mail m is))

  pub found_live : (s : SessionId) (q : PartId) (m : Message) → message_of c.mail s q ≡ Some m → is_live c.live s ≡ true
  found_live s q m is =
      let p = found_pending s q m is in
      let there : is_live c.live m.session ≡ true = grind (arith, p) in
      subst (λ (u : SessionId). is_live c.live u ≡ true) (found_session s q m is) there

  pub message_gone : (s : SessionId) (q : PartId) → is_live c.live s ≡ false → message_of c.mail s q ≡ None
  message_gone s q none = one (message_of c.mail s q) refl
    where
      one : (o : Option Message) → message_of c.mail s q ≡ o → o ≡ None
      one None is = refl
      one (Some m) is = let yes = found_live s q m is in cc

  -- two that have one number are one
  pub one_number : (s t : SessionId) (q p : PartId) (m n : Message) → message_of c.mail s q ≡ Some m → message_of c.mail t p ≡ Some n → m.id ≡ n.id → m ≡ n
  one_number s t q p m n e f same =
      let a : find (λ x. x.id.0 == n.id.0) c.mail ≡ Some m =
      find-single (is_message s q) (λ x. x.id.0 == n.id.0) c.mail m e (subst (λ (id : MsgId). (m.id.0 == id.0) ≡ true) same (same-self m.id.0)) (k.mail.numbers n.id) in
      let b : find (λ x. x.id.0 == n.id.0) c.mail ≡ Some n = find-single (is_message t p) (λ x. x.id.0 == n.id.0) c.mail n f (same-self n.id.0) (k.mail.numbers n.id) in
      cc

  -- live sessions
  live_below : (s : SessionId) → is_live c.live s ≡ true → nat_lt s.0 c.next_session ≡ true
  live_below s is = number-below c.next_session s c.live k.below is

  pub not_live_above : (s : SessionId) → nat_lt s.0 c.next_session ≡ false → is_live c.live s ≡ false
  not_live_above s high = one (is_live c.live s) refl
    where
      one : (b : Bool) → is_live c.live s ≡ b → b ≡ false
      one true is = let low = live_below s is in cc
      one false is = refl

-- the session of an instance has one instance
pub one_instance : (c : Cluster) → IsKept c → (i j : InstanceId) (s : SessionId) → session_of c i ≡ Some s → session_of c j ≡ Some s → (i.0 == j.0) ≡ true
one_instance c k i j s a b = one (live_of c.live i) refl a (live_of c.live j) refl b
  where
    one : (o : Option Live) → live_of c.live i ≡ o → option_map (λ l. l.session) o ≡ Some s → (p : Option Live) → live_of c.live j ≡ p → option_map (λ l. l.session) p ≡ Some s → (i.0 == j.0) ≡ true
    one None e f p g h = cc
    one (Some l) e f None g h = cc
    one (Some l) e f (Some m) g h =
        let ls : l.session ≡ s = cc in
        let ms : m.session ≡ s = cc in
        let x : find (is_session s) c.live ≡ Some l = find-single (is_of i) (is_session s) c.live l e (subst (λ (u : SessionId). (l.session.0 == u.0) ≡ true) ls (same-self l.session.0)) (k.numbers s) in
        let y : find (is_session s) c.live ≡ Some m = find-single (is_of j) (is_session s) c.live m g (subst (λ (u : SessionId). (m.session.0 == u.0) ≡ true) ms (same-self m.session.0)) (k.numbers s) in
        let same : l ≡ m = cc in
        let li = find-passes (is_of i) c.live l e in
        let mj = find-passes (is_of j) c.live m g in
        let lj : (l.instance.0 == j.0) ≡ true = subst (λ (z : Live). (z.instance.0 == j.0) ≡ true) (sym same) mj in
        grind (arith, nat_tests, li, lj)

-- slots
pub work_like : (c d : Cluster) (bag bag' : List Message) (jobs jobs' : List Job) (i : InstanceId) (mine : Option SessionId) (q : PartId) (x : Slot) (w : Work)
    → ((m : Message) → list_any (is_same m) bag ≡ true → list_any (is_same m) bag' ≡ true)
    → ((m : Message) (is_held : Bool) → w ≡ Out m is_held → list_any (is_lent_as i m is_held) jobs ≡ true → list_any (is_lent_as i m is_held) jobs' ≡ true)
    → ((m : Message) → mine ≡ Some m.session → m.part ≡ q → is_live d.live m.session ≡ true → (is_live c.live m.session ≡ true → IsUntaken c m) → IsUntaken d m)
    → HasWork c bag jobs i mine q x w → HasWork d bag' jobs' i mine q x w
work_like c d bag bag' jobs jobs' i mine q x Idle more held waits h = tt
work_like c d bag bag' jobs jobs' i mine q x (Accepted m) more held waits h = record { of = h.of; bagged = more m h.bagged; waits = λ live. waits m h.of.session h.of.part live h.waits }
work_like c d bag bag' jobs jobs' i mine q x (Out m is_held) more held waits h = record { of = h.of; bagged = more m h.bagged; job = held m is_held refl h.job }

pub slot_like : (c d : Cluster) (bag bag' : List Message) (jobs jobs' : List Job) (i : InstanceId) (mine : Option SessionId) (q : PartId) (x : Slot)
    → HasParts c d → c.next_msg ≤ d.next_msg → HasWork d bag' jobs' i mine q x x.work → HasSlot c bag jobs i mine q x → HasSlot d bag' jobs' i mine q x
slot_like c d bag bag' jobs jobs' i mine q x parts rise work h = record {
  last = let low = h.last in grind (arith, nat_tests, low, rise);
  used = λ is. parts.part q (h.used is);
  initial = λ t is. h.initial t is ∙ sym (initial_like c d parts q (h.there (ap (λ (o : Option StateId). is_some o) is)));
  there = λ is. parts.part q (h.there is);
  work = work;
}

-- replicas that stand at their rows
pub row_like : (c d : Cluster) (x : Slot) (s : SessionId) (q : PartId) → IsKept c → HasParts c d → state_of d.rows s q ≡ state_of c.rows s q → (is_some x.initial ≡ true → has_part c q ≡ true)
    → counts_as x (initial_of c q) ≡ unwrap_or (state_of c.rows s q) (initial_of c q) → counts_as x (initial_of d q) ≡ unwrap_or (state_of d.rows s q) (initial_of d q)
row_like c d x s q k parts row there e = one (has_part c q) refl
  where
    unused : (o : Option StateId) → x.initial ≡ o → has_part c q ≡ false → (t : StateId) → state_for o x.state t ≡ t
    unused None is none t = refl
    unused (Some u) is none t = let yes = there (ap (λ (o : Option StateId). is_some o) is) in cc

    one : (b : Bool) → has_part c q ≡ b → counts_as x (initial_of d q) ≡ unwrap_or (state_of d.rows s q) (initial_of d q)
    one true is =
        subst (λ (o : Option StateId). counts_as x (initial_of d q) ≡ unwrap_or o (initial_of d q)) (sym row)
        (subst (λ (t : StateId). counts_as x t ≡ unwrap_or (state_of c.rows s q) t) (sym (initial_like c d parts q is)) e)
    one false is =
        subst (λ (o : Option StateId). counts_as x (initial_of d q) ≡ unwrap_or o (initial_of d q)) (sym (row ∙ no_part c k s q is)) (unused x.initial refl is (initial_of d q))

pub along_like : (c d : Cluster) (bag : List Message) (jobs : List Job) (i : InstanceId) (w : Participant) (s : SessionId) → IsKept c → HasParts c d → IsLike c d s → IsPlaced c bag jobs i w
    → w.session ≡ Some s → is_live c.live s ≡ true → IsAlong c w s → IsAlong d w s
along_like c d bag jobs i w s k parts like p mine live a = record {
  rows = λ q out. row_like c d (slot_of w q) s q k parts (like.rows q) (placed_live c bag jobs i w p s mine live q).there (a.rows q out);
  mail = λ q m is. a.mail q m (sym (like.mail q) ∙ is);
}

-- a participant to whom nothing happens
pub placed_like : (c d : Cluster) (bag bag' : List Message) (jobs jobs' : List Job) (i : InstanceId) (w : Participant) → IsKept c → HasParts c d → c.next_msg ≤ d.next_msg → c.next_session ≤ d.next_session
    → ((m : Message) → list_any (is_same m) bag ≡ true → list_any (is_same m) bag' ≡ true)
    → ((m : Message) (is_held : Bool) → list_any (is_lent_as i m is_held) jobs ≡ true → list_any (is_lent_as i m is_held) jobs' ≡ true)
    → ((s : SessionId) → w.session ≡ Some s → is_live d.live s ≡ true → (is_live c.live s ≡ true) × (session_of c i ≡ Some s → session_of d i ≡ Some s) × IsLike c d s)
    → ((s : SessionId) → session_of d i ≡ Some s → (w.session ≡ Some s) ⊎ IsUntouched d s)
    → (IsStale c bag w → Each (λ m. is_mine w.session m.session ≡ false) bag')
    → IsPlaced c bag jobs i w → IsPlaced d bag' jobs' i w
placed_like c d bag bag' jobs jobs' i w k parts rise up more held live free apart p = record {
  distinct = p.distinct;
  below = one w.session p.below;
  own = λ s is e. let l = live s is e in l.1 (p.own s is l.0);
  slots = slots p.slots;
  along = λ s is e. let l = live s is e in along_like c d bag jobs i w s k parts l.2 p is l.0 (p.along s is l.0);
  free = free;
}
  where
    one : (o : Option SessionId) → is_below c.next_session o ≡ true → is_below d.next_session o ≡ true
    one None e = refl
    one (Some s) e = grind (arith, nat_tests, e, up)

    dead : (s : SessionId) → w.session ≡ Some s → is_live c.live s ≡ false → (b : Bool) → is_live d.live s ≡ b → b ≡ false
    dead s mine gone true e = sym (live s mine e).0 ∙ gone
    dead s mine gone false e = refl

    slots : IsStale c bag w ⊎ ((q : PartId) → HasSlot c bag jobs i w.session q (slot_of w q)) → IsStale d bag' w ⊎ ((q : PartId) → HasSlot d bag' jobs' i w.session q (slot_of w q))
    slots (inl stale) = inl (record { idle = stale.idle; dead = λ s mine. dead s mine (stale.dead s mine) (is_live d.live s) refl; apart = apart stale })
    slots (inr each) = inr (λ q. slot_like c d bag bag' jobs jobs' i w.session q (slot_of w q) parts rise
        (work_like c d bag bag' jobs jobs' i w.session q (slot_of w q) (slot_of w q).work more (λ m is_held e. held m is_held)
        (λ m mine of e u. let l = live m.session mine e in untaken_like c d m l.2 (u l.0)) (each q).work) (each q))

-- the message that a job's slot is out for
pub record IsOutFor (bag : List Message) (jobs : List Job) (i : InstanceId) (mine : Option SessionId) (q : PartId) (x : Slot) (j : Job) : Type 0 where
  pub message : Message
  pub is_held : Bool
  pub work : x.work ≡ Out message is_held
  pub same : is_same j.message message ≡ true
  pub here : IsOutHere bag jobs i mine q x message is_held

pub out_for : (c : Cluster) (bag : List Message) (jobs : List Job) (i : InstanceId) (mine : Option SessionId) (q : PartId) (x : Slot) (j : Job) (w : Work) → x.work ≡ w
    → is_lent_to j w ≡ true → HasWork c bag jobs i mine q x w → IsOutFor bag jobs i mine q x j
out_for c bag jobs i mine q x j Idle is e h = cc
out_for c bag jobs i mine q x j (Accepted m) is e h = cc
out_for c bag jobs i mine q x j (Out m is_held) is e h = record { message = m; is_held = is_held; work = is; same = exactly_same j.message m (and-first (is_exactly j.message m) _ e); here = h }

module _ (c : Cluster) (ws : List Participant) (jobs : List Job) (bag : List Message) (s : AreInStep c ws jobs bag) where
  pub job_out : (j : Job) → IsHeldJob c ws jobs j → (let w = of_instance ws j.instance in IsOutFor bag jobs j.instance w.session j.message.part (slot_of w j.message.part) j)
  job_out j h =
      let w = of_instance ws j.instance in
      let x = slot_of w j.message.part in
      out_for c bag jobs j.instance w.session j.message.part x j x.work refl h.out (placed_work c bag jobs j.instance w (s.each j.instance) j.message.part)

  pub job_mine : (j : Job) → IsHeldJob c ws jobs j → (of_instance ws j.instance).session ≡ Some j.message.session
  job_mine j h =
      let o = job_out j h in
      o.here.of.session ∙ ap (λ (t : SessionId). Some t) (sym (same_is j.message o.message o.same).session)

  pub mine_below : (i : InstanceId) (t : SessionId) → (of_instance ws i).session ≡ Some t → nat_lt t.0 c.next_session ≡ true
  mine_below i t mine = subst (λ (o : Option SessionId). is_below c.next_session o ≡ true) mine (s.each i).below

-- the bag
pub in_bag_like : (c d : Cluster) (ws ws' : List Participant) (m : Message) → HasParts c d → c.next_msg ≤ d.next_msg → c.next_session ≤ d.next_session
    → (is_live d.live m.session ≡ true → IsPending d m ⊎ IsOldIn ws' m)
    → ((t : SessionId) (q : PartId) (n : Message) → message_of d.mail t q ≡ Some n → (n.id.0 == m.id.0) ≡ true → is_same m n ≡ true)
    → IsInBag c ws m → IsInBag d ws' m
in_bag_like c d ws ws' m parts rise up pending same b = record {
  id = let low = b.id in grind (arith, nat_tests, low, rise);
  session = let low = b.session in grind (arith, nat_tests, low, up);
  part = parts.part m.part b.part;
  legal = subst (λ (x : ModelParts). is_legal x m.from m.to ≡ true) (sym (parts.model m.part b.part)) b.legal;
  initial = b.initial ∙ sym (initial_like c d parts m.part b.part);
  pending = pending;
  same = same;
}
