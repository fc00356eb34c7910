-- A job ends, and a message that was handed out is put back.
use Rattle.std.proofs.Common.{◌≡◌, ℕ, ◌≤◌, ◌==◌, not, Bool, true, false, List, [], ◌∷◌, filter, map, find, Option, Some, None, inr, refl, sym, ap, ◌∙◌, subst, arith}
use Rattle.std.specs.Prelude.{unwrap_or, nat_lt, nat_le, slice_set, if◌then◌else◌}
use Rattle.std.specs.List.{list_any, list_all}
use Rattle.std.proofs.lemmas.Bool.Decides.{nat_tests}
use Rattle.hx_lists.specs.Lists.{count}
use Rattle.hx_ids.specs.declared.InstanceId.{InstanceId}
use Rattle.hx_ids.specs.declared.StateId.{StateId}
use Rattle.hx_ids.specs.declared.SessionId.{SessionId}
use Rattle.hx_ids.specs.declared.MsgId.{MsgId}
use Rattle.hx_ids.specs.declared.PartId.{PartId}
use Rattle.hx_ids.specs.declared.Live.{Live}
use Rattle.hx_model.specs.Model.{dropped}
use Rattle.hx_model.specs.declared.ModelParts.{ModelParts}
use Rattle.hx_cluster.specs.declared.description.Resource.{Resource}
use Rattle.hx_cluster.specs.declared.state.Message.{Message}
use Rattle.hx_cluster.specs.declared.state.Cluster.{Cluster}
use Rattle.hx_cluster.specs.Ends.{part_eq, is_message, is_live, state_of, message_of, model_of, parts_of}
use Rattle.hx_cluster.specs.Steps.{session_of}
use Rattle.hx_cluster.specs.Messages.{initial_of, standing_of, is_same, state_after, has_id, after_ack}
use Rattle.hx_cluster.specs.Events.{has_part}
use Rattle.hx_replicas.specs.declared.slots.Work.TheVariants.{Out}
use Rattle.hx_replicas.specs.Participants.{Participant, Slot, slot_of, state_for, counts_as, is_idle, brought, end_of, finish}
use Rattle.hx_replicas.specs.Layout.{AreDistinct}
use Rattle.hx_replicas.proofs.Putting.{part-slot_in, slot_in-put}
use Rattle.hx_worlds.specs.World.{Job}
use Rattle.hx_worlds.specs.Jobs.{is_job}
use Rattle.hx_worlds.specs.Agree.{is_at_end}
use Rattle.hx_safe.proofs.Counting.{and-first, and-second, and-both, all-filter_more, all-find, any-filter_kept, find-passes}
use Rattle.hx_safe.proofs.Ends.{same-self, session_same, part_same, part_eq-self, find-filter}
use Rattle.hx_safe.proofs.Kept.{IsKept}
use Rattle.hx_agreed.specs.InStep.{of_instance, IsPending, is_lent_as, HasSlot, row_after, IsTakenBy, IsHeldJob, IsOldIn, AreInStep}
use Rattle.hx_agreed.proofs.Lists.{each-filter}
use Rattle.hx_agreed.proofs.Slots.{part_sym, slot_in-other, distinct-put, is_mine}
use Rattle.hx_agreed.proofs.Placed.{placed_busy}
use Rattle.hx_agreed.proofs.Frames.{same_is, one_instance, found_live, message_gone, one_number, IsOutFor, job_out, job_mine}
use Rattle.hx_agreed.proofs.Changes.{instance_same, is_replica, HasSameBoard, change_in_step}
use Rattle.hx_agreed.proofs.Replicas.{here_put, others_put, with_session, out_other, one_bagged}

pub count-filter_kept : {X : Type 0} (p k : X → Bool) → ((x : X) → p x ≡ true → k x ≡ true) → (xs : List X) → count p (filter k xs) ≡ count p xs
count-filter_kept p k h [] = refl
count-filter_kept p k h (x ∷ xs) = grind (arith, count-filter_kept p k h xs, h x)

-- a state that a row is put at counts as that row
put_counts : (u t initial : StateId) → state_for (Some u) t initial ≡ unwrap_or (row_after t) initial
put_counts u t initial = one (t.0 == dropped.0)
  where
    one : (b : Bool) → (if b then initial else t) ≡ unwrap_or (if b then None else Some t) initial
    one true = refl
    one false = refl

module _ (c d : Cluster) (ws : List Participant) (jobs : List Job) (bag : List Message) (k : IsKept c) (a : AreInStep c ws jobs bag) (j : Job) (h : IsHeldJob c ws jobs j) where
  pub out : (let w = of_instance ws j.instance in IsOutFor bag jobs j.instance w.session j.message.part (slot_of w j.message.part) j)
  out = job_out c ws jobs bag a j h

  pub mine : (of_instance ws j.instance).session ≡ Some j.message.session
  mine = job_mine c ws jobs bag a j h

  pub active : (p : PartId) → HasSlot c bag jobs j.instance (of_instance ws j.instance).session p (slot_of (of_instance ws j.instance) p)
  active = placed_busy c bag jobs j.instance (of_instance ws j.instance) (a.each j.instance) j.message.part (ap is_idle out.work)

  pub ids : j.message.id ≡ out.message.id
  ids = (same_is j.message out.message out.same).id

  out_is : (m n : Message) (x y : Bool) → Out m x ≡ Out n y → m ≡ n
  out_is m n x y e = (cc)

  -- a held job of the same slot is this one
  pub same_job : (x : Job) → IsHeldJob c ws jobs x → (j.instance.0 == x.instance.0) ≡ true → part_eq j.message.part x.message.part ≡ true → is_job j.instance j.message.id x ≡ true
  same_job x g e f =
      let i = instance_same j.instance x.instance e in
      let q = part_same j.message.part x.message.part f in
      let o = job_out c ws jobs bag a x g in
      let work : (slot_of (of_instance ws j.instance) j.message.part).work ≡ Out o.message o.is_held =
      subst (λ (n : InstanceId). (slot_of (of_instance ws n) j.message.part).work ≡ Out o.message o.is_held) (sym i)
      (subst (λ (p : PartId). (slot_of (of_instance ws x.instance) p).work ≡ Out o.message o.is_held) (sym q) o.work) in
      let same : o.message ≡ out.message = out_is o.message out.message o.is_held out.is_held (sym work ∙ out.work) in
      let number : x.message.id ≡ j.message.id = (same_is x.message o.message o.same).id ∙ ap (λ (m : Message). m.id) same ∙ sym ids in
      and-both (x.instance.0 == j.instance.0) (x.message.id.0 == j.message.id.0)
      (subst (λ (n : InstanceId). (x.instance.0 == n.0) ≡ true) (sym i) (same-self x.instance.0)) (subst (λ (n : MsgId). (x.message.id.0 == n.0) ≡ true) number (same-self x.message.id.0))

  pub never : (x : Job) → not (is_job j.instance j.message.id x) ≡ true → IsHeldJob c ws jobs x → (j.instance.0 == x.instance.0) ≡ true → part_eq j.message.part x.message.part ≡ true → ⊥
  never x other g e f = let yes = same_job x g e f in let no : not (is_job j.instance j.message.id x) ≡ false = ap not yes in absurd (let z : true ≡ false = sym other ∙ no in (cc))

  -- and one of the same replica
  pub other_replica : (x : Job) → not (is_job j.instance j.message.id x) ≡ true → IsHeldJob c ws jobs x → is_live c.live x.message.session ≡ true
      → is_replica j.message.session j.message.part x.message.session x.message.part ≡ false
  other_replica x other g live = one (is_replica j.message.session j.message.part x.message.session x.message.part) refl
    where
      one : (b : Bool) → is_replica j.message.session j.message.part x.message.session x.message.part ≡ b → b ≡ false
      one false e = refl
      one true e =
          let s = session_same x.message.session j.message.session (and-first (x.message.session.0 == j.message.session.0) (part_eq x.message.part j.message.part) e) in
          let theirs = (a.each x.instance).own x.message.session (job_mine c ws jobs bag a x g) live in
          let ours = (a.each j.instance).own j.message.session mine (subst (λ (u : SessionId). is_live c.live u ≡ true) s live) in
          let at = one_instance c k j.instance x.instance j.message.session ours (subst (λ (u : SessionId). session_of c x.instance ≡ Some u) s theirs) in
          absurd (never x other g at (part_sym j.message.part x.message.part ∙ and-second (x.message.session.0 == j.message.session.0) (part_eq x.message.part j.message.part) e))

  kept_lent : (m : Message) (is_held : Bool) (n : InstanceId) → ((y : Job) → is_lent_as n m is_held y ≡ true → is_job j.instance j.message.id y ≡ true → ⊥) → list_any (is_lent_as n m is_held) jobs ≡ true
      → list_any (is_lent_as n m is_held) (filter (λ x. not (is_job j.instance j.message.id x)) jobs) ≡ true
  kept_lent m is_held n apart is = any-filter_kept (is_lent_as n m is_held) (λ x. not (is_job j.instance j.message.id x)) (λ y e. one y e (is_job j.instance j.message.id y) refl) jobs is
    where
      one : (y : Job) → is_lent_as n m is_held y ≡ true → (b : Bool) → is_job j.instance j.message.id y ≡ b → not (is_job j.instance j.message.id y) ≡ true
      one y e true f = absurd (apart y e f)
      one y e false f = ap not f

  pub finish_in_step : HasSameBoard c d
      → ((t : SessionId) (p : PartId) → state_of d.rows t p ≡ state_of c.rows t p)
      → ((t : SessionId) (p : PartId) → is_replica j.message.session j.message.part t p ≡ false → message_of d.mail t p ≡ message_of c.mail t p)
      → ((n : Message) → message_of d.mail j.message.session j.message.part ≡ Some n → ⊥)
      → (is_live c.live j.message.session ≡ true → j.is_written ≡ true)
      → AreInStep d (slice_set ws j.instance.0 (finish (of_instance ws j.instance) j.message (Some j.outcome) j.handler)) (filter (λ x. not (is_job j.instance j.message.id x)) jobs) bag
  finish_in_step board rows mail gone written =
      change_in_step c d ws ws' jobs jobs' bag j.instance j.message.session j.message.part k a (record {
        others = others_put ws j.instance w';
        mine = mine;
        session = ap (λ (p : Participant). p.session) here ∙ mine;
        active = active;
        distinct = subst (λ (p : Participant). AreDistinct (map (λ z. z.part) p.slots)) (sym here) (distinct-put (of_instance ws j.instance).slots y (a.each j.instance).distinct);
        slots = slots;
        board = record {
          same = board;
          rows = λ t p e. rows t p;
          mail = mail;
          lent = λ n m is_held other is. kept_lent m is_held n (λ z e f. let at = and-first (z.instance.0 == n.0) (z.message.id.0 == m.id.0) (and-first (is_job n m.id z) (is_same z.message m) (and-first _ _ e)) in
              let by = and-first (z.instance.0 == j.instance.0) (z.message.id.0 == j.message.id.0) f in
              absurd (let no : true ≡ false = grind (arith, nat_tests, at, by, other) in (cc))) is;
          lent_here = λ p m is_held other its is. kept_lent m is_held j.instance (λ z e f. apart p m other its.of.part its.bagged z (and-first (is_job j.instance m.id z) (is_same z.message m) (and-first _ _ e)) f) is;
          before = λ n found. absurd (gone n found);
          pending = λ b s q its p. inr (old b s q p);
        };
        slot = subst (λ (z : Slot). HasSlot d bag jobs' j.instance (Some j.message.session) j.message.part z) (sym now) slot;
        row_here = λ alive idle. subst (λ (z : Slot). counts_as z (initial_of d j.message.part) ≡ standing_of d j.message.session j.message.part) (sym now) (stands alive);
        mail_here = λ alive n found. absurd (gone n found);
        last = subst (λ (z : Slot). nat_le (slot_of (of_instance ws j.instance) j.message.part).last.0 z.last.0 ≡ true) (sym now) (grind (arith, nat_tests));
        jobs_held = each-filter (IsHeldJob c ws jobs) (IsHeldJob d ws' jobs') (λ x. not (is_job j.instance j.message.id x)) (λ x other g. record {
          only = count-filter_kept (is_job x.instance x.message.id) (λ z. not (is_job j.instance j.message.id z)) (λ z e. kept x other z e (is_job j.instance j.message.id z) refl) jobs ∙ g.only;
          out = out_other ws ws' j.instance j.message.part x (others_put ws j.instance w') slots (never x other g) g.out;
          taken = λ alive. let before = subst (λ (ls : List Live). is_live ls x.message.session ≡ true) board.live alive in taken x (other_replica x other g before) (g.taken before);
        }) jobs a.held;
      })
    where
      x : Slot
      x = slot_of (of_instance ws j.instance) j.message.part

      y : Slot
      y = brought (slot_of (of_instance ws j.instance) j.message.part) (end_of j.message (Some j.outcome)) j.handler

      w' : Participant
      w' = finish (of_instance ws j.instance) j.message (Some j.outcome) j.handler

      ws' : List Participant
      ws' = slice_set ws j.instance.0 (finish (of_instance ws j.instance) j.message (Some j.outcome) j.handler)

      jobs' : List Job
      jobs' = filter (λ z. not (is_job j.instance j.message.id z)) jobs

      here : of_instance (slice_set ws j.instance.0 (finish (of_instance ws j.instance) j.message (Some j.outcome) j.handler)) j.instance ≡ finish (of_instance ws j.instance) j.message (Some j.outcome) j.handler
      here = here_put ws j.instance (finish (of_instance ws j.instance) j.message (Some j.outcome) j.handler) (with_session ws j.instance j.message.session mine)

      now : slot_of (of_instance (slice_set ws j.instance.0 (finish (of_instance ws j.instance) j.message (Some j.outcome) j.handler)) j.instance) j.message.part ≡ brought (slot_of (of_instance ws j.instance) j.message.part) (end_of j.message (Some j.outcome)) j.handler
      now = ap (λ (p : Participant). slot_of p j.message.part) here ∙ slot_in-put (of_instance ws j.instance).slots (brought (slot_of (of_instance ws j.instance) j.message.part) (end_of j.message (Some j.outcome)) j.handler) j.message.part (part-slot_in (of_instance ws j.instance).slots j.message.part)

      slots : (p : PartId) → part_eq j.message.part p ≡ false → slot_of (of_instance (slice_set ws j.instance.0 (finish (of_instance ws j.instance) j.message (Some j.outcome) j.handler)) j.instance) p ≡ slot_of (of_instance ws j.instance) p
      slots p other =
          ap (λ (v : Participant). slot_of v p) here
          ∙ slot_in-other (of_instance ws j.instance).slots (brought (slot_of (of_instance ws j.instance) j.message.part) (end_of j.message (Some j.outcome)) j.handler) p (subst (λ (r : PartId). part_eq r p ≡ false) (sym (part-slot_in (of_instance ws j.instance).slots j.message.part)) other)

      part_still : (r : PartId) → has_part c r ≡ true → has_part d r ≡ true
      part_still r e = ap (λ (rs : List Resource). nat_lt r.index (parts_of rs r.resource)) board.resources ∙ e

      initial_still : (r : PartId) → initial_of d r ≡ initial_of c r
      initial_still r = ap (λ (ms : List ModelParts). (model_of ms d.resources r.resource).initial) board.models ∙ ap (λ (rs : List Resource). (model_of c.models rs r.resource).initial) board.resources

      slot : HasSlot d bag (filter (λ z. not (is_job j.instance j.message.id z)) jobs) j.instance (Some j.message.session) j.message.part (brought (slot_of (of_instance ws j.instance) j.message.part) (end_of j.message (Some j.outcome)) j.handler)
      slot =
          let old = active j.message.part in
          record {
            last = ap (λ (n : ℕ). nat_lt (slot_of (of_instance ws j.instance) j.message.part).last.0 n) board.messages ∙ old.last;
            used = λ is. part_still j.message.part (old.used is);
            initial = λ t is. old.initial t is ∙ sym (initial_still j.message.part);
            there = λ is. part_still j.message.part (old.there is);
            work = tt;
          }

      stands : is_live c.live j.message.session ≡ true
          → state_for (slot_of (of_instance ws j.instance) j.message.part).initial (state_after j.message j.outcome) (initial_of d j.message.part) ≡ standing_of d j.message.session j.message.part
      stands alive =
          let t = h.taken alive in
          let row = rows j.message.session j.message.part ∙ t.row (written alive) in
          ap (λ (o : Option StateId). state_for o (state_after j.message j.outcome) (initial_of d j.message.part)) out.here.of.initial
          ∙ put_counts out.message.initial (state_after j.message j.outcome) (initial_of d j.message.part)
          ∙ ap (λ (o : Option StateId). unwrap_or o (initial_of d j.message.part)) (sym row)

      apart : (p : PartId) (m : Message) → part_eq j.message.part p ≡ false → m.part ≡ p → list_any (is_same m) bag ≡ true → (z : Job) → is_job j.instance m.id z ≡ true → is_job j.instance j.message.id z ≡ true → ⊥
      apart p m other part bagged z e f =
          let e2 = and-second (z.instance.0 == j.instance.0) (z.message.id.0 == m.id.0) e in
          let f2 = and-second (z.instance.0 == j.instance.0) (z.message.id.0 == j.message.id.0) f in
          let number : m.id.0 ≡ j.message.id.0 = grind (arith, nat_tests, e2, f2) in
          let same = one_bagged bag m out.message a.numbers bagged out.here.bagged (ap (λ (n : ℕ). record { 0 = n }) number ∙ ids) in
          let parts : j.message.part ≡ p = (same_is j.message out.message out.same).part ∙ sym (same_is m out.message same).part ∙ part in
          absurd (let no : true ≡ false = sym (subst (λ (r : PartId). part_eq j.message.part r ≡ true) parts (part_eq-self j.message.part)) ∙ other in (cc))

      old : (b : Message) → b.session ≡ j.message.session → b.part ≡ j.message.part → IsPending c b → IsOldIn ws' b
      old b s q p =
          let alive : is_live c.live j.message.session ≡ true = subst (λ (u : SessionId). is_live c.live u ≡ true) s (found_live c k b.session b.part p.now p.found) in
          let t = h.taken alive in
          let found : message_of c.mail j.message.session j.message.part ≡ Some p.now = subst (λ (u : SessionId). message_of c.mail u j.message.part ≡ Some p.now) s (subst (λ (r : PartId). message_of c.mail b.session r ≡ Some p.now) q p.found) in
          let same : p.now ≡ t.now = some_is p.now t.now (sym found ∙ t.found) in
          let number : b.id ≡ out.message.id = (same_is b p.now p.same).id ∙ ap (λ (n : Message). n.id) same ∙ sym (same_is j.message t.now t.taken.same).id ∙ ids in
          record {
            instance = j.instance;
            session = is_mine (of_instance ws' j.instance).session b.session (ap (λ (v : Participant). v.session) here ∙ mine ∙ ap (λ (u : SessionId). Some u) (sym s));
            last = subst (λ (r : PartId). nat_le b.id.0 (slot_of (of_instance ws' j.instance) r).last.0 ≡ true) (sym q)
                (subst (λ (z : Slot). nat_le b.id.0 z.last.0 ≡ true) (sym now) (let last : (slot_of (of_instance ws j.instance) j.message.part).last.0 ≡ b.id.0 = ap (λ (n : MsgId). n.0) (out.here.of.last ∙ sym number) in grind (arith, nat_tests, last)));
          }
        where
          some_is : (m n : Message) → Some m ≡ Some n → m ≡ n
          some_is m n e = (cc)

      kept : (x : Job) → not (is_job j.instance j.message.id x) ≡ true → (z : Job) → is_job x.instance x.message.id z ≡ true → (b : Bool) → is_job j.instance j.message.id z ≡ b → not (is_job j.instance j.message.id z) ≡ true
      kept x other z e false f = ap not f
      kept x other z e true f = absurd (let no : true ≡ false = grind (arith, nat_tests, other, e, f) in (cc))

      taken : (x : Job) → is_replica j.message.session j.message.part x.message.session x.message.part ≡ false → IsTakenBy c x → IsTakenBy d x
      taken x other t =
          let same = same_is x.message t.now t.taken.same in
          record {
            now = t.now;
            found = mail x.message.session x.message.part other ∙ t.found;
            taken = record {
              same = t.taken.same;
              taken = t.taken.taken;
              written = t.taken.written;
              ended = λ is. subst (λ (o : Option StateId). is_at_end (state_after t.now x.outcome) o ≡ true) (sym (rows t.now.session t.now.part)) (t.taken.ended is);
            };
            row = λ is. rows x.message.session x.message.part ∙ t.row is;
          }

-- a job whose session ended
pub end_in_step : (c : Cluster) (ws : List Participant) (jobs : List Job) (bag : List Message) (k : IsKept c) (a : AreInStep c ws jobs bag) (j : Job) → IsHeldJob c ws jobs j → is_live c.live j.message.session ≡ false
    → AreInStep c (slice_set ws j.instance.0 (finish (of_instance ws j.instance) j.message (Some j.outcome) j.handler)) (filter (λ x. not (is_job j.instance j.message.id x)) jobs) bag
end_in_step c ws jobs bag k a j h dead =
    finish_in_step c c ws jobs bag k a j h (record { live = refl; sessions = refl; messages = refl; models = refl; resources = refl }) (λ t p. refl) (λ t p e. refl)
    (λ n found. let none = message_gone c k j.message.session j.message.part dead in absurd (let no : ◌≡◌ {A = Option Message} None (Some n) = sym none ∙ found in (cc)))
    (λ live. absurd (let no : true ≡ false = sym live ∙ dead in (cc)))

-- an acknowledgement
find-filter_nothing : {X : Type 0} (q k : X → Bool) (xs : List X) → find q xs ≡ None → find q (filter k xs) ≡ None
find-filter_nothing q k [] e = refl
find-filter_nothing q k (x ∷ xs) e = grind (arith, e, find-filter_nothing q k xs)

find-filter_some : {X : Type 0} (q k : X → Bool) (xs : List X) (x : X) → find q xs ≡ Some x → k x ≡ true → find q (filter k xs) ≡ Some x
find-filter_some q k [] x e f = cc
find-filter_some q k (y ∷ xs) x e f = grind (arith, e, f, find-filter_some q k xs x)

number_is : (a b : MsgId) → (a.0 == b.0) ≡ true → a ≡ b
number_is a b e = let same : a.0 ≡ b.0 = grind (arith, nat_tests, e) in ap (λ (n : ℕ). record { 0 = n }) same

pub replica : (n : Message) (u : SessionId) (p : PartId) (s : SessionId) (q : PartId) → is_message u p n ≡ true → is_message s q n ≡ true → is_replica s q u p ≡ true
replica n u p s q one two =
    let nu = session_same n.session u (and-first (n.session.0 == u.0) (part_eq n.part p) one) in
    let np = part_same n.part p (and-second (n.session.0 == u.0) (part_eq n.part p) one) in
    let ns = session_same n.session s (and-first (n.session.0 == s.0) (part_eq n.part q) two) in
    let nq = part_same n.part q (and-second (n.session.0 == s.0) (part_eq n.part q) two) in
    and-both (u.0 == s.0) (part_eq p q) (subst (λ (x : SessionId). (u.0 == x.0) ≡ true) (sym nu ∙ ns) (same-self u.0)) (subst (λ (x : PartId). part_eq p x ≡ true) (sym np ∙ nq) (part_eq-self p))

ack_gone : (mail : List Message) (s : SessionId) (id : MsgId) (q : PartId) (m : Message) → message_of mail s q ≡ Some m → m.id ≡ id → count (is_message s q) mail ≤ 1 → (n : Message)
    → message_of (filter (λ x. not (has_id s id x)) mail) s q ≡ Some n → ⊥
ack_gone mail s id q m found same single n is =
    let there : message_of mail s q ≡ Some n = find-filter (is_message s q) (λ x. not (has_id s id x)) mail n single is in
    let mn : m ≡ n = some_is m n (sym found ∙ there) in
    let keeps = all-find (λ (x : Message). not (has_id s id x)) (is_message s q) (filter (λ x. not (has_id s id x)) mail) n (all-filter_more (λ (x : Message). true) (λ x. not (has_id s id x)) (λ x. not (has_id s id x)) (λ x e f. f) mail (every mail)) is in
    let mine = session_same n.session s (and-first (n.session.0 == s.0) (part_eq n.part q) (find-passes (is_message s q) (filter (λ x. not (has_id s id x)) mail) n is)) in
    let has : has_id s id n ≡ true = and-both (n.session.0 == s.0) (n.id.0 == id.0) (subst (λ (u : SessionId). (n.session.0 == u.0) ≡ true) mine (same-self n.session.0))
    (subst (λ (x : MsgId). (n.id.0 == x.0) ≡ true) (ap (λ (x : Message). x.id) (sym mn) ∙ same) (same-self n.id.0)) in
    absurd (let no : false ≡ true = sym (ap not has) ∙ keeps in (cc))
  where
    some_is : (a b : Message) → Some a ≡ Some b → a ≡ b
    some_is a b e = (cc)

    every : (xs : List Message) → list_all (λ x. true) xs ≡ true
    every [] = refl
    every (x ∷ xs) = every xs

pub ack_in_step : (c : Cluster) (ws : List Participant) (jobs : List Job) (bag : List Message) (k : IsKept c) (a : AreInStep c ws jobs bag) (j : Job) (h : IsHeldJob c ws jobs j) → j.is_written ≡ true
    → is_live c.live j.message.session ≡ true
    → AreInStep (after_ack c j.message.session j.message.id) (slice_set ws j.instance.0 (finish (of_instance ws j.instance) j.message (Some j.outcome) j.handler)) (filter (λ x. not (is_job j.instance j.message.id x)) jobs) bag
ack_in_step c ws jobs bag k a j h written live =
    let t = h.taken live in
    finish_in_step c (after_ack c j.message.session j.message.id) ws jobs bag k a j h (record { live = refl; sessions = refl; messages = refl; models = refl; resources = refl }) (λ u p. refl) (λ u p other. elsewhere u p other t)
    (ack_gone c.mail j.message.session j.message.id j.message.part t.now t.found (sym (same_is j.message t.now t.taken.same).id) (k.mail.single j.message.session j.message.part))
    (λ l. written)
  where
    elsewhere : (u : SessionId) (p : PartId) → is_replica j.message.session j.message.part u p ≡ false → IsTakenBy c j
        → message_of (filter (λ m. not (has_id j.message.session j.message.id m)) c.mail) u p ≡ message_of c.mail u p
    elsewhere u p other t = one (message_of c.mail u p) refl
      where
        keeps : (n : Message) → message_of c.mail u p ≡ Some n → (b : Bool) → has_id j.message.session j.message.id n ≡ b → not (has_id j.message.session j.message.id n) ≡ true
        keeps n is false e = ap not e
        keeps n is true e =
            let number : n.id ≡ t.now.id = number_is n.id j.message.id (and-second (n.session.0 == j.message.session.0) (n.id.0 == j.message.id.0) e) ∙ (same_is j.message t.now t.taken.same).id in
            let same = one_number c k u j.message.session p j.message.part n t.now is t.found number in
            let one = find-passes (is_message u p) c.mail n is in
            let two : is_message j.message.session j.message.part n ≡ true = subst (λ (m : Message). is_message j.message.session j.message.part m ≡ true) (sym same) (find-passes (is_message j.message.session j.message.part) c.mail t.now t.found) in
            absurd (let no : true ≡ false = sym (replica n u p j.message.session j.message.part one two) ∙ other in (cc))

        one : (o : Option Message) → message_of c.mail u p ≡ o → message_of (filter (λ m. not (has_id j.message.session j.message.id m)) c.mail) u p ≡ message_of c.mail u p
        one None is = find-filter_nothing (is_message u p) (λ m. not (has_id j.message.session j.message.id m)) c.mail is ∙ sym is
        one (Some n) is = find-filter_some (is_message u p) (λ m. not (has_id j.message.session j.message.id m)) c.mail n is (keeps n is (has_id j.message.session j.message.id n) refl) ∙ sym is
