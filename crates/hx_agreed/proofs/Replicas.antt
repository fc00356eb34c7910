-- A participant accepts a message, and a job ends.
use Rattle.std.proofs.Common.{◌≡◌, ℕ, ◌<◌, ◌≤◌, ◌&&◌, ◌||◌, ◌==◌, not, Bool, true, false, List, map, length, Option, Some, None, ◌⊎◌, inl, inr, refl, sym, ap, ◌∙◌, subst, arith}
use Rattle.std.specs.Prelude.{nat_lt, nat_le, slice_set, slice_index_or, if◌then◌else◌}
use Rattle.std.specs.List.{list_any}
use Rattle.std.proofs.lemmas.Bool.Decides.{nat_tests}
use Rattle.hx_lists.specs.Lists.{count}
use Rattle.hx_ids.specs.declared.InstanceId.{InstanceId}
use Rattle.hx_ids.specs.declared.StateId.{StateId}
use Rattle.hx_ids.specs.declared.SessionId.{SessionId}
use Rattle.hx_ids.specs.declared.MsgId.{MsgId}
use Rattle.hx_ids.specs.declared.PartId.{PartId}
use Rattle.hx_model.specs.Model.{dropped}
use Rattle.hx_cluster.specs.declared.state.Message.{Message}
use Rattle.hx_cluster.specs.declared.state.Cluster.{Cluster}
use Rattle.hx_cluster.specs.Ends.{part_eq, is_live, message_of}
use Rattle.hx_cluster.specs.Messages.{initial_of, standing_of, is_same}
use Rattle.hx_replicas.specs.declared.DeliverFault.TheVariants as faults
use Rattle.hx_replicas.specs.declared.slots.Work.{Work}
use Rattle.hx_replicas.specs.declared.slots.Work.TheVariants.{Idle, Accepted, Out}
use Rattle.hx_replicas.specs.Participants.{Participant, Slot, new_participant, slot_of, state_for, counts_as, is_out, is_session, slot_fault, deliver_fault, accepted, accept}
use Rattle.hx_replicas.specs.Layout.{AreDistinct}
use Rattle.hx_replicas.proofs.Putting.{part-slot_in, slot_in-put}
use Rattle.hx_worlds.specs.World.{Job}
use Rattle.hx_worlds.specs.Agree.{is_known_at, is_accepted_as, is_out_as, is_lent_to}
use Rattle.hx_safe.proofs.Counting.{and-both}
use Rattle.hx_safe.proofs.Ends.{same-self, part_same}
use Rattle.hx_safe.proofs.Kept.{IsKept}
use Rattle.hx_safe.proofs.Waiting.{any-one, any-single}
use Rattle.hx_agreed.specs.InStep.{of_instance, IsUntaken, IsPending, HasSlot, IsHeldJob, IsOldIn, IsInBag, has_number, AreInStep}
use Rattle.hx_agreed.proofs.Lists.{each-le, or-first, in_range, put_here, put_other}
use Rattle.hx_agreed.proofs.Slots.{slot_in-other, distinct-put, is_mine, mine_is}
use Rattle.hx_agreed.proofs.Placed.{placed_named}
use Rattle.hx_agreed.proofs.Frames.{same_is, same_sym, same_both, one_instance}
use Rattle.hx_agreed.proofs.Changes.{instance_same, board_stays, change_in_step}

-- a participant that is put
pub here_put : (ws : List Participant) (i : InstanceId) (y : Participant) → i.0 < length ws → of_instance (slice_set ws i.0 y) i ≡ y
here_put ws i y lt = put_here ws i.0 y new_participant lt

pub others_put : (ws : List Participant) (i : InstanceId) (y : Participant) (j : InstanceId) → (i.0 == j.0) ≡ false → of_instance (slice_set ws i.0 y) j ≡ of_instance ws j
others_put ws i y j other = put_other ws i.0 j.0 y new_participant other

pub with_session : (ws : List Participant) (i : InstanceId) (s : SessionId) → (of_instance ws i).session ≡ Some s → i.0 < length ws
with_session ws i s mine = one (in_range ws i.0)
  where
    one : (i.0 < length ws) ⊎ (slice_index_or ws i.0 new_participant ≡ new_participant) → i.0 < length ws
    one (inl lt) = lt
    one (inr new) = let none : (of_instance ws i).session ≡ None = ap (λ (w : Participant). w.session) new in absurd (let no : ◌≡◌ {A = Option SessionId} None (Some s) = sym none ∙ mine in (cc))

-- a slot that stood at its row, and gets a message that fits, counts as before
counts_again : (o : Option StateId) (state t from u : StateId) → state_for o state t ≡ from → state_for (Some u) from t ≡ from
counts_again o state t from u e = one (from.0 == dropped.0) refl o e (state.0 == dropped.0) refl
  where
    one : (b : Bool) → (from.0 == dropped.0) ≡ b → (o : Option StateId) → state_for o state t ≡ from → (x : Bool) → (state.0 == dropped.0) ≡ x → state_for (Some u) from t ≡ from
    one false is o e x f = rw is refl
    one true is None e x f = rw is e
    one true is (Some v) e true f = let g : state_for (Some v) state t ≡ t = rw f refl in rw is (sym g ∙ e)
    one true is (Some v) e false f =
        let g : state_for (Some v) state t ≡ state = rw f refl in
        let same : state ≡ from = sym g ∙ e in
        let no : (from.0 == dropped.0) ≡ false = subst (λ (y : StateId). (y.0 == dropped.0) ≡ false) same f in
        absurd (let x : true ≡ false = sym is ∙ no in (cc))

-- a job of another slot
pub out_other : (ws ws' : List Participant) (i : InstanceId) (q : PartId) (j : Job)
    → ((n : InstanceId) → (i.0 == n.0) ≡ false → of_instance ws' n ≡ of_instance ws n)
    → ((p : PartId) → part_eq q p ≡ false → slot_of (of_instance ws' i) p ≡ slot_of (of_instance ws i) p)
    → ((i.0 == j.instance.0) ≡ true → part_eq q j.message.part ≡ true → ⊥)
    → is_lent_to j (slot_of (of_instance ws j.instance) j.message.part).work ≡ true → is_lent_to j (slot_of (of_instance ws' j.instance) j.message.part).work ≡ true
out_other ws ws' i q j others slots never out = one (i.0 == j.instance.0) refl (part_eq q j.message.part) refl
  where
    one : (a : Bool) → (i.0 == j.instance.0) ≡ a → (b : Bool) → part_eq q j.message.part ≡ b → is_lent_to j (slot_of (of_instance ws' j.instance) j.message.part).work ≡ true
    one false e b f = subst (λ (w : Participant). is_lent_to j (slot_of w j.message.part).work ≡ true) (sym (others j.instance e)) out
    one true e true f = absurd (never e f)
    one true e false f =
        let same = instance_same i j.instance e in
        subst (λ (n : InstanceId). is_lent_to j (slot_of (of_instance ws' n) j.message.part).work ≡ true) same
        (subst (λ (x : Slot). is_lent_to j x.work ≡ true) (sym (slots j.message.part f)) (subst (λ (n : InstanceId). is_lent_to j (slot_of (of_instance ws n) j.message.part).work ≡ true) (sym same) out))

-- a slot that isn't out has no job
pub never_here : (ws : List Participant) (i : InstanceId) (q : PartId) (j : Job) → is_out (slot_of (of_instance ws i) q).work ≡ false
    → is_lent_to j (slot_of (of_instance ws j.instance) j.message.part).work ≡ true → (i.0 == j.instance.0) ≡ true → part_eq q j.message.part ≡ true → ⊥
never_here ws i q j idle out e f =
    let same = instance_same i j.instance e in
    let part = part_same q j.message.part f in
    one (slot_of (of_instance ws i) q).work idle
    (subst (λ (n : InstanceId). is_lent_to j (slot_of (of_instance ws n) q).work ≡ true) (sym same) (subst (λ (p : PartId). is_lent_to j (slot_of (of_instance ws j.instance) p).work ≡ true) (sym part) out))
  where
    one : (w : Work) → is_out w ≡ false → is_lent_to j w ≡ true → ⊥
    one Idle a b = (cc)
    one (Accepted m) a b = (cc)
    one (Out m is_held) a b = (cc)

-- two messages of the bag that have one number are the same
pub one_bagged : (bag : List Message) (m n : Message) → ((id : MsgId) → count (has_number id) bag ≤ 1) → list_any (is_same m) bag ≡ true → list_any (is_same n) bag ≡ true → m.id ≡ n.id → is_same m n ≡ true
one_bagged bag m n most a b same =
    let x = any-one (is_same n) bag b in
    let all = any-single (is_same m) (has_number n.id) (λ (y : Message). is_same m y)
    (λ y e. subst (λ (id : MsgId). (y.id.0 == id.0) ≡ true) (sym (same_is m y e).id ∙ same) (same-self y.id.0))
    (λ y e. e) bag a (most n.id) in
    let at = x.2 (λ y. not (has_number n.id y) || is_same m y) all in
    let number : has_number n.id x.0 ≡ true = subst (λ (id : MsgId). (x.0.id.0 == id.0) ≡ true) (sym (same_is n x.0 x.1).id) (same-self x.0.id.0) in
    let mx : is_same m x.0 ≡ true = grind (arith, at, number) in
    same_both m x.0 n mx (same_sym n x.0 x.1)

-- a delivery that nothing refuses
pub record IsAcceptable (w : Participant) (m : Message) : Type 0 where
  pub mine : w.session ≡ Some m.session
  pub idle : (slot_of w m.part).work ≡ Idle
  pub above : nat_le m.id.0 (slot_of w m.part).last.0 ≡ false
  pub from : state_for (slot_of w m.part).initial (slot_of w m.part).state m.initial ≡ m.from

pub acceptable : (w : Participant) (m : Message) → deliver_fault w m ≡ None → IsAcceptable w m
acceptable w m e = one (is_session w.session m.session) refl e
  where
    last : (b d : Bool) → nat_le m.id.0 (slot_of w m.part).last.0 ≡ b → ((state_for (slot_of w m.part).initial (slot_of w m.part).state m.initial).0 == m.from.0) ≡ d → w.session ≡ Some m.session
        → (slot_of w m.part).work ≡ Idle → slot_fault Idle (slot_of w m.part).state (slot_of w m.part).last (slot_of w m.part).initial m ≡ None → IsAcceptable w m
    last true d f g mine idle e = absurd (let no : slot_fault Idle (slot_of w m.part).state (slot_of w m.part).last (slot_of w m.part).initial m ≡ Some (faults.Repeat (slot_of w m.part).last) = rw f refl in (cc))
    last false true f g mine idle e = record { mine = mine; idle = idle; above = f; from = let same : (state_for (slot_of w m.part).initial (slot_of w m.part).state m.initial).0 ≡ m.from.0 = grind (arith, nat_tests, g) in ap (λ (n : ℕ). record { 0 = n }) same }
    last false false f g mine idle e = absurd (let no : slot_fault Idle (slot_of w m.part).state (slot_of w m.part).last (slot_of w m.part).initial m ≡ Some (faults.WrongFrom (state_for (slot_of w m.part).initial (slot_of w m.part).state m.initial)) = rw (f, g) refl in (cc))

    two : (work : Work) → (slot_of w m.part).work ≡ work → w.session ≡ Some m.session → slot_fault work (slot_of w m.part).state (slot_of w m.part).last (slot_of w m.part).initial m ≡ None → IsAcceptable w m
    two Idle is mine e = last (nat_le m.id.0 (slot_of w m.part).last.0) ((state_for (slot_of w m.part).initial (slot_of w m.part).state m.initial).0 == m.from.0) refl refl mine is e
    two (Accepted n) is mine e = cc
    two (Out n is_held) is mine e = cc

    one : (b : Bool) → is_session w.session m.session ≡ b
        → (if b then slot_fault (slot_of w m.part).work (slot_of w m.part).state (slot_of w m.part).last (slot_of w m.part).initial m else Some (faults.OtherSession w.session)) ≡ None → IsAcceptable w m
    one true is e = two (slot_of w m.part).work refl (mine_is w.session m.session is) e
    one false is e = cc

module _ (c : Cluster) (ws : List Participant) (jobs : List Job) (bag : List Message) (k : IsKept c) (a : AreInStep c ws jobs bag) where
  -- the message that is accepted waits, where its session is live
  waits_idle : (i : InstanceId) (m : Message) → IsAcceptable (of_instance ws i) m → IsInBag c ws m → is_live c.live m.session ≡ true → IsUntaken c m
  waits_idle i m ok b live = one (b.pending live)
    where
      untaken : (n : Message) (w : Work) (last : MsgId) → w ≡ Idle → ((not n.taken && (is_accepted_as n w || nat_lt last.0 n.id.0)) || is_out_as n w) ≡ true → n.taken ≡ false
      untaken n Idle last is e = grind (arith, e)
      untaken n (Accepted x) last is e = cc
      untaken n (Out x is_held) last is e = cc

      one : IsPending c m ⊎ IsOldIn ws m → IsUntaken c m
      one (inl p) =
          let x = slot_of (of_instance ws i) m.part in
          record { now = p.now; found = p.found; same = p.same; untaken = untaken p.now x.work x.last ok.idle (((a.each i).along m.session ok.mine live).mail m.part p.now p.found) }
      one (inr o) =
          let theirs = mine_is (of_instance ws o.instance).session m.session o.session in
          let same = instance_same i o.instance (one_instance c k i o.instance m.session ((a.each i).own m.session ok.mine live) ((a.each o.instance).own m.session theirs live)) in
          let no : nat_le m.id.0 (slot_of (of_instance ws i) m.part).last.0 ≡ true = subst (λ (j : InstanceId). nat_le m.id.0 (slot_of (of_instance ws j) m.part).last.0 ≡ true) (sym same) o.last in
          absurd (let f : true ≡ false = sym no ∙ ok.above in (cc))

  pub accept_in_step : (i : InstanceId) (m : Message) → deliver_fault (of_instance ws i) m ≡ None → IsInBag c ws m → list_any (is_same m) bag ≡ true
      → AreInStep c (slice_set ws i.0 (accept (of_instance ws i) m)) jobs bag
  accept_in_step i m none b bagged = change_in_step c c ws ws' jobs jobs bag i m.session m.part k a (record {
    others = others_put ws i w';
    mine = ok.mine;
    session = ap (λ (p : Participant). p.session) here ∙ ok.mine;
    active = placed_named c bag jobs i w (a.each i) m (is_mine w.session m.session ok.mine) bagged;
    distinct = subst (λ (p : Participant). AreDistinct (map (λ y. y.part) p.slots)) (sym here) (distinct-put w.slots y (a.each i).distinct);
    slots = slots;
    board = board_stays c ws ws' jobs bag i m.session m.part;
    slot = subst (λ (z : Slot). HasSlot c bag jobs i (Some m.session) m.part z) (sym now) (record {
      last = b.id;
      used = λ is. b.part;
      initial = λ t is. let same : m.initial ≡ t = cc in sym same ∙ b.initial;
      there = λ is. b.part;
      work = record { of = record { part = refl; session = refl; last = refl; state = refl; initial = refl }; bagged = bagged; waits = waits_idle i m ok b };
    });
    row_here = λ live out. subst (λ (z : Slot). counts_as z (initial_of c m.part) ≡ standing_of c m.session m.part) (sym now) (stands live);
    mail_here = λ live n found. subst (λ (z : Slot). is_known_at z n ≡ true) (sym now) (known live n found);
    last = subst (λ (z : Slot). nat_le x.last.0 z.last.0 ≡ true) (sym now) (let f = ok.above in grind (arith, nat_tests, f));
    jobs_held = each-le (IsHeldJob c ws jobs) (IsHeldJob c ws' jobs) (λ j h. record { only = h.only; out = out_other ws ws' i m.part j (others_put ws i w') slots (never_here ws i m.part j (ap is_out ok.idle) h.out) h.out; taken = h.taken }) jobs a.held;
  })
    where
      w : Participant
      w = of_instance ws i

      x : Slot
      x = slot_of (of_instance ws i) m.part

      y : Slot
      y = accepted (slot_of (of_instance ws i) m.part) m

      w' : Participant
      w' = accept (of_instance ws i) m

      ws' : List Participant
      ws' = slice_set ws i.0 (accept (of_instance ws i) m)

      ok : IsAcceptable (of_instance ws i) m
      ok = acceptable (of_instance ws i) m none

      here : of_instance (slice_set ws i.0 (accept (of_instance ws i) m)) i ≡ accept (of_instance ws i) m
      here = here_put ws i (accept (of_instance ws i) m) (with_session ws i m.session (acceptable (of_instance ws i) m none).mine)

      now : slot_of (of_instance (slice_set ws i.0 (accept (of_instance ws i) m)) i) m.part ≡ accepted (slot_of (of_instance ws i) m.part) m
      now = ap (λ (p : Participant). slot_of p m.part) here ∙ slot_in-put (of_instance ws i).slots (accepted (slot_of (of_instance ws i) m.part) m) m.part (part-slot_in (of_instance ws i).slots m.part)

      slots : (p : PartId) → part_eq m.part p ≡ false → slot_of (of_instance (slice_set ws i.0 (accept (of_instance ws i) m)) i) p ≡ slot_of (of_instance ws i) p
      slots p other = ap (λ (v : Participant). slot_of v p) here ∙ slot_in-other (of_instance ws i).slots (accepted (slot_of (of_instance ws i) m.part) m) p (subst (λ (r : PartId). part_eq r p ≡ false) (sym (part-slot_in (of_instance ws i).slots m.part)) other)

      stands : is_live c.live m.session ≡ true → state_for (Some m.initial) m.from (initial_of c m.part) ≡ standing_of c m.session m.part
      stands live =
          let good = acceptable (of_instance ws i) m none in
          let z = slot_of (of_instance ws i) m.part in
          let fits : state_for z.initial z.state (initial_of c m.part) ≡ m.from = subst (λ (t : StateId). state_for z.initial z.state t ≡ m.from) b.initial good.from in
          let row = ((a.each i).along m.session good.mine live).rows m.part (ap is_out good.idle) in
          counts_again z.initial z.state (initial_of c m.part) m.from m.initial fits ∙ sym fits ∙ row

      known : is_live c.live m.session ≡ true → (n : Message) → message_of c.mail m.session m.part ≡ Some n → is_known_at (accepted (slot_of (of_instance ws i) m.part) m) n ≡ true
      known live n found =
          let u = waits_idle i m (acceptable (of_instance ws i) m none) b live in
          let same : u.now ≡ n = some_is u.now n (sym u.found ∙ found) in
          let untaken : n.taken ≡ false = subst (λ (v : Message). v.taken ≡ false) same u.untaken in
          let mn : is_same n m ≡ true = same_sym m n (subst (λ (v : Message). is_same m v ≡ true) same u.same) in
          or-first _ false (and-both (not n.taken) (is_same n m || nat_lt m.id.0 n.id.0) (ap not untaken) (or-first (is_same n m) (nat_lt m.id.0 n.id.0) mn))
        where
          some_is : (p q : Message) → Some p ≡ Some q → p ≡ q
          some_is p q e = (cc)
