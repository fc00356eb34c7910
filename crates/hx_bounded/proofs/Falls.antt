-- What is taken, written and acknowledged in a round lets it fall.
use Rattle.std.proofs.Common.{◌≡◌, ℕ, ◌+◌, ◌<◌, ◌≤◌, ◌||◌, ◌&&◌, ◌==◌, not, Bool, true, false, List, [], ◌∷◌, map, filter, find, Option, Some, None, ◌⊎◌, inl, inr, refl, sym, ap, ◌∙◌, subst, arith}
use Rattle.std.specs.Prelude.{if◌then◌else◌, is_none, unwrap_or}
use Rattle.std.specs.List.{list_any, sum_by}
use Rattle.std.specs.Option.{option_map, option_map_or}
use Rattle.std.proofs.lemmas.Bool.{cond_both}
use Rattle.std.proofs.lemmas.Bool.Decides.{nat_tests}
use Rattle.hx_lists.specs.Lists.{count}
use Rattle.hx_ids.specs.declared.SessionId.{SessionId}
use Rattle.hx_ids.specs.declared.MsgId.{MsgId}
use Rattle.hx_ids.specs.declared.StateId.{StateId}
use Rattle.hx_ids.specs.declared.PassNo.{PassNo}
use Rattle.hx_model.specs.declared.ModelParts.{ModelParts}
use Rattle.hx_model.specs.Model.{error, dropped}
use Rattle.hx_model.specs.Walks.{dist}
use Rattle.hx_cluster.specs.declared.state.Message.{Message}
use Rattle.hx_cluster.specs.declared.state.Cluster.{Cluster}
use Rattle.hx_cluster.specs.declared.happenings.Outcome.{Outcome}
use Rattle.hx_cluster.specs.declared.happenings.Outcome.TheVariants as outcomes
use Rattle.hx_cluster.specs.declared.happenings.WriteRefusal.TheVariants as writes
use Rattle.hx_cluster.specs.declared.happenings.AckFault.TheVariants as acks
use Rattle.hx_cluster.specs.declared.happenings.Seen.{Seen}
use Rattle.hx_cluster.specs.Ends.{part_eq, is_message, is_live, message_of, state_of, resource_at, model_of}
use Rattle.hx_cluster.specs.Steps.{is_flag}
use Rattle.hx_cluster.specs.Marks.{write_fault, ack_fault}
use Rattle.hx_cluster.specs.Messages.{has_id, pending_of, as_taken, as_written, flags_after, written_of, after_take, after_write, after_ack}
use Rattle.hx_cluster.specs.Events.{can_write, can_ack}
use Rattle.hx_cluster.specs.Safe.{IsSafe}
use Rattle.hx_cluster.specs.Ranged.{IsRanged}
use Rattle.hx_pass.specs.Left.{left_of}
use Rattle.hx_pass.specs.Explained.{view_at}
use Rattle.hx_safe.proofs.Counting.{and-both, find-passes, find-single}
use Rattle.hx_safe.proofs.Ends.{same-self, part_eq-self, session_same, part_same, find-filter}
use Rattle.hx_safe.proofs.Kept.{IsKept}
use Rattle.hx_agreed.proofs.Marks.{marked, taken_message, written_elsewhere, written_now}
use Rattle.hx_settled.specs.Places.{Place, places_of, left_at, tries_left, spent, is_spendable}
use Rattle.hx_settled.specs.Ways.{IsOnItsWay}
use Rattle.hx_settled.proofs.Goals.{goal_same}
use Rattle.hx_settled.proofs.Placed.{left_all}
use Rattle.hx_settled.proofs.Spending.{other_flags, tries_spent}
use Rattle.hx_settled.proofs.Falling.{stays_on, way_falls, ways_stay}
use Rattle.hx_bounded.specs.Falling.{is_honest, IsUnwritten, is_to_write, IsOnTheWay, IsFalling}

-- what is left doesn't look at messages, passes and posts
abbrev steps : ModelParts → Option StateId → StateId → ℕ
steps m o g = if option_map_or (λ s. s.0 == g.0) o ((g.0 == m.initial.0) || (g.0 == dropped.0)) then 0 else dist m (unwrap_or o m.initial) g

pub left_beside : (c : Cluster) (mail : List Message) (next change : ℕ) (controllers : List (Bool × PassNo)) (posted : List Seen)
    → left_of (record c { mail = mail; next_msg = next; change = change; controllers = controllers; posted = posted }) ≡ left_of c
left_beside c mail next change controllers posted = left_all d ∙ (λ i. sum_by (λ x. here x i) (places_of c)) ∙ sym (left_all c)
  where
    d : Cluster
    d = record c { mail = mail; next_msg = next; change = change; controllers = controllers; posted = posted }

    here : (x : Place) → left_at (record c { mail = mail; next_msg = next; change = change; controllers = controllers; posted = posted }) x ≡ left_at c x
    here x i =
        option_map_or (λ r. steps (model_of c.models c.resources x.part.resource) (state_of c.rows x.session x.part)
        (goal_same c.models (view_at (record c { mail = mail; next_msg = next; change = change; controllers = controllers; posted = posted })) (view_at c) refl refl (λ s p. refl) r x.part x.session x.instance i))
        (resource_at c.resources x.part.resource) 0

-- a message that is marked is on its way as before
way_marked : (d : Cluster) (m : Message) (taken written : Bool) → IsOnItsWay d m → IsOnItsWay d (record m { taken = taken; written = written })
way_marked d m taken written w =
    record { resource = w.resource; instance = w.instance; there = w.there; shown = w.shown; away = w.away; hop = w.hop; next = w.next; to = w.to }

-- what was pending and unwritten before a take
record WasUnwritten (c : Cluster) (m : Message) : Type 0 where
  before : Message
  mark : Bool
  unwritten : IsUnwritten c before
  is : record before { taken = mark } ≡ m

before_take : (c : Cluster) (s : SessionId) (id : MsgId) (m : Message) → IsUnwritten (after_take c s id) m → WasUnwritten c m
before_take c s id m u =
    from (message_of c.mail m.session m.part) refl (sym (marked (as_taken s id) m.session m.part (taken_message s id m.session m.part) c.mail) ∙ u.pending)
  where
    same : (a b : Message) → Some a ≡ Some b → a ≡ b
    same a b e = (cc)

    marks : (n : Message) (b : Bool) → message_of c.mail m.session m.part ≡ Some n → (if b then record n { taken = true } else n) ≡ m → WasUnwritten c m
    marks n true at e = record {
      before = n;
      mark = true;
      unwritten = record {
        pending = subst (λ (x : Message). message_of c.mail x.session x.part ≡ Some n) (sym e) at;
        unwritten = subst (λ (x : Message). x.written ≡ false) (sym e) u.unwritten;
      };
      is = e;
    }
    marks n false at e = record {
      before = n;
      mark = n.taken;
      unwritten = record {
        pending = subst (λ (x : Message). message_of c.mail x.session x.part ≡ Some n) (sym e) at;
        unwritten = subst (λ (x : Message). x.written ≡ false) (sym e) u.unwritten;
      };
      is = e;
    }

    from : (o : Option Message) → message_of c.mail m.session m.part ≡ o → option_map (as_taken s id) o ≡ Some m → WasUnwritten c m
    from None at e = cc
    from (Some n) at e = marks n (has_id s id n) at (same (as_taken s id n) m e)

to_write_taken : (s : SessionId) (id : MsgId) (ms : List Message) → list_any is_to_write (map (as_taken s id) ms) ≡ list_any is_to_write ms
to_write_taken s id [] = refl
to_write_taken s id (m ∷ ms) =
    let same : is_to_write (as_taken s id m) ≡ is_to_write m = cond_both (has_id s id m) (record m { taken = true }) m (λ (x : Message). is_to_write x ≡ is_to_write m) (λ e. refl) (λ e. refl) in
    (λ i. same i || to_write_taken s id ms i)

pub take_falls : (w t l : ℕ) (c : Cluster) (s : SessionId) (id : MsgId) → IsFalling w t l c → IsFalling w t l (after_take c s id)
take_falls w t l c s id f = record { size = f.size; resets = λ m u. resets m (before_take c s id m u); falls = falls f.falls }
  where
    resets : (m : Message) → WasUnwritten c m → is_spendable (after_take c s id) m outcomes.Ok ≡ true
    resets m b = subst (λ (x : Message). is_spendable (after_take c s id) x outcomes.Ok ≡ true) b.is (f.resets b.before b.unwritten)

    ways : IsOnTheWay t l c → (m : Message) → WasUnwritten c m → IsOnItsWay (after_take c s id) m
    ways way m b =
        subst (IsOnItsWay (after_take c s id)) b.is
        (way_marked (after_take c s id) b.before b.mark b.before.written
        (stays_on c (after_take c s id) b.before (record { models = refl; live = refl; ideals = refl; errors = λ u p. refl }) refl (way.ways b.before b.unwritten)))

    same : left_of (after_take c s id) ≡ left_of c
    same = left_beside c (map (as_taken s id) c.mail) c.next_msg (c.change + 1) c.controllers c.posted

    fewer : (left_of c < l) ⊎ ((left_of c ≡ l) × (list_any is_to_write c.mail ≡ true))
        → (left_of (after_take c s id) < l) ⊎ ((left_of (after_take c s id) ≡ l) × (list_any is_to_write (map (as_taken s id) c.mail) ≡ true))
    fewer (inl few) = inl (subst (λ (n : ℕ). n < l) (sym same) few)
    fewer (inr both) = inr (same ∙ both.0, to_write_taken s id c.mail ∙ both.1)

    falls : (tries_left c < t) ⊎ IsOnTheWay t l c → (tries_left (after_take c s id) < t) ⊎ IsOnTheWay t l (after_take c s id)
    falls (inl few) = inl few
    falls (inr way) = inr (record { tries_same = way.tries_same; ways = λ m u. ways way m (before_take c s id m u); fewer = fewer way.fewer })

-- what may be done to a message finds it
found_by : {F : Type 0} (fault : Option Message → Option F) (ended : F) (live : Bool) (o : Option Message) → is_none (fault None) ≡ false → is_none (if live then fault o else Some ended) ≡ true
    → (m : Message) × (o ≡ Some m) × (is_none (fault (Some m)) ≡ true)
found_by fault ended false o none e = cc
found_by fault ended true None none e = let both = sym none ∙ e in cc
found_by fault ended true (Some m) none e = (m, refl, e)

-- a message that is pending, as far as its write
record IsPendingAs (c : Cluster) (s : SessionId) (id : MsgId) (is_written : Bool) : Type 0 where
  message : Message
  pending : pending_of c s id ≡ Some message
  written : message.written ≡ is_written

-- what may be written and acknowledged
writable : (c : Cluster) (s : SessionId) (id : MsgId) → can_write c s id ≡ true → IsPendingAs c s id false
writable c s id can =
    let found = found_by write_fault writes.SessionEnded (is_live c.live s) (pending_of c s id) refl can in
    record { message = found.0; pending = found.1; written = grind (arith, found.2) }

done_there : (c : Cluster) (s : SessionId) (id : MsgId) → can_ack c s id ≡ true → IsPendingAs c s id true
done_there c s id can =
    let found = found_by ack_fault acks.SessionEnded (is_live c.live s) (pending_of c s id) refl can in
    record { message = found.0; pending = found.1; written = grind (arith, found.2) }

-- a message that is found by its number is that of its replica
module _ (c : Cluster) (k : IsKept c) (s : SessionId) (id : MsgId) (m : Message) (at : pending_of c s id ≡ Some m) where
  session : m.session ≡ s
  session = session_same m.session s (let is : ((m.session.0 == s.0) && (m.id.0 == id.0)) ≡ true = find-passes (has_id s id) c.mail m at in grind (arith, is))

  number : m.id ≡ id
  number =
      let is : ((m.session.0 == s.0) && (m.id.0 == id.0)) ≡ true = find-passes (has_id s id) c.mail m at in
      let same : m.id.0 ≡ id.0 = grind (arith, nat_tests, is) in ap (λ (n : ℕ). record { 0 = n }) same

  pub its_replica : message_of c.mail s m.part ≡ Some m
  its_replica =
      find-single (has_id s id) (is_message s m.part) c.mail m at
      (and-both (m.session.0 == s.0) (part_eq m.part m.part) (subst (λ (u : SessionId). (m.session.0 == u.0) ≡ true) session (same-self m.session.0)) (part_eq-self m.part))
      (k.mail.single s m.part)

module _ (w t l : ℕ) (c : Cluster) (safe : IsSafe c) (ranged : IsRanged c) (k : IsKept c) (s : SessionId) (id : MsgId) (m : Message) (at : pending_of c s id ≡ Some m) (fresh : m.written ≡ false) (f : IsFalling w t l c) where
  written : Outcome → Cluster
  written o = written_of c s id o (Some m)

  its_session : m.session ≡ s
  its_session = session c k s id m at

  -- what is unwritten after the write is another's message
  record IsOthers (x : Message) : Type 0 where
    before : IsUnwritten c x
    apart : ((x.session.0 == m.session.0) && part_eq x.part m.part) ≡ false

  of_another : (x : Message) → message_of (map (as_written s id) c.mail) x.session x.part ≡ Some x → x.written ≡ false → IsOthers x
  of_another x pending unwritten = one ((x.session.0 == s.0) && part_eq x.part m.part) refl
    where
      same : (a b : Message) → Some a ≡ Some b → a ≡ b
      same a b e = (cc)

      one : (b : Bool) → ((x.session.0 == s.0) && part_eq x.part m.part) ≡ b → IsOthers x
      one false e = record {
        before = record { pending = sym (written_elsewhere c k s id m.part m (its_replica c k s id m at) (number c k s id m at) x.session x.part e) ∙ pending; unwritten = unwritten };
        apart = subst (λ (u : SessionId). ((x.session.0 == u.0) && part_eq x.part m.part) ≡ false) (sym its_session) e;
      }
      one true e =
          let mine : x.session ≡ s = session_same x.session s (grind (arith, e)) in
          let part : x.part ≡ m.part = part_same x.part m.part (grind (arith, e)) in
          let there = written_now c k s id m.part m (its_replica c k s id m at) (number c k s id m at) in
          let here : message_of (map (as_written s id) c.mail) s m.part ≡ Some x = (λ i. message_of (map (as_written s id) c.mail) (sym mine i) (sym part i)) ∙ pending in
          let is : record m { written = true } ≡ x = same (record m { written = true }) x (sym there ∙ here) in
          absurd (let no : true ≡ false = ap (λ (y : Message). y.written) is ∙ unwritten in cc)

  flags : (o : Outcome) (x : Message) → IsOthers x → list_any (is_flag x.session x.part) (flags_after c.resets m o) ≡ list_any (is_flag x.session x.part) c.resets
  flags outcomes.Ok x g = other_flags m.session x.session m.part x.part g.apart c.resets
  flags outcomes.Failed x g = refl

  resets : (o : Outcome) (x : Message) → IsOthers x → is_spendable (written_of c s id o (Some m)) x outcomes.Ok ≡ true
  resets o x g = ap (λ (b : Bool). not (x.from.0 == error.0) || b) (flags o x g) ∙ f.resets x g.before

  mine : IsUnwritten c m
  mine = record { pending = subst (λ (u : SessionId). message_of c.mail u m.part ≡ Some m) (sym its_session) (its_replica c k s id m at); unwritten = fresh }

  spendable : (o : Outcome) → is_honest m o ≡ true → is_spendable c m o ≡ true
  spendable outcomes.Ok honest = f.resets m mine
  spendable outcomes.Failed honest = honest

  spent_now : (o : Outcome) → is_honest m o ≡ true → tries_left c ≡ tries_left (written_of c s id o (Some m)) + spent m o
  spent_now o honest =
      subst (λ (p : Option Message). tries_left c ≡ tries_left (written_of c s id o p) + spent m o) at
      (tries_spent c s id m o safe ranged at fresh (spendable o honest))

  -- where the write took a try
  took : (o : Outcome) → is_honest m o ≡ true → spent m o ≡ 1 → (tries_left c < t) ⊎ IsOnTheWay t l c → tries_left (written_of c s id o (Some m)) < t
  took o honest one (inl few) = let now = spent_now o honest in omega (arith, few, now, one)
  took o honest one (inr way) = let now = spent_now o honest in let same = way.tries_same in omega (arith, same, now, one)

  -- and where it took none, and left one transition less
  kept : (m.from.0 == error.0) ≡ false → (tries_left c < t) ⊎ IsOnTheWay t l c → (tries_left (written_of c s id outcomes.Ok (Some m)) < t) ⊎ IsOnTheWay t l (written_of c s id outcomes.Ok (Some m))
  kept plain (inl few) = inl (let now = spent_now outcomes.Ok refl in omega (arith, few, now))
  kept plain (inr way) = inr (record {
    tries_same =
        let now = spent_now outcomes.Ok refl in
        let none : spent m outcomes.Ok ≡ 0 = (λ i. if plain i then 1 else 0) in
        let same = way.tries_same in omega (arith, now, none, same);
    ways = λ x u.
        let g = of_another x u.pending u.unwritten in
        subst (λ (p : Option Message). IsOnItsWay (written_of c s id outcomes.Ok p) x) at
        (ways_stay c s id m x safe ranged at fresh plain g.apart (way.ways x g.before));
    fewer = inl (
        let one = subst (λ (p : Option Message). left_of c ≡ left_of (written_of c s id outcomes.Ok p) + 1) at (way_falls c s id m safe ranged at fresh plain (way.ways m mine)) in
        let most = less way.fewer in
        omega (arith, one, most)
        );
  })
    where
      less : (left_of c < l) ⊎ ((left_of c ≡ l) × (list_any is_to_write c.mail ≡ true)) → left_of c ≤ l
      less (inl few) = omega (arith, few)
      less (inr both) = let same = both.0 in omega (arith, same)

  falls_so : (o : Outcome) → is_honest m o ≡ true → (tries_left (written_of c s id o (Some m)) < t) ⊎ IsOnTheWay t l (written_of c s id o (Some m))
  falls_so outcomes.Failed honest = inl (took outcomes.Failed honest refl f.falls)
  falls_so outcomes.Ok honest = one (m.from.0 == error.0) refl
    where
      one : (b : Bool) → (m.from.0 == error.0) ≡ b → (tries_left (written_of c s id outcomes.Ok (Some m)) < t) ⊎ IsOnTheWay t l (written_of c s id outcomes.Ok (Some m))
      one true is = inl (took outcomes.Ok refl (λ i. if is i then 1 else 0) f.falls)
      one false is = kept is f.falls

  pub falls_written : (o : Outcome) → is_honest m o ≡ true → IsFalling w t l (written_of c s id o (Some m))
  falls_written o honest = record {
    size = f.size;
    resets = λ x u. resets o x (of_another x u.pending u.unwritten);
    falls = falls_so o honest;
  }

pub write_falls : (w t l : ℕ) (c : Cluster) (s : SessionId) (id : MsgId) (o : Outcome) → IsSafe c → IsRanged c → IsKept c → can_write c s id ≡ true
    → ((m : Message) → pending_of c s id ≡ Some m → is_honest m o ≡ true) → IsFalling w t l c → IsFalling w t l (after_write c s id o)
write_falls w t l c s id o safe ranged k can honest f =
    let m = writable c s id can in
    subst (λ (p : Option Message). IsFalling w t l (written_of c s id o p)) (sym m.pending)
    (falls_written w t l c safe ranged k s id m.message m.pending m.written f o (honest m.message m.pending))

-- acknowledgements take away what was written
few_left : (p : Message → Bool) (s : SessionId) (id : MsgId) (ms : List Message) → count (λ x. x.id.0 == id.0) ms ≤ 0 → list_any p (filter (λ x. not (has_id s id x)) ms) ≡ list_any p ms
few_left p s id [] few = refl
few_left p s id (x ∷ ms) few = grind (arith, few, few_left p s id ms)

to_write_left : (s : SessionId) (id : MsgId) (m : Message) → m.written ≡ true → (ms : List Message) → find (has_id s id) ms ≡ Some m → count (λ x. x.id.0 == id.0) ms ≤ 1
    → list_any is_to_write ms ≡ true → list_any is_to_write (filter (λ x. not (has_id s id x)) ms) ≡ true
to_write_left s id m done [] at few some = cc
to_write_left s id m done (x ∷ ms) at few some = one (has_id s id x) refl at (λ f g h. to_write_left s id m done ms f g h)
  where
    same : (a b : Message) → Some a ≡ Some b → a ≡ b
    same a b e = (cc)

    one : (b : Bool) → has_id s id x ≡ b → (if b then Some x else find (has_id s id) ms) ≡ Some m
        → (find (has_id s id) ms ≡ Some m → count (λ x. x.id.0 == id.0) ms ≤ 1 → list_any is_to_write ms ≡ true → list_any is_to_write (filter (λ x. not (has_id s id x)) ms) ≡ true)
        → list_any is_to_write (if not b then x ∷ filter (λ x. not (has_id s id x)) ms else filter (λ x. not (has_id s id x)) ms) ≡ true
    one true is at again =
        let mark : x.written ≡ true = ap (λ (y : Message). y.written) (same x m at) ∙ done in
        let rest : list_any is_to_write ms ≡ true = grind (arith, some, mark) in
        let none : count (λ x. x.id.0 == id.0) ms ≤ 0 = grind (arith, few, is) in
        few_left is_to_write s id ms none ∙ rest
    one false is at again = two (is_to_write x) refl
      where
        two : (b : Bool) → is_to_write x ≡ b → (is_to_write x || list_any is_to_write (filter (λ x. not (has_id s id x)) ms)) ≡ true
        two true e = ap (λ (b : Bool). b || list_any is_to_write (filter (λ x. not (has_id s id x)) ms)) e
        two false e =
            let fewer : count (λ x. x.id.0 == id.0) ms ≤ 1 = grind (arith, few) in
            let rest : list_any is_to_write ms ≡ true = sym (ap (λ (b : Bool). b || list_any is_to_write ms) e) ∙ some in
            ap (λ (b : Bool). b || list_any is_to_write (filter (λ x. not (has_id s id x)) ms)) e ∙ again at fewer rest

pub ack_falls : (w t l : ℕ) (c : Cluster) (s : SessionId) (id : MsgId) → IsKept c → can_ack c s id ≡ true → IsFalling w t l c → IsFalling w t l (after_ack c s id)
ack_falls w t l c s id k can f = record { size = f.size; resets = λ m u. f.resets m (before m u); falls = falls f.falls }
  where
    before : (m : Message) → IsUnwritten (after_ack c s id) m → IsUnwritten c m
    before m u = record {
      pending = find-filter (is_message m.session m.part) (λ x. not (has_id s id x)) c.mail m (k.mail.single m.session m.part) u.pending;
      unwritten = u.unwritten;
    }

    same : left_of (after_ack c s id) ≡ left_of c
    same = left_beside c (filter (λ x. not (has_id s id x)) c.mail) c.next_msg (c.change + 1) c.controllers c.posted

    fewer : (left_of c < l) ⊎ ((left_of c ≡ l) × (list_any is_to_write c.mail ≡ true))
        → (left_of (after_ack c s id) < l) ⊎ ((left_of (after_ack c s id) ≡ l) × (list_any is_to_write (filter (λ x. not (has_id s id x)) c.mail) ≡ true))
    fewer (inl few) = inl (subst (λ (n : ℕ). n < l) (sym same) few)
    fewer (inr both) = let g = done_there c s id can in inr (same ∙ both.0, to_write_left s id g.message g.written c.mail g.pending (k.mail.numbers id) both.1)

    falls : (tries_left c < t) ⊎ IsOnTheWay t l c → (tries_left (after_ack c s id) < t) ⊎ IsOnTheWay t l (after_ack c s id)
    falls (inl few) = inl few
    falls (inr way) = inr (record {
      tries_same = way.tries_same;
      ways = λ m u.
          stays_on c (after_ack c s id) m (record { models = refl; live = refl; ideals = refl; errors = λ v p. refl }) refl (way.ways m (before m u));
      fewer = fewer way.fewer;
    })
