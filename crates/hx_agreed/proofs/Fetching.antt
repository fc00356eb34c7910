-- Messages go into the bag, and a participant adopts a session.
use Rattle.std.proofs.Common.{◌≡◌, ℕ, ◌<◌, ◌≤◌, ◌&&◌, ◌||◌, ◌==◌, not, Bool, true, false, List, [], ◌∷◌, filter, map, find, length, Option, Some, None, ◌⊎◌, inl, inr, refl, sym, ap, ◌∙◌, subst, arith}
use Rattle.std.specs.Prelude.{unwrap_or, nat_le, slice_set}
use Rattle.std.specs.List.{list_any, list_all}
use Rattle.std.proofs.lemmas.Bool.Decides.{nat_tests}
use Rattle.hx_lists.specs.Lists.{count, insert_by, sort_by}
use Rattle.hx_ids.specs.declared.InstanceId.{InstanceId}
use Rattle.hx_ids.specs.declared.StateId.{StateId}
use Rattle.hx_ids.specs.declared.SessionId.{SessionId}
use Rattle.hx_ids.specs.declared.MsgId.{MsgId}
use Rattle.hx_cluster.specs.declared.description.Spec.{Spec}
use Rattle.hx_cluster.specs.Reads.{messages_for}
use Rattle.hx_cluster.specs.declared.state.Message.{Message}
use Rattle.hx_cluster.specs.declared.state.Cluster.{Cluster}
use Rattle.hx_cluster.specs.Ends.{part_eq, is_message, is_live, message_of}
use Rattle.hx_cluster.specs.Steps.{session_of}
use Rattle.hx_cluster.specs.Messages.{initial_of, standing_of, is_same}
use Rattle.hx_replicas.specs.Participants.{Participant, Slot, new_slot, slot_of, counts_as, is_session, finish, brought, end_of, adopt}
use Rattle.hx_replicas.specs.Layout.{AreDistinct}
use Rattle.hx_worlds.specs.World.{Job, State, participant_of}
use Rattle.hx_worlds.specs.Jobs
use Rattle.hx_worlds.specs.Agree.{is_below, is_known_at, is_lent_to}
use Rattle.hx_safe.proofs.Counting.{and-first, and-second, and-both, any-filter_kept, count-none, all-filter_more, none-from-all, find-any, any-count}
use Rattle.hx_safe.proofs.Ends.{same-self, part_eq-self}
use Rattle.hx_safe.proofs.Ideals.{length-put}
use Rattle.hx_safe.proofs.Kept.{IsKept, number-below}
use Rattle.hx_lawful.proofs.Sorting.{all-sort}
use Rattle.hx_safe.proofs.Calming.{same_self}
use Rattle.hx_safe.proofs.Waiting.{any-le}
use Rattle.hx_agreed.specs.InStep.{Each, of_instance, IsPending, is_lent_as, HasSlot, IsUntouched, IsStale, IsPlaced, IsHeldJob, IsOldIn, IsInBag, has_number, AreInStep, IsInStep}
use Rattle.hx_agreed.proofs.Lists.{each-le, each-filter}
use Rattle.hx_agreed.proofs.Slots.{distinct-put, distinct-emptied, slot-emptied, mine_is}
use Rattle.hx_safe.proofs.Sessions.{session_live}
use Rattle.hx_agreed.proofs.Frames.{same_both, new_known, found_pending, found_live, one_number, placed_like}
use Rattle.hx_agreed.proofs.Quiet.{same_parts}
use Rattle.hx_agreed.proofs.Changes.{instance_same}
use Rattle.hx_agreed.proofs.Replicas.{here_put, others_put}
use Rattle.hx_agreed.proofs.Ending.{count-filter_kept}

-- one message is put into the bag
each-put : (P : Message → Type 0) (bag : List Message) (m : Message) → Each P bag → P m → Each P (Jobs.put_in_bag bag m)
each-put P [] m e here = (here, tt)
each-put P (y ∷ bag) m e here = one (y.id.0 == m.id.0) refl (each-put P bag m e.1 here)
  where
    one : (a : Bool) → (y.id.0 == m.id.0) ≡ a → Each P (Jobs.put_in_bag bag m) → Each P (Jobs.put_in_bag (y ∷ bag) m)
    one true f more = rw f (here, e.1)
    one false f more = rw f (e.0, more)

count-other : (bag : List Message) (m : Message) (id : MsgId) → (m.id.0 == id.0) ≡ false → count (has_number id) (Jobs.put_in_bag bag m) ≡ count (has_number id) bag
count-other [] m id other = grind (arith, other)
count-other (y ∷ bag) m id other = one (y.id.0 == m.id.0) refl (count-other bag m id other)
  where
    one : (a : Bool) → (y.id.0 == m.id.0) ≡ a → count (has_number id) (Jobs.put_in_bag bag m) ≡ count (has_number id) bag → count (has_number id) (Jobs.put_in_bag (y ∷ bag) m) ≡ count (has_number id) (y ∷ bag)
    one true f more = let z : (y.id.0 == id.0) ≡ false = grind (arith, nat_tests, f, other) in rw f (grind (arith, z, other))
    one false f more = rw f (grind (arith, more))

count-here : (bag : List Message) (m : Message) (id : MsgId) → (m.id.0 == id.0) ≡ true → count (has_number id) bag ≤ 1 → count (has_number id) (Jobs.put_in_bag bag m) ≤ 1
count-here [] m id same few = grind (arith, same)
count-here (y ∷ bag) m id same few = one (y.id.0 == m.id.0) refl (count-here bag m id same)
  where
    one : (a : Bool) → (y.id.0 == m.id.0) ≡ a → (count (has_number id) bag ≤ 1 → count (has_number id) (Jobs.put_in_bag bag m) ≤ 1) → count (has_number id) (Jobs.put_in_bag (y ∷ bag) m) ≤ 1
    one true f more = let z : (y.id.0 == id.0) ≡ true = grind (arith, nat_tests, f, same) in rw f (grind (arith, z, same, few))
    one false f more = let z : (y.id.0 == id.0) ≡ false = grind (arith, nat_tests, f, same) in rw f (let g : count (has_number id) bag ≤ 1 = grind (arith, z, few) in grind (arith, z, more g))

count-put : (bag : List Message) (m : Message) (id : MsgId) → count (has_number id) bag ≤ 1 → count (has_number id) (Jobs.put_in_bag bag m) ≤ 1
count-put bag m id few = one (m.id.0 == id.0) refl
  where
    one : (b : Bool) → (m.id.0 == id.0) ≡ b → count (has_number id) (Jobs.put_in_bag bag m) ≤ 1
    one true e = count-here bag m id e few
    one false e = let same = count-other bag m id e in omega arith

-- an item of the bag with that number is the message
same_there : (c : Cluster) (ws : List Participant) (bag : List Message) (m : Message) → message_of c.mail m.session m.part ≡ Some m → Each (IsInBag c ws) bag
    → Each (λ y. (y.id.0 == m.id.0) ≡ true → is_same y m ≡ true) bag
same_there c ws bag m found e =
    each-le (IsInBag c ws) (λ y. (y.id.0 == m.id.0) ≡ true → is_same y m ≡ true) (λ y b f. b.same m.session m.part m found (grind (arith, nat_tests, f))) bag e

put-each : (bag : List Message) (m x : Message) → Each (λ y. (y.id.0 == m.id.0) ≡ true → is_same y m ≡ true) bag → list_any (is_same x) bag ≡ true → list_any (is_same x) (Jobs.put_in_bag bag m) ≡ true
put-each [] m x e is = cc
put-each (y ∷ bag) m x e is = one (y.id.0 == m.id.0) refl (is_same x y) refl is (put-each bag m x e.1)
  where
    two : (z : Bool) → list_any (is_same x) bag ≡ true → (z || list_any (is_same x) bag) ≡ true
    two true w = refl
    two false w = w

    one : (a : Bool) → (y.id.0 == m.id.0) ≡ a → (b : Bool) → is_same x y ≡ b → (b || list_any (is_same x) bag) ≡ true → (list_any (is_same x) bag ≡ true → list_any (is_same x) (Jobs.put_in_bag bag m) ≡ true)
        → list_any (is_same x) (Jobs.put_in_bag (y ∷ bag) m) ≡ true
    one true f true g w more = rw f (let z = same_both x y m g (e.0 f) in rw z refl)
    one true f false g w more = rw f (two (is_same x m) w)
    one false f true g w more = rw (f, g) refl
    one false f false g w more = rw (f, g) (more w)

module _ (c : Cluster) (k : IsKept c) (ws : List Participant) (jobs : List Job) where
  pub bagged_now : (bag : List Message) → AreInStep c ws jobs bag → (m : Message) → message_of c.mail m.session m.part ≡ Some m → IsInBag c ws m
  bagged_now bag a m found =
      let pending = found_pending c k m.session m.part m found in
      let sent = a.mail m.session m.part m found in
      record {
        id = grind (arith, pending);
        session = number-below c.next_session m.session c.live k.below (found_live c k m.session m.part m found);
        part = grind (arith, pending);
        legal = grind (arith, pending);
        initial = sent.initial;
        pending = λ live. inl (record { now = m; found = found; same = same_self m });
        same = λ t p n is e. let number : n.id ≡ m.id = (let z : n.id.0 ≡ m.id.0 = grind (arith, nat_tests, e) in ap (λ (x : ℕ). record { 0 = x }) z) in
            subst (λ (x : Message). is_same m x ≡ true) (sym (one_number c k t m.session p m.part n m is found number)) (same_self m);
      }

  -- it isn't of a session that isn't live
  still_apart : (bag : List Message) (m : Message) → message_of c.mail m.session m.part ≡ Some m → (i : InstanceId) → IsStale c bag (of_instance ws i)
      → Each (λ y. is_session (of_instance ws i).session y.session ≡ false) (Jobs.put_in_bag bag m)
  still_apart bag m found i stale = each-put (λ y. is_session (of_instance ws i).session y.session ≡ false) bag m stale.apart (other (is_session (of_instance ws i).session m.session) refl)
    where
      other : (b : Bool) → is_session (of_instance ws i).session m.session ≡ b → b ≡ false
      other true e = sym (found_live c k m.session m.part m found) ∙ stale.dead m.session (mine_is (of_instance ws i).session m.session e)
      other false e = refl

  pub put_in_step : (bag : List Message) (m : Message) → message_of c.mail m.session m.part ≡ Some m → AreInStep c ws jobs bag → AreInStep c ws jobs (Jobs.put_in_bag bag m)
  put_in_step bag m found a =
      let there = same_there c ws bag m found a.bagged in
      record {
        each = λ i. placed_like c c bag (Jobs.put_in_bag bag m) jobs jobs i (of_instance ws i) k (same_parts c c refl refl) (omega arith) (omega arith) (λ x is. put-each bag m x there is) (λ x h is. is)
            (λ t mine live. (live, (λ is. is), record { rows = λ q. refl; mail = λ q. refl })) (a.each i).free (still_apart bag m found i) (a.each i);
        held = a.held;
        bagged = each-put (IsInBag c ws) bag m a.bagged (bagged_now bag a m found);
        numbers = λ id. count-put bag m id (a.numbers id);
        mail = a.mail;
        first = a.first;
      }

  -- what was in the bag is in it, and so is what was put
  put_has : (bag : List Message) (m : Message) → list_any (is_same m) (Jobs.put_in_bag bag m) ≡ true
  put_has [] m = let e = same_self m in grind (arith, e)
  put_has (y ∷ bag) m = one (y.id.0 == m.id.0) refl (put_has bag m)
    where
      one : (b : Bool) → (y.id.0 == m.id.0) ≡ b → list_any (is_same m) (Jobs.put_in_bag bag m) ≡ true → list_any (is_same m) (Jobs.put_in_bag (y ∷ bag) m) ≡ true
      one true f more = rw f (let e = same_self m in grind (arith, e))
      one false f more = rw f (grind (arith, more))

  stays_put : (ms : List Message) → Each (λ m. message_of c.mail m.session m.part ≡ Some m) ms → (bag : List Message) → AreInStep c ws jobs bag → (n : Message) → list_any (is_same n) bag ≡ true
      → list_any (is_same n) (Jobs.put_all bag ms) ≡ true
  stays_put [] e bag a n is = is
  stays_put (m ∷ ms) e bag a n is = stays_put ms e.1 (Jobs.put_in_bag bag m) (put_in_step bag m e.0 a) n (put-each bag m n (same_there c ws bag m e.0 a.bagged) is)

  pub all_in_bag : (ms : List Message) → Each (λ m. message_of c.mail m.session m.part ≡ Some m) ms → (bag : List Message) → AreInStep c ws jobs bag → Each (λ m. list_any (is_same m) (Jobs.put_all bag ms) ≡ true) ms
  all_in_bag [] e bag a = tt
  all_in_bag (m ∷ ms) e bag a =
      (stays_put ms e.1 (Jobs.put_in_bag bag m) (put_in_step bag m e.0 a) m (put_has bag m), all_in_bag ms e.1 (Jobs.put_in_bag bag m) (put_in_step bag m e.0 a))

  -- messages that are pending go into it
  pub all_put_in_step : (ms : List Message) → Each (λ m. message_of c.mail m.session m.part ≡ Some m) ms → (bag : List Message) → AreInStep c ws jobs bag → AreInStep c ws jobs (Jobs.put_all bag ms)
  all_put_in_step [] e bag a = a
  all_put_in_step (m ∷ ms) e bag a = all_put_in_step ms e.1 (Jobs.put_in_bag bag m) (put_in_step bag m e.0 a)

-- jobs that end without a call
any-insert : {X : Type 0} (p : X → Bool) (before : X → X → Bool) (x : X) (xs : List X) → list_any p (insert_by before x xs) ≡ list_any p (x ∷ xs)
any-insert p before x [] = refl
any-insert p before x (y ∷ xs) = grind (arith, any-insert p before x xs)

pub any-sort : {X : Type 0} (p : X → Bool) (before : X → X → Bool) (xs : List X) → list_any p (sort_by before xs) ≡ list_any p xs
any-sort p before [] = refl
any-sort p before (x ∷ xs) = grind (arith, any-insert p before x (sort_by before xs), any-sort p before xs)

-- which jobs are among those that end
abbrev pub is_ended : List Job → Job → Bool
is_ended js y = list_any (λ j. Jobs.is_job j.instance j.message.id y) js

filter-filter : {X : Type 0} (p q r : X → Bool) → ((x : X) → r x ≡ (p x && q x)) → (xs : List X) → filter q (filter p xs) ≡ filter r xs
filter-filter p q r h [] = refl
filter-filter p q r h (x ∷ xs) = one (p x) refl (q x) refl (filter-filter p q r h xs)
  where
    one : (a : Bool) → p x ≡ a → (b : Bool) → q x ≡ b → filter q (filter p xs) ≡ filter r xs → filter q (filter p (x ∷ xs)) ≡ filter r (x ∷ xs)
    one true e true f more = let g : r x ≡ true = h x ∙ grind (arith, e, f) in rw (e, f, g) (ap (λ ys. x ∷ ys) more)
    one true e false f more = let g : r x ≡ false = h x ∙ grind (arith, e, f) in rw (e, f, g) more
    one false e b f more = let g : r x ≡ false = h x ∙ grind (arith, e) in rw (e, g) more

pub jobs_left : (js : List Job) (x : State) → (Jobs.end_jobs js x).world.jobs ≡ filter (λ y. not (is_ended js y)) x.world.jobs
jobs_left [] x = every x.world.jobs
  where
    every : (xs : List Job) → xs ≡ filter (λ y. true) xs
    every [] = refl
    every (y ∷ ys) = ap (λ (zs : List Job). y ∷ zs) (every ys)
jobs_left (j ∷ js) x =
    jobs_left js (Jobs.end_job j x)
    ∙ filter-filter (λ y. not (Jobs.is_job j.instance j.message.id y)) (λ y. not (is_ended js y)) (λ y. not (is_ended (j ∷ js) y)) (λ y. two (Jobs.is_job j.instance j.message.id y) (is_ended js y)) x.world.jobs
  where
    two : (a b : Bool) → not (a || b) ≡ (not a && not b)
    two true b = refl
    two false b = refl

pub cluster_left : (js : List Job) (x : State) → (Jobs.end_jobs js x).world.cluster ≡ x.world.cluster
cluster_left [] x = refl
cluster_left (j ∷ js) x = cluster_left js (Jobs.end_job j x)

bag_left : (js : List Job) (x : State) → (Jobs.end_jobs js x).world.bag ≡ x.world.bag
bag_left [] x = refl
bag_left (j ∷ js) x = bag_left js (Jobs.end_job j x)

many_left : (js : List Job) (x : State) → length (Jobs.end_jobs js x).world.participants ≡ length x.world.participants
many_left [] x = refl
many_left (j ∷ js) x = many_left js (Jobs.end_job j x) ∙ length-put x.world.participants j.instance.0 (finish (participant_of x.world j.instance) j.message (Some j.outcome) j.handler)

others_left : (i n : InstanceId) → (i.0 == n.0) ≡ false → (js : List Job) (x : State) → list_all (Jobs.is_job_of i) js ≡ true → of_instance (Jobs.end_jobs js x).world.participants n ≡ of_instance x.world.participants n
others_left i n other [] x all = refl
others_left i n other (j ∷ js) x all =
    let of_i : (j.instance.0 == i.0) ≡ true = and-first (Jobs.is_job_of i j) (list_all (Jobs.is_job_of i) js) all in
    others_left i n other js (Jobs.end_job j x) (and-second (Jobs.is_job_of i j) (list_all (Jobs.is_job_of i) js) all)
    ∙ others_put x.world.participants j.instance (finish (participant_of x.world j.instance) j.message (Some j.outcome) j.handler) n (grind (arith, nat_tests, of_i, other))

pub distinct_left : (i : InstanceId) (js : List Job) (x : State) → i.0 < length x.world.participants → AreDistinct (map (λ z. z.part) (of_instance x.world.participants i).slots)
    → AreDistinct (map (λ z. z.part) (of_instance (Jobs.end_jobs js x).world.participants i).slots)
distinct_left i [] x lt d = d
distinct_left i (j ∷ js) x lt d =
    distinct_left i js (Jobs.end_job j x) (let same = length-put x.world.participants j.instance.0 (finish (participant_of x.world j.instance) j.message (Some j.outcome) j.handler) in omega arith)
    (one (j.instance.0 == i.0) refl)
  where
    one : (b : Bool) → (j.instance.0 == i.0) ≡ b
        → AreDistinct (map (λ z. z.part) (of_instance (slice_set x.world.participants j.instance.0 (finish (participant_of x.world j.instance) j.message (Some j.outcome) j.handler)) i).slots)
    one false e = subst (λ (w : Participant). AreDistinct (map (λ z. z.part) w.slots)) (sym (others_put x.world.participants j.instance (finish (participant_of x.world j.instance) j.message (Some j.outcome) j.handler) i e)) d
    one true e =
        subst (λ (n : InstanceId). AreDistinct (map (λ z. z.part) (of_instance (slice_set x.world.participants n.0 (finish (participant_of x.world n) j.message (Some j.outcome) j.handler)) i).slots)) (sym (instance_same j.instance i e))
        (subst (λ (w : Participant). AreDistinct (map (λ z. z.part) w.slots)) (sym (here_put x.world.participants i (finish (participant_of x.world i) j.message (Some j.outcome) j.handler) lt))
        (distinct-put (of_instance x.world.participants i).slots (brought (slot_of (of_instance x.world.participants i) j.message.part) (end_of j.message (Some j.outcome)) j.handler) d))

-- the open jobs of an instance are all of it, and each of it is among them
pub of_instance_all : (i : InstanceId) (x : State) → list_all (Jobs.is_job_of i) (Jobs.jobs_of i x) ≡ true
of_instance_all i x =
    all-sort (Jobs.is_job_of i) Jobs.job_before (filter (Jobs.is_job_of i) x.world.jobs)
    ∙ all-filter_more (λ (j : Job). true) (Jobs.is_job_of i) (Jobs.is_job_of i) (λ j e f. f) x.world.jobs (every x.world.jobs)
  where
    every : (xs : List Job) → list_all (λ (j : Job). true) xs ≡ true
    every [] = refl
    every (j ∷ js) = every js

not_ended : (i : InstanceId) (js : List Job) (y : Job) → list_all (Jobs.is_job_of i) js ≡ true → (i.0 == y.instance.0) ≡ false → is_ended js y ≡ false
not_ended i js y all other =
    none-from-all (Jobs.is_job_of i) (λ j. Jobs.is_job j.instance j.message.id y) (λ j e. one j e (Jobs.is_job j.instance j.message.id y) refl) js all
  where
    one : (j : Job) → Jobs.is_job_of i j ≡ true → (b : Bool) → Jobs.is_job j.instance j.message.id y ≡ b → b ≡ false
    one j e false f = refl
    one j e true f = let g = and-first (y.instance.0 == j.instance.0) (y.message.id.0 == j.message.id.0) f in absurd (let z : true ≡ false = grind (arith, nat_tests, e, g, other) in (cc))

some_counted : {X : Type 0} (p : X → Bool) (xs : List X) → count p xs ≡ 1 → list_any p xs ≡ true
some_counted p xs e = one (list_any p xs) refl
  where
    one : (b : Bool) → list_any p xs ≡ b → b ≡ true
    one true f = refl
    one false f = let zero = count-none p xs f in absurd (let z : 0 ≡ 1 = sym zero ∙ e in omega arith)

pub ended_of_it : (i : InstanceId) (x : State) (y : Job) → count (Jobs.is_job y.instance y.message.id) x.world.jobs ≡ 1 → (i.0 == y.instance.0) ≡ true → is_ended (Jobs.jobs_of i x) y ≡ true
ended_of_it i x y only its =
    any-le (Jobs.is_job y.instance y.message.id) (λ j. Jobs.is_job j.instance j.message.id y) (λ j e. grind (arith, nat_tests, e)) (Jobs.jobs_of i x)
    (any-sort (Jobs.is_job y.instance y.message.id) Jobs.job_before (filter (Jobs.is_job_of i) x.world.jobs)
    ∙ any-filter_kept (Jobs.is_job y.instance y.message.id) (Jobs.is_job_of i)
    (λ j e. let f = and-first (j.instance.0 == y.instance.0) (j.message.id.0 == y.message.id.0) e in grind (arith, nat_tests, f, its)) x.world.jobs (some_counted (Jobs.is_job y.instance y.message.id) x.world.jobs only))

-- a session that ended is left, and another one adopted
module _ (x : State) (i : InstanceId) (o : Option SessionId) (k : IsKept x.world.cluster) (a : AreInStep x.world.cluster x.world.participants x.world.jobs x.world.bag) (lt : i.0 < length x.world.participants)
    (dead : (s : SessionId) → (of_instance x.world.participants i).session ≡ Some s → is_live x.world.cluster.live s ≡ false)
    (theirs : (s : SessionId) → o ≡ Some s → session_of x.world.cluster i ≡ Some s) where
  lt' : i.0 < length (Jobs.end_jobs (Jobs.jobs_of i x) x).world.participants
  lt' = let same = many_left (Jobs.jobs_of i x) x in omega arith

  here : of_instance (slice_set (Jobs.end_jobs (Jobs.jobs_of i x) x).world.participants i.0 (adopt (participant_of (Jobs.end_jobs (Jobs.jobs_of i x) x).world i) o)) i ≡ adopt (participant_of (Jobs.end_jobs (Jobs.jobs_of i x) x).world i) o
  here = here_put (Jobs.end_jobs (Jobs.jobs_of i x) x).world.participants i (adopt (participant_of (Jobs.end_jobs (Jobs.jobs_of i x) x).world i) o) lt'

  others : (n : InstanceId) → (i.0 == n.0) ≡ false
      → of_instance (slice_set (Jobs.end_jobs (Jobs.jobs_of i x) x).world.participants i.0 (adopt (participant_of (Jobs.end_jobs (Jobs.jobs_of i x) x).world i) o)) n ≡ of_instance x.world.participants n
  others n other =
      others_put (Jobs.end_jobs (Jobs.jobs_of i x) x).world.participants i (adopt (participant_of (Jobs.end_jobs (Jobs.jobs_of i x) x).world i) o) n other
      ∙ others_left i n other (Jobs.jobs_of i x) x (of_instance_all i x)

  kept_lent : (n : InstanceId) (m : Message) (is_held : Bool) → (i.0 == n.0) ≡ false → list_any (is_lent_as n m is_held) x.world.jobs ≡ true
      → list_any (is_lent_as n m is_held) (filter (λ y. not (is_ended (Jobs.jobs_of i x) y)) x.world.jobs) ≡ true
  kept_lent n m is_held other is =
      any-filter_kept (is_lent_as n m is_held) (λ y. not (is_ended (Jobs.jobs_of i x) y))
      (λ y e. let f = and-first (y.instance.0 == n.0) (y.message.id.0 == m.id.0) (and-first (Jobs.is_job n m.id y) (is_same y.message m) (and-first _ _ e)) in
      ap not (not_ended i (Jobs.jobs_of i x) y (of_instance_all i x) (grind (arith, nat_tests, f, other)))) x.world.jobs is

  placed_other : (n : InstanceId) → (i.0 == n.0) ≡ false → IsPlaced x.world.cluster x.world.bag (filter (λ y. not (is_ended (Jobs.jobs_of i x) y)) x.world.jobs) n (of_instance x.world.participants n)
  placed_other n other =
      placed_like x.world.cluster x.world.cluster x.world.bag x.world.bag x.world.jobs (filter (λ y. not (is_ended (Jobs.jobs_of i x) y)) x.world.jobs) n (of_instance x.world.participants n) k
      (same_parts x.world.cluster x.world.cluster refl refl) (omega arith) (omega arith) (λ m is. is) (λ m is_held is. kept_lent n m is_held other is)
      (λ t mine live. (live, (λ is. is), record { rows = λ q. refl; mail = λ q. refl })) (a.each n).free (λ stale. stale.apart) (a.each n)

  untouched : (s : SessionId) → session_of x.world.cluster i ≡ Some s → IsUntouched x.world.cluster s
  untouched s is = one ((a.each i).free s is)
    where
      one : ((of_instance x.world.participants i).session ≡ Some s) ⊎ IsUntouched x.world.cluster s → IsUntouched x.world.cluster s
      one (inl mine) = absurd (let z : true ≡ false = sym (session_live x.world.cluster i s is) ∙ dead s mine in (cc))
      one (inr u) = u

  placed_adopted : (w : Participant) → AreDistinct (map (λ z. z.part) w.slots) → IsPlaced x.world.cluster x.world.bag (filter (λ y. not (is_ended (Jobs.jobs_of i x) y)) x.world.jobs) i (adopt w o)
  placed_adopted w d = record {
    distinct = distinct-emptied w.slots d;
    below = below o theirs;
    own = λ s is live. theirs s is;
    slots = inr (λ q. subst (λ (z : Slot). HasSlot x.world.cluster x.world.bag (filter (λ y. not (is_ended (Jobs.jobs_of i x) y)) x.world.jobs) i o q z) (sym (slot-emptied w.slots q)) (record {
      last = let f = a.first in grind (arith, nat_tests, f);
      used = λ is. absurd (let z : true ≡ false = sym is ∙ (grind (arith, nat_tests)) in (cc));
      initial = λ t is. cc;
      there = λ is. cc;
      work = tt;
    }));
    along = λ s is live. let u = untouched s (theirs s is) in record {
      rows = λ q out. subst (λ (z : Slot). counts_as z (initial_of x.world.cluster q) ≡ standing_of x.world.cluster s q) (sym (slot-emptied w.slots q))
          (sym (ap (λ (r : Option StateId). unwrap_or r (initial_of x.world.cluster q)) (u.rows q)));
      mail = λ q m found. subst (λ (z : Slot). is_known_at z m ≡ true) (sym (slot-emptied w.slots q)) (new_known (new_slot q) m (u.mail q m found) (let n = (a.mail s q m found).number in grind (arith, nat_tests, n)));
    };
    free = λ s is. inr (untouched s is);
  }
    where
      below : (p : Option SessionId) → ((s : SessionId) → p ≡ Some s → session_of x.world.cluster i ≡ Some s) → is_below x.world.cluster.next_session p ≡ true
      below None h = refl
      below (Some s) h = number-below x.world.cluster.next_session s x.world.cluster.live k.below (session_live x.world.cluster i s (h s refl))

  each_adopted : (n : InstanceId) → IsPlaced x.world.cluster x.world.bag (filter (λ y. not (is_ended (Jobs.jobs_of i x) y)) x.world.jobs) n
      (of_instance (slice_set (Jobs.end_jobs (Jobs.jobs_of i x) x).world.participants i.0 (adopt (participant_of (Jobs.end_jobs (Jobs.jobs_of i x) x).world i) o)) n)
  each_adopted n = one (i.0 == n.0) refl
    where
      one : (b : Bool) → (i.0 == n.0) ≡ b → IsPlaced x.world.cluster x.world.bag (filter (λ y. not (is_ended (Jobs.jobs_of i x) y)) x.world.jobs) n
          (of_instance (slice_set (Jobs.end_jobs (Jobs.jobs_of i x) x).world.participants i.0 (adopt (participant_of (Jobs.end_jobs (Jobs.jobs_of i x) x).world i) o)) n)
      one false e = subst (λ (w : Participant). IsPlaced x.world.cluster x.world.bag (filter (λ y. not (is_ended (Jobs.jobs_of i x) y)) x.world.jobs) n w) (sym (others n e)) (placed_other n e)
      one true e =
          subst (λ (j : InstanceId). IsPlaced x.world.cluster x.world.bag (filter (λ y. not (is_ended (Jobs.jobs_of i x) y)) x.world.jobs) j
          (of_instance (slice_set (Jobs.end_jobs (Jobs.jobs_of i x) x).world.participants i.0 (adopt (participant_of (Jobs.end_jobs (Jobs.jobs_of i x) x).world i) o)) j)) (instance_same i n e)
          (subst (λ (w : Participant). IsPlaced x.world.cluster x.world.bag (filter (λ y. not (is_ended (Jobs.jobs_of i x) y)) x.world.jobs) i w) (sym here)
          (placed_adopted (participant_of (Jobs.end_jobs (Jobs.jobs_of i x) x).world i) (distinct_left i (Jobs.jobs_of i x) x lt (a.each i).distinct)))

  not_of_it : (y : Job) → IsHeldJob x.world.cluster x.world.participants x.world.jobs y → not (is_ended (Jobs.jobs_of i x) y) ≡ true → (i.0 == y.instance.0) ≡ false
  not_of_it y g keep = one (i.0 == y.instance.0) refl
    where
      one : (b : Bool) → (i.0 == y.instance.0) ≡ b → b ≡ false
      one false e = refl
      one true e = absurd (let z : true ≡ false = sym keep ∙ ap not (ended_of_it i x y g.only e) in (cc))

  held_adopted : (y : Job) → not (is_ended (Jobs.jobs_of i x) y) ≡ true → IsHeldJob x.world.cluster x.world.participants x.world.jobs y
      → IsHeldJob x.world.cluster (slice_set (Jobs.end_jobs (Jobs.jobs_of i x) x).world.participants i.0 (adopt (participant_of (Jobs.end_jobs (Jobs.jobs_of i x) x).world i) o)) (filter (λ z. not (is_ended (Jobs.jobs_of i x) z)) x.world.jobs) y
  held_adopted y keep g =
      let other = not_of_it y g keep in
      record {
        only = count-filter_kept (Jobs.is_job y.instance y.message.id) (λ z. not (is_ended (Jobs.jobs_of i x) z))
            (λ z e. let f = and-first (z.instance.0 == y.instance.0) (z.message.id.0 == y.message.id.0) e in ap not (not_ended i (Jobs.jobs_of i x) z (of_instance_all i x) (grind (arith, nat_tests, f, other)))) x.world.jobs ∙ g.only;
        out = subst (λ (w : Participant). is_lent_to y (slot_of w y.message.part).work ≡ true) (sym (others y.instance other)) g.out;
        taken = g.taken;
      }

  old_adopted : (b : Message) → is_live x.world.cluster.live b.session ≡ true → IsOldIn x.world.participants b
      → IsOldIn (slice_set (Jobs.end_jobs (Jobs.jobs_of i x) x).world.participants i.0 (adopt (participant_of (Jobs.end_jobs (Jobs.jobs_of i x) x).world i) o)) b
  old_adopted b live old = one (i.0 == old.instance.0) refl
    where
      one : (e : Bool) → (i.0 == old.instance.0) ≡ e → IsOldIn (slice_set (Jobs.end_jobs (Jobs.jobs_of i x) x).world.participants i.0 (adopt (participant_of (Jobs.end_jobs (Jobs.jobs_of i x) x).world i) o)) b
      one true e =
          let same = instance_same i old.instance e in
          let mine = mine_is (of_instance x.world.participants i).session b.session (subst (λ (n : InstanceId). is_session (of_instance x.world.participants n).session b.session ≡ true) (sym same) old.session) in
          absurd (let z : true ≡ false = sym live ∙ dead b.session mine in (cc))
      one false e = record {
        instance = old.instance;
        session = subst (λ (w : Participant). is_session w.session b.session ≡ true) (sym (others old.instance e)) old.session;
        last = subst (λ (w : Participant). nat_le b.id.0 (slot_of w b.part).last.0 ≡ true) (sym (others old.instance e)) old.last;
      }

  adopted_lists : AreInStep x.world.cluster (slice_set (Jobs.end_jobs (Jobs.jobs_of i x) x).world.participants i.0 (adopt (participant_of (Jobs.end_jobs (Jobs.jobs_of i x) x).world i) o))
      (filter (λ y. not (is_ended (Jobs.jobs_of i x) y)) x.world.jobs) x.world.bag
  adopted_lists = record {
    each = each_adopted;
    held = each-filter (IsHeldJob x.world.cluster x.world.participants x.world.jobs) _ (λ y. not (is_ended (Jobs.jobs_of i x) y)) held_adopted x.world.jobs a.held;
    bagged = each-le (IsInBag x.world.cluster x.world.participants) _ (λ b its. record {
      id = its.id;
      session = its.session;
      part = its.part;
      legal = its.legal;
      initial = its.initial;
      pending = λ live. pending b live (its.pending live);
      same = its.same;
    }) x.world.bag a.bagged;
    numbers = a.numbers;
    mail = a.mail;
    first = a.first;
  }
    where
      pending : (b : Message) → is_live x.world.cluster.live b.session ≡ true → IsPending x.world.cluster b ⊎ IsOldIn x.world.participants b
          → IsPending x.world.cluster b ⊎ IsOldIn (slice_set (Jobs.end_jobs (Jobs.jobs_of i x) x).world.participants i.0 (adopt (participant_of (Jobs.end_jobs (Jobs.jobs_of i x) x).world i) o)) b
      pending b live (inl p) = inl p
      pending b live (inr old) = inr (old_adopted b live old)

  pub adopt_in_step : (let y = (Jobs.adopt_in i o x).world in AreInStep y.cluster y.participants y.jobs y.bag)
  adopt_in_step =
      subst (λ (d : Cluster). AreInStep d (Jobs.adopt_in i o x).world.participants (Jobs.adopt_in i o x).world.jobs (Jobs.adopt_in i o x).world.bag) (sym (cluster_left (Jobs.jobs_of i x) x))
      (subst (λ (js : List Job). AreInStep x.world.cluster (Jobs.adopt_in i o x).world.participants js (Jobs.adopt_in i o x).world.bag) (sym (jobs_left (Jobs.jobs_of i x) x))
      (subst (λ (ms : List Message). AreInStep x.world.cluster (Jobs.adopt_in i o x).world.participants (filter (λ y. not (is_ended (Jobs.jobs_of i x) y)) x.world.jobs) ms) (sym (bag_left (Jobs.jobs_of i x) x)) adopted_lists))

weight_left : (js : List Job) (x : State) → (Jobs.end_jobs js x).world.weight ≡ x.world.weight
weight_left [] x = refl
weight_left (j ∷ js) x = weight_left js (Jobs.end_job j x)

limit_left : (js : List Job) (x : State) → (Jobs.end_jobs js x).world.limit ≡ x.world.limit
limit_left [] x = refl
limit_left (j ∷ js) x = limit_left js (Jobs.end_job j x)

spec_left : (js : List Job) (x : State) → (Jobs.end_jobs js x).world.spec ≡ x.world.spec
spec_left [] x = refl
spec_left (j ∷ js) x = spec_left js (Jobs.end_job j x)

pub adopt_world_in_step : (x : State) (i : InstanceId) (o : Option SessionId) → IsKept x.world.cluster → IsInStep x.world → i.0 < length x.world.participants
    → ((s : SessionId) → (of_instance x.world.participants i).session ≡ Some s → is_live x.world.cluster.live s ≡ false) → ((s : SessionId) → o ≡ Some s → session_of x.world.cluster i ≡ Some s)
    → IsInStep (Jobs.adopt_in i o x).world
adopt_world_in_step x i o k s lt dead theirs =
    let y = Jobs.end_jobs (Jobs.jobs_of i x) x in
    record {
      parts = adopt_in_step x i o k s.parts lt dead theirs;
      participants = length-put y.world.participants i.0 (adopt (participant_of y.world i) o) ∙ many_left (Jobs.jobs_of i x) x ∙ s.participants ∙ ap (λ (spec : Spec). length spec.instances) (sym (spec_left (Jobs.jobs_of i x) x));
      weight = let a = weight_left (Jobs.jobs_of i x) x in let b = limit_left (Jobs.jobs_of i x) x in let e = s.weight in omega arith;
    }

-- each pending message is the one that is found at its place
each_found : {X : Type 0} (alike : X → X → Bool) (xs : List X) → ((x : X) → alike x x ≡ true) → ((x : X) → count (alike x) xs ≤ 1) → Each (λ x. find (alike x) xs ≡ Some x) xs
each_found alike [] self most = tt
each_found {X} alike (x ∷ xs) self most =
    (first (alike x x) (self x), each-le (λ y. find (alike y) xs ≡ Some y) (λ y. find (alike y) (x ∷ xs) ≡ Some y) (λ y e. later y (alike y x) refl e) xs (each_found alike xs self (λ y. fewer y (alike y x) refl (most y))))
  where
    first : (b : Bool) → alike x x ≡ true → find (alike x) (x ∷ xs) ≡ Some x
    first b e = rw e refl

    fewer : (y : X) (b : Bool) → alike y x ≡ b → count (alike y) (x ∷ xs) ≤ 1 → count (alike y) xs ≤ 1
    fewer y true e f = grind (arith, e, f)
    fewer y false e f = grind (arith, e, f)

    later : (y : X) (b : Bool) → alike y x ≡ b → find (alike y) xs ≡ Some y → find (alike y) (x ∷ xs) ≡ Some y
    later y true e f =
        let some = any-count (alike y) xs (find-any (alike y) (alike y) xs y f (self y)) in
        let few = most y in
        absurd (let z : true ≡ false = grind (arith, e, some, few) in (cc))
    later y false e f = rw e f

pub mail_found : (c : Cluster) → IsKept c → (o : Option SessionId) → Each (λ m. message_of c.mail m.session m.part ≡ Some m) (messages_for c o)
mail_found c k None = tt
mail_found c k (Some s) =
    each-filter (λ m. message_of c.mail m.session m.part ≡ Some m) (λ m. message_of c.mail m.session m.part ≡ Some m) (λ m. m.session.0 == s.0) (λ m e f. f) c.mail
    (each_found (λ (m n : Message). is_message m.session m.part n) c.mail (λ m. and-both (m.session.0 == m.session.0) (part_eq m.part m.part) (same-self m.session.0) (part_eq-self m.part)) (λ m. k.mail.single m.session m.part))
