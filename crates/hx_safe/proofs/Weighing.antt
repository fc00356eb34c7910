-- The numbers of a cluster rise no further than its history weighs.
use Rattle.std.proofs.Common.{◌≡◌, ℕ, zero, suc, ◌+◌, ◌*◌, ◌≤◌, ◌==◌, ◌&&◌, ◌||◌, not, Bool, true, false, List, [], ◌∷◌, ◌++◌, filter, map, find, length, Option, Some, None, refl, sym, ap, ◌∙◌, subst, arith}
use Rattle.std.specs.Prelude.{if◌then◌else◌, nat_le, replicate, slice_get, slice_set, is_none}
use Rattle.std.specs.List.{list_any, list_all}
use Rattle.std.proofs.lemmas.Bool.{cond_both}
use Rattle.std.proofs.lemmas.Bool.Decides.{nat_tests}
use Rattle.hx_lists.specs.Lists.{count}
use Rattle.hx_ids.specs.Expiry.{is_expired}
use Rattle.hx_ids.specs.declared.InstanceId.{InstanceId}
use Rattle.hx_ids.specs.declared.SessionId.{SessionId}
use Rattle.hx_ids.specs.declared.MsgId.{MsgId}
use Rattle.hx_ids.specs.declared.PassNo.{PassNo}
use Rattle.hx_ids.specs.declared.PartId.{PartId}
use Rattle.hx_ids.specs.declared.ControllerId.{ControllerId}
use Rattle.hx_ids.specs.declared.ResourceId.{ResourceId}
use Rattle.hx_ids.specs.declared.Live.{Live}
use Rattle.hx_cluster.specs.declared.description.Spec.{Spec}
use Rattle.hx_cluster.specs.declared.description.Resource.{Resource}
use Rattle.hx_cluster.specs.declared.state.Message.{Message}
use Rattle.hx_cluster.specs.declared.state.Cluster.{Cluster}
use Rattle.hx_cluster.specs.declared.happenings.Outcome.{Outcome}
use Rattle.hx_cluster.specs.declared.happenings.Proposal.{Proposal}
use Rattle.hx_cluster.specs.declared.happenings.Placed.{Placed}
use Rattle.hx_cluster.specs.declared.happenings.Placed.TheVariants as placings
use Rattle.hx_cluster.specs.declared.happenings.Admin.{Admin}
use Rattle.hx_cluster.specs.declared.happenings.Admin.TheVariants as steps
use Rattle.hx_cluster.specs.declared.happenings.Event.{Event}
use Rattle.hx_cluster.specs.declared.happenings.Event.TheVariants as events
use Rattle.hx_cluster.specs.Ends.{is_session, is_live, resource_at}
use Rattle.hx_cluster.specs.Steps.{opening, after, is_of, live_of, without, without_all, ended_of, ended_by, beaten_of, changed_at, with_resource, asked_of, marked_down, with_down, without_leader, is_leader}
use Rattle.hx_cluster.specs.Messages.{message_from, placed_of, after_placed, after_proposal, after_proposals, raised_pass, next_pass, after_dispatch, has_id, pending_of, as_taken, as_written, after_take, written_of, after_write, after_ack}
use Rattle.hx_cluster.specs.declared.happenings.TakeFault.TheVariants as takes
use Rattle.hx_cluster.specs.declared.happenings.WriteRefusal.TheVariants as writes
use Rattle.hx_cluster.specs.declared.happenings.AckFault.TheVariants as acks
use Rattle.hx_cluster.specs.Marks.{take_fault, take_refusal, write_fault, write_refusal, ack_fault, ack_refusal}
use Rattle.hx_cluster.specs.Events.{next, replay, IsStep, IsLegal}
use Rattle.hx_cluster.specs.Weight.{step_weight, weight_of, weight_of_all, owed_by, owed_in, owed_of}
use Rattle.hx_cluster.specs.Safe.{SafeAlong}
use Rattle.hx_cluster.specs.Valid.{IsValid}
use Rattle.hx_safe.specs.Weighed.{IsWeighed}
use Rattle.hx_safe.proofs.Whole.{valid_safe}
use Rattle.hx_safe.proofs.Counting.{all-le, find-passes}

-- what messages owe, as they are added, filtered and marked
owed-append : (ms : List Message) (m : Message) → owed_in (ms ++ m ∷ []) ≡ owed_in ms + owed_by m
owed-append [] m = omega arith
owed-append (x ∷ ms) m = omega (arith, owed-append ms m)

owed-filter : (k : Message → Bool) (ms : List Message) → owed_in (filter k ms) ≤ owed_in ms
owed-filter k [] = omega arith
owed-filter k (m ∷ ms) = one (k m) (owed-filter k ms)
  where
    one : (b : Bool) → owed_in (filter k ms) ≤ owed_in ms → owed_in (if b then m ∷ filter k ms else filter k ms) ≤ owed_in (m ∷ ms)
    one true less = omega (arith, less)
    one false less = omega (arith, less)

owed-removed : (q : Message → Bool) (ms : List Message) (x : Message) → find q ms ≡ Some x → owed_in (filter (λ m. not (q m)) ms) + 1 ≤ owed_in ms
owed-removed q [] x e = cc
owed-removed q (m ∷ ms) x e = one (q m) e (λ f. owed-removed q ms x f)
  where
    one : (b : Bool) → (if b then Some m else find q ms) ≡ Some x → (find q ms ≡ Some x → owed_in (filter (λ y. not (q y)) ms) + 1 ≤ owed_in ms)
        → owed_in (if not b then m ∷ filter (λ y. not (q y)) ms else filter (λ y. not (q y)) ms) + 1 ≤ owed_in (m ∷ ms)
    one true e rest = omega (arith, owed-filter (λ y. not (q y)) ms)
    one false e rest = omega (arith, rest e)

owed-map : (f : Message → Message) (h : (m : Message) → owed_by (f m) ≤ owed_by m) (ms : List Message) → owed_in (map f ms) ≤ owed_in ms
owed-map f h [] = omega arith
owed-map f h (m ∷ ms) = omega (arith, owed-map f h ms, h m)

owed-marked : (f : Message → Message) (q : Message → Bool) (h : (m : Message) → owed_by (f m) ≤ owed_by m) (ms : List Message) (x : Message)
    → find q ms ≡ Some x → owed_by (f x) + 1 ≤ owed_by x → owed_in (map f ms) + 1 ≤ owed_in ms
owed-marked f q h [] x e less = cc
owed-marked f q h (m ∷ ms) x e less = one (q m) e (λ g. owed-marked f q h ms x g less)
  where
    some-same : Some m ≡ Some x → m ≡ x
    some-same e = cc

    one : (b : Bool) → (if b then Some m else find q ms) ≡ Some x → (find q ms ≡ Some x → owed_in (map f ms) + 1 ≤ owed_in ms)
        → owed_in (map f (m ∷ ms)) + 1 ≤ owed_in (m ∷ ms)
    one true e rest =
        let P : Message → Type 0 = λ y. owed_by (f y) + 1 ≤ owed_by y in
        let here : owed_by (f m) + 1 ≤ owed_by m = subst P (sym (some-same e)) less in
        omega (arith, here, owed-map f h ms)
    one false e rest = omega (arith, h m, rest e)

pub length-filter : {X : Type 0} (k : X → Bool) (xs : List X) → length (filter k xs) ≤ length xs
length-filter k [] = omega arith
length-filter k (x ∷ xs) = grind (arith, length-filter k xs)

pub length-removed : {X : Type 0} (q : X → Bool) (xs : List X) → list_any q xs ≡ true → length (filter (λ y. not (q y)) xs) + 1 ≤ length xs
length-removed q [] e = cc
length-removed q (x ∷ xs) e = grind (arith, e, length-removed q xs, length-filter (λ y. not (q y)) xs)

length-push : {X : Type 0} (xs : List X) (x : X) → length (xs ++ x ∷ []) ≡ length xs + 1
length-push [] x = refl
length-push (y ∷ xs) x = grind (arith, length-push xs x)

-- a session that ends was live
pub paid_without : (c : Cluster) (s : SessionId) → is_live c.live s ≡ true → (without c s).change + owed_of (without c s) ≤ c.change + owed_of c
paid_without c s live =
    let fewer : length (filter (λ l. not (is_session s l)) c.live) + 1 ≤ length c.live = length-removed (is_session s) c.live live in
    let less : owed_in (filter (λ m. not (m.session.0 == s.0)) c.mail) ≤ owed_in c.mail = owed-filter (λ m. not (m.session.0 == s.0)) c.mail in
    omega (arith, fewer, less)

-- so were those that a tick ends, each other than the rest
live-kept : (live : List Live) (s u : SessionId) → (u.0 == s.0) ≡ false → is_live live u ≡ true → is_live (filter (λ l. not (is_session s l)) live) u ≡ true
live-kept [] s u other e = e
live-kept (l ∷ live) s u other e = one (l.session.0 == s.0) refl (l.session.0 == u.0) refl e (λ f. live-kept live s u other f)
  where
    one : (b : Bool) → (l.session.0 == s.0) ≡ b → (d : Bool) → (l.session.0 == u.0) ≡ d → (d || is_live live u) ≡ true
        → (is_live live u ≡ true → is_live (filter (λ x. not (is_session s x)) live) u ≡ true)
        → is_live (if not b then l ∷ filter (λ x. not (is_session s x)) live else filter (λ x. not (is_session s x)) live) u ≡ true
    one true at true is e rest = absurd (grind (arith, nat_tests, at, is, other))
    one true at false is e rest = rest e
    one false at true is e rest = grind (arith, is)
    one false at false is e rest = grind (arith, is, rest e)

abbrev are_live : List Live → List SessionId → Bool
are_live live ss = list_all (λ s. is_live live s) ss

abbrev is_other : SessionId → SessionId → Bool
is_other s u = not (u.0 == s.0)

abbrev are_apart : List SessionId → Bool
are_apart [] = true
are_apart (s ∷ ss) = list_all (is_other s) ss && are_apart ss

live-rest : (live : List Live) (s : SessionId) (ss : List SessionId) → list_all (is_other s) ss ≡ true → are_live live ss ≡ true
    → are_live (filter (λ l. not (is_session s l)) live) ss ≡ true
live-rest live s [] apart e = refl
live-rest live s (u ∷ ss) apart e =
    let here : is_live (filter (λ l. not (is_session s l)) live) u ≡ true = live-kept live s u (grind (arith, apart)) (grind (arith, e)) in
    let rest : are_live (filter (λ l. not (is_session s l)) live) ss ≡ true = live-rest live s ss (grind (arith, apart)) (grind (arith, e)) in
    grind (arith, here, rest)

paid_without_all : (c : Cluster) (ss : List SessionId) → are_live c.live ss ≡ true → are_apart ss ≡ true
    → (without_all c ss).change + owed_of (without_all c ss) ≤ c.change + owed_of c
paid_without_all c [] e apart = omega arith
paid_without_all c (s ∷ ss) e apart =
    let one : (without c s).change + owed_of (without c s) ≤ c.change + owed_of c = paid_without c s (grind (arith, e)) in
    let rest : (without_all (without c s) ss).change + owed_of (without_all (without c s) ss) ≤ (without c s).change + owed_of (without c s) =
    paid_without_all (without c s) ss (live-rest c.live s ss (grind (arith, apart)) (grind (arith, e))) (grind (arith, apart)) in
    omega (arith, one, rest)

-- the expired sessions are live, and each is another one
expired-live : (p : Live → Bool) (live more : List Live) → ((l : Live) → list_any (λ x. x.session.0 == l.session.0) live ≡ true → is_live more l.session ≡ true)
    → are_live more (map (λ l. l.session) (filter p live)) ≡ true
expired-live p [] more within = refl
expired-live p (l ∷ live) more within =
    one (p l) (within l (grind (arith, nat_tests))) (expired-live p live more (λ x e. within x (grind (arith, e))))
  where
    one : (b : Bool) → is_live more l.session ≡ true → are_live more (map (λ x. x.session) (filter p live)) ≡ true
        → are_live more (map (λ x. x.session) (if b then l ∷ filter p live else filter p live)) ≡ true
    one true here rest = grind (arith, here, rest)
    one false here rest = rest

apart-filter : (p : Live → Bool) (s : SessionId) (live : List Live) → count (is_session s) live ≡ 0
    → list_all (is_other s) (map (λ l. l.session) (filter p live)) ≡ true
apart-filter p s [] none = refl
apart-filter p s (l ∷ live) none = one (l.session.0 == s.0) refl none (p l) (λ e. apart-filter p s live e)
  where
    one : (d : Bool) → (l.session.0 == s.0) ≡ d → length (if d then l ∷ filter (is_session s) live else filter (is_session s) live) ≡ 0 → (b : Bool)
        → (count (is_session s) live ≡ 0 → list_all (is_other s) (map (λ x. x.session) (filter p live)) ≡ true)
        → list_all (is_other s) (map (λ x. x.session) (if b then l ∷ filter p live else filter p live)) ≡ true
    one true is none b rest = absurd (grind (arith, none))
    one false is none true rest = grind (arith, is, rest none)
    one false is none false rest = rest none

expired-apart : (p : Live → Bool) (live : List Live) → ((s : SessionId) → count (is_session s) live ≤ 1) → are_apart (map (λ l. l.session) (filter p live)) ≡ true
expired-apart p [] single = refl
expired-apart p (l ∷ live) single = one (p l) (expired-apart p live (λ s. fewer s (l.session.0 == s.0) (single s))) (apart-filter p l.session live (alone (l.session.0 == l.session.0) (grind (arith, nat_tests)) (single l.session)))
  where
    fewer : (s : SessionId) (b : Bool) → length (if b then l ∷ filter (is_session s) live else filter (is_session s) live) ≤ 1 → count (is_session s) live ≤ 1
    fewer s true e = omega (arith, e)
    fewer s false e = e

    alone : (b : Bool) → b ≡ true → length (if b then l ∷ filter (is_session l.session) live else filter (is_session l.session) live) ≤ 1 → count (is_session l.session) live ≡ 0
    alone true is e = omega (arith, e)
    alone false is e = cc

    one : (b : Bool) → are_apart (map (λ x. x.session) (filter p live)) ≡ true → list_all (is_other l.session) (map (λ x. x.session) (filter p live)) ≡ true
        → are_apart (map (λ x. x.session) (if b then l ∷ filter p live else filter p live)) ≡ true
    one true rest here = grind (arith, rest, here)
    one false rest here = rest

-- what they leave as it was
pub record IsLeft (c d : Cluster) : Type 0 where
  pub sessions : d.next_session ≡ c.next_session
  pub messages : d.next_msg ≡ c.next_msg
  pub epoch : d.epoch ≡ c.epoch
  pub controllers : d.controllers ≡ c.controllers

beside_without_all : (c : Cluster) (ss : List SessionId) → IsLeft c (without_all c ss)
beside_without_all c [] = record { sessions = refl; messages = refl; epoch = refl; controllers = refl }
beside_without_all c (s ∷ ss) =
    let rest = beside_without_all (without c s) ss in
    record { sessions = rest.sessions; messages = rest.messages; epoch = rest.epoch; controllers = rest.controllers }

paid_tick : (c : Cluster) (n : ℕ) → ((s : SessionId) → count (is_session s) c.live ≤ 1)
    → (after c (steps.Tick n)).change + owed_of (after c (steps.Tick n)) ≤ c.change + owed_of c
paid_tick c n single =
    paid_without_all (record c { clock = c.clock + n }) (ended_by c n)
    (expired-live (is_expired (c.clock + n) c.timeout) c.live c.live (λ l e. e))
    (expired-apart (is_expired (c.clock + n) c.timeout) c.live single)

-- a message that is sent was paid for
paid_placed : (c : Cluster) (q : Proposal) (p : Placed) → (after_placed c q p).change + owed_of (after_placed c q p) ≤ c.change + owed_of c + 4
paid_placed c q (placings.Sent id) = omega (arith, owed-append c.mail (message_from c id q))
paid_placed c q _ = omega arith

drawn_placed : (c : Cluster) (q : Proposal) (p : Placed) → (after_placed c q p).next_msg ≤ c.next_msg + 1
drawn_placed c q (placings.Sent id) = omega arith
drawn_placed c q _ = omega arith

-- what proposals leave as it was
pub record IsBeside (c d : Cluster) : Type 0 where
  pub sessions : d.next_session ≡ c.next_session
  pub epoch : d.epoch ≡ c.epoch
  pub controllers : d.controllers ≡ c.controllers

beside_placed : (c : Cluster) (q : Proposal) (p : Placed) → IsBeside c (after_placed c q p)
beside_placed c q (placings.Sent id) = record { sessions = refl; epoch = refl; controllers = refl }
beside_placed c q _ = record { sessions = refl; epoch = refl; controllers = refl }

owed_placed : (c : Cluster) (q : Proposal) (p : Placed) → owed_of (after_placed c q p) ≤ owed_of c + 3
owed_placed c q (placings.Sent id) = omega (arith, owed-append c.mail (message_from c id q))
owed_placed c q _ = omega arith

pub owed_proposals : (c : Cluster) (qs : List Proposal) → owed_of (after_proposals c qs) ≤ owed_of c + 3 * length qs
owed_proposals c [] = omega arith
owed_proposals c (q ∷ qs) = omega (arith, owed_placed c q (placed_of c q), owed_proposals (after_proposal c q) qs)

pub paid_proposals : (c : Cluster) (qs : List Proposal) → (after_proposals c qs).change + owed_of (after_proposals c qs) ≤ c.change + owed_of c + 4 * length qs
paid_proposals c [] = omega arith
paid_proposals c (q ∷ qs) = omega (arith, paid_placed c q (placed_of c q), paid_proposals (after_proposal c q) qs)

drawn_proposals : (c : Cluster) (qs : List Proposal) → (after_proposals c qs).next_msg ≤ c.next_msg + length qs
drawn_proposals c [] = omega arith
drawn_proposals c (q ∷ qs) = omega (arith, drawn_placed c q (placed_of c q), drawn_proposals (after_proposal c q) qs)

beside_proposals : (c : Cluster) (qs : List Proposal) → IsBeside c (after_proposals c qs)
beside_proposals c [] = record { sessions = refl; epoch = refl; controllers = refl }
beside_proposals c (q ∷ qs) =
    let one = beside_placed c q (placed_of c q) in
    let rest = beside_proposals (after_proposal c q) qs in
    record { sessions = rest.sessions ∙ one.sessions; epoch = rest.epoch ∙ one.epoch; controllers = rest.controllers ∙ one.controllers }

-- passes
abbrev is_paid : ℕ → Bool × PassNo → Bool
is_paid w d = nat_le d.1.0 w

passes-more : (w n : ℕ) (ds : List (Bool × PassNo)) → list_all (is_paid w) ds ≡ true → list_all (is_paid (w + n)) ds ≡ true
passes-more w n ds e = all-le (is_paid w) (is_paid (w + n)) (λ d h. grind (arith, nat_tests, h)) ds e

passes-set : (p : Bool × PassNo → Bool) (ds : List (Bool × PassNo)) (n : ℕ) (d : Bool × PassNo) → list_all p ds ≡ true → p d ≡ true → list_all p (slice_set ds n d) ≡ true
passes-set p [] n d e h = e
passes-set p (x ∷ ds) zero d e h = grind (arith, e, h)
passes-set p (x ∷ ds) (suc n) d e h = grind (arith, e, passes-set p ds n d (grind (arith, e)) h)

passes-get : (p : Bool × PassNo → Bool) (ds : List (Bool × PassNo)) (n : ℕ) (d : Bool × PassNo) → slice_get ds n ≡ Some d → list_all p ds ≡ true → p d ≡ true
passes-get p [] n d at e = cc
passes-get p (x ∷ ds) zero d at e = let same : x ≡ d = (λ (f : Some x ≡ Some d). let same : x ≡ d = cc in same) at in let P : Bool × PassNo → Type 0 = λ y. p y ≡ true in subst P same (grind (arith, e))
passes-get p (x ∷ ds) (suc n) d at e = passes-get p ds n d at (grind (arith, e))

-- a cluster that differs in nothing that is counted, but for a change that was paid for
weighed_on : (c d : Cluster) (w n : ℕ) → IsWeighed c w → d.change + owed_of d ≤ c.change + owed_of c + n → d.next_session ≡ c.next_session → d.next_msg ≡ c.next_msg
    → d.epoch ≡ c.epoch → d.controllers ≡ c.controllers → IsWeighed d (w + n)
weighed_on c d w n k paid sessions messages epoch controllers = record {
  changes = omega (arith, paid, k.changes);
  sessions = omega (arith, sessions, k.sessions);
  messages = omega (arith, messages, k.messages);
  epochs = let same : d.epoch.0 ≡ c.epoch.0 = ap (λ e. e.0) epoch in omega (arith, same, k.epochs);
  passes = let P : List (Bool × PassNo) → Type 0 = λ ds. list_all (is_paid (w + n)) ds ≡ true in subst P (sym controllers) (passes-more w n c.controllers k.passes);
}

-- one of the controllers changed, to a pass that was paid for
weighed_controllers : (c : Cluster) (w n : ℕ) (j : ℕ) (d : Bool × PassNo) → IsWeighed c w → is_paid (w + n) d ≡ true
    → IsWeighed (record c { controllers = slice_set c.controllers j d }) (w + n)
weighed_controllers c w n j d k paid = record {
  changes = omega (arith, k.changes);
  sessions = omega (arith, k.sessions);
  messages = omega (arith, k.messages);
  epochs = omega (arith, k.epochs);
  passes = passes-set (is_paid (w + n)) c.controllers j d (passes-more w n c.controllers k.passes) paid;
}

weighed_more : (c : Cluster) (w n : ℕ) → IsWeighed c w → IsWeighed c (w + n)
weighed_more c w n k = weighed_on c c w n k (omega arith) refl refl refl refl

weighed_raised : (c : Cluster) (k : ControllerId) (w n : ℕ) → 1 ≤ n → IsWeighed c w → IsWeighed (next_pass c k) (w + n)
weighed_raised c k w n least h = one (slice_get c.controllers k.0) refl
  where
    one : (o : Option (Bool × PassNo)) → slice_get c.controllers k.0 ≡ o → IsWeighed (raised_pass c k o) (w + n)
    one None is = weighed_more c w n h
    one (Some d) is =
        let low : is_paid w d ≡ true = passes-get (is_paid w) c.controllers k.0 d is h.passes in
        weighed_controllers c w n k.0 (d.0, record { 0 = d.1.0 + 1 }) h (grind (arith, nat_tests, low, least))

weighed_down : (c : Cluster) (k : ControllerId) (down : Bool) (w n : ℕ) → IsWeighed c w → IsWeighed (with_down c k down) (w + n)
weighed_down c k down w n h = one (slice_get c.controllers k.0) refl
  where
    one : (o : Option (Bool × PassNo)) → slice_get c.controllers k.0 ≡ o → IsWeighed (marked_down c k down o) (w + n)
    one None is = weighed_more c w n h
    one (Some d) is =
        let low : is_paid w d ≡ true = passes-get (is_paid w) c.controllers k.0 d is h.passes in
        weighed_controllers c w n k.0 (down, d.1) h (grind (arith, nat_tests, low))

weighed_unled : (k : ControllerId) (c : Cluster) (w : ℕ) → IsWeighed c w → IsWeighed (without_leader k c) (w + 1)
weighed_unled k c w h = one (is_leader k c.leader)
  where
    one : (b : Bool) → IsWeighed (if b then record c { leader = None; epoch = record { 0 = c.epoch.0 + 1 } } else c) (w + 1)
    one true = record {
      changes = omega (arith, h.changes);
      sessions = omega (arith, h.sessions);
      messages = omega (arith, h.messages);
      epochs = omega (arith, h.epochs);
      passes = passes-more w 1 c.controllers h.passes;
    }
    one false = weighed_more c w 1 h

-- a live session that ends, or has a beat
pub found-live : (live : List Live) (i : InstanceId) (l : Live) → find (is_of i) live ≡ Some l → is_live live l.session ≡ true
found-live [] i l e = cc
found-live (x ∷ live) i l e = one (is_of i x) e (λ f. found-live live i l f)
  where
    same : Some x ≡ Some l → x ≡ l
    same f = cc

    one : (b : Bool) → (if b then Some x else find (is_of i) live) ≡ Some l → (find (is_of i) live ≡ Some l → is_live live l.session ≡ true)
        → ((x.session.0 == l.session.0) || is_live live l.session) ≡ true
    one true e rest = let P : Live → Type 0 = λ y. ((x.session.0 == y.session.0) || is_live live y.session) ≡ true in subst P (same e) (grind (arith, nat_tests))
    one false e rest = grind (arith, rest e)

weighed_end : (c : Cluster) (w : ℕ) (i : InstanceId) (o : Option Live) → live_of c.live i ≡ o → IsWeighed c w → IsWeighed (ended_of c o) (w + 0)
weighed_end c w i None is h = weighed_more c w 0 h
weighed_end c w i (Some l) is h =
    weighed_on c (without c l.session) w 0 h (omega (arith, paid_without c l.session (found-live c.live i l is))) refl refl refl refl

weighed_beat : (c : Cluster) (w : ℕ) (i : InstanceId) (o : Option Live) → live_of c.live i ≡ o → IsWeighed c w → IsWeighed (beaten_of c o) (w + 1)
weighed_beat c w i None is h = weighed_more c w 1 h
weighed_beat c w i (Some l) is h =
    let fewer : length (filter (λ x. not (is_session l.session x)) c.live) + 1 ≤ length c.live = length-removed (is_session l.session) c.live (found-live c.live i l is) in
    let push : length (filter (λ x. not (is_session l.session x)) c.live ++ (record l { beat = c.clock }) ∷ []) ≡ length (filter (λ x. not (is_session l.session x)) c.live) + 1 =
    length-push (filter (λ x. not (is_session l.session x)) c.live) (record l { beat = c.clock }) in
    weighed_on c (beaten_of c (Some l)) w 1 h (omega (arith, fewer, push)) refl refl refl refl

-- steps that change a resource or a flag
weighed_resource : (c : Cluster) (w n : ℕ) (r : ResourceId) (f : Resource → Resource) → 1 ≤ n → IsWeighed c w → IsWeighed (with_resource c r f) (w + n)
weighed_resource c w n r f least h = one (resource_at c.resources r)
  where
    one : (o : Option Resource) → IsWeighed (changed_at c r f o) (w + n)
    one None = weighed_more c w n h
    one (Some x) = weighed_on c (changed_at c r f (Some x)) w n h (omega (arith, least)) refl refl refl refl

weighed_asked : (c : Cluster) (w : ℕ) (p : PartId) (o : Option Live) → IsWeighed c w → IsWeighed (asked_of c p o) (w + 1)
weighed_asked c w p None h = weighed_more c w 1 h
weighed_asked c w p (Some l) h = weighed_on c (asked_of c p (Some l)) w 1 h (omega arith) refl refl refl refl

weighed_step : (c : Cluster) (step : Admin) (w : ℕ) → ((s : SessionId) → count (is_session s) c.live ≤ 1) → IsWeighed c w → IsWeighed (after c step) (w + step_weight step)
weighed_step c (steps.Join i) w single h = record {
  changes = omega (arith, h.changes, length-push c.live (record { session = record { 0 = c.next_session }; instance = i; beat = c.clock }));
  sessions = omega (arith, h.sessions);
  messages = omega (arith, h.messages);
  epochs = omega (arith, h.epochs);
  passes = passes-more w 2 c.controllers h.passes;
}
weighed_step c (steps.End i) w single h = weighed_end c w i (live_of c.live i) refl h
weighed_step c (steps.Beat i) w single h = weighed_beat c w i (live_of c.live i) refl h
weighed_step c (steps.Tick n) w single h =
    let beside = beside_without_all (record c { clock = c.clock + n }) (ended_by c n) in
    weighed_on c (after c (steps.Tick n)) w 1 h (omega (arith, paid_tick c n single)) beside.sessions beside.messages beside.epoch beside.controllers
weighed_step c (steps.Drain i) w single h = weighed_on c (after c (steps.Drain i)) w 1 h (omega arith) refl refl refl refl
weighed_step c (steps.Undrain i) w single h = weighed_on c (after c (steps.Undrain i)) w 1 h (omega arith) refl refl refl refl
weighed_step c (steps.Add name model ideal) w single h = weighed_on c (after c (steps.Add name model ideal)) w (1 + ideal.parts) h (omega arith) refl refl refl refl
weighed_step c (steps.Drop r) w single h = weighed_resource c w 1 r _ (omega arith) h
weighed_step c (steps.SetList p list) w single h = weighed_resource c w (1 + length list) p.resource _ (omega arith) h
weighed_step c (steps.SetMap p map) w single h = weighed_resource c w (1 + length map) p.resource _ (omega arith) h
weighed_step c (steps.Reset i p) w single h = weighed_asked c w p (live_of c.live i) h
weighed_step c (steps.Lead k) w single h = weighed_on c (after c (steps.Lead k)) w 1 h (omega arith) refl refl refl refl
weighed_step c (steps.Stop k) w single h =
    let P : ℕ → Type 0 = λ n. IsWeighed (after c (steps.Stop k)) n in
    subst P (let same : w + 0 + 1 ≡ w + 1 = omega arith in same) (weighed_unled k (with_down c k true) (w + 0) (weighed_down c k true w 0 h))
weighed_step c (steps.Start k) w single h = weighed_down c k false w 1 h

-- who may mark a message, or take it out, finds it
pub found_by : {F : Type 0} (fault : Option Message → Option F) (ended : F) (live : Bool) (o : Option Message) → is_none (fault None) ≡ false → is_none (if live then fault o else Some ended) ≡ true
    → (m : Message) × (o ≡ Some m) × (is_none (fault (Some m)) ≡ true)
found_by fault ended false o none e = cc
found_by fault ended true None none e = let both = sym none ∙ e in cc
found_by fault ended true (Some m) none e = (m, refl, e)

-- and a mark after which it owes less takes that from what is owed
paid_mark : (c : Cluster) (s : SessionId) (id : MsgId) (f : Message → Message) (m : Message) → ((x : Message) → owed_by (f x) ≤ owed_by x)
    → pending_of c s id ≡ Some m → owed_by (f m) + 1 ≤ owed_by m → owed_in (map (λ x. if has_id s id x then f x else x) c.mail) + 1 ≤ owed_in c.mail
paid_mark c s id f m less is new =
    owed-marked (λ x. if has_id s id x then f x else x) (has_id s id)
    (λ x. cond_both (has_id s id x) (f x) x (λ (y : Message). owed_by y ≤ owed_by x) (λ e. less x) (λ e. omega arith)) c.mail m is
    (subst (λ (b : Bool). owed_by (if b then f m else m) + 1 ≤ owed_by m) (sym (find-passes (has_id s id) c.mail m is)) new)

-- what becomes of a message was paid for
pub paid_take : (c : Cluster) (s : SessionId) (id : MsgId) → is_none (take_refusal c s id) ≡ true → owed_in (map (as_taken s id) c.mail) + 1 ≤ owed_in c.mail
paid_take c s id can =
    let found = found_by take_fault takes.SessionEnded (is_live c.live s) (pending_of c s id) refl can in
    paid_mark c s id (λ x. record x { taken = true }) found.0 (λ x. grind arith) found.1 (grind (arith, found.2))

pub paid_write : (c : Cluster) (s : SessionId) (id : MsgId) → is_none (write_refusal c s id) ≡ true → owed_in (map (as_written s id) c.mail) + 1 ≤ owed_in c.mail
paid_write c s id can =
    let found = found_by write_fault writes.SessionEnded (is_live c.live s) (pending_of c s id) refl can in
    paid_mark c s id (λ x. record x { written = true }) found.0 (λ x. grind arith) found.1 (grind (arith, found.2))

pub paid_ack : (c : Cluster) (s : SessionId) (id : MsgId) → is_none (ack_refusal c s id) ≡ true → owed_in (filter (λ m. not (has_id s id m)) c.mail) + 1 ≤ owed_in c.mail
paid_ack c s id can =
    let found = found_by ack_fault acks.SessionEnded (is_live c.live s) (pending_of c s id) refl can in
    owed-removed (has_id s id) c.mail found.0 found.1

weighed_write : (c : Cluster) (s : SessionId) (id : MsgId) (outcome : Outcome) (w : ℕ) → is_none (write_refusal c s id) ≡ true → IsWeighed c w
    → IsWeighed (after_write c s id outcome) (w + 0)
weighed_write c s id outcome w can h = one (pending_of c s id)
  where
    one : (o : Option Message) → IsWeighed (written_of c s id outcome o) (w + 0)
    one None = weighed_more c w 0 h
    one (Some m) = weighed_on c (written_of c s id outcome (Some m)) w 0 h (omega (arith, paid_write c s id can)) refl refl refl refl

weighed_dispatch : (c : Cluster) (k : ControllerId) (qs : List Proposal) (w : ℕ) → IsWeighed c w → IsWeighed (after_dispatch c k qs) (w + (1 + 4 * length qs))
weighed_dispatch c k qs w h =
    let first = weighed_raised c k w (1 + 4 * length qs) (omega arith) h in
    let low = weighed_raised c k w 1 (omega arith) h in
    let beside = beside_proposals (next_pass c k) qs in
    record {
      changes = omega (arith, paid_proposals (next_pass c k) qs, low.changes);
      sessions = omega (arith, beside.sessions, low.sessions);
      messages = omega (arith, drawn_proposals (next_pass c k) qs, low.messages);
      epochs = let same : (after_dispatch c k qs).epoch.0 ≡ (next_pass c k).epoch.0 = ap (λ e. e.0) beside.epoch in omega (arith, same, low.epochs);
      passes = let P : List (Bool × PassNo) → Type 0 = λ ds. list_all (is_paid (w + (1 + 4 * length qs))) ds ≡ true in subst P (sym beside.controllers) first.passes;
    }

pub weighed_next : (c : Cluster) (e : Event) (w : ℕ) → ((s : SessionId) → count (is_session s) c.live ≤ 1) → IsWeighed c w → IsStep c e → IsWeighed (next c e) (w + weight_of e)
weighed_next c (events.Admin step did) w single h is = weighed_step c step w single h
weighed_next c (events.Line n) w single h is = weighed_on c (record c { line = Some n }) w 1 h (omega arith) refl refl refl refl
weighed_next c (events.Begin k begun) w single h is = weighed_raised c k w 1 (omega arith) h
weighed_next c (events.Dispatch k epoch pass proposals answer) w single h is = weighed_dispatch c k proposals w h
weighed_next c (events.Post k epoch rows) w single h is = weighed_on c (record c { posted = rows }) w (1 + length rows) h (omega arith) refl refl refl refl
weighed_next c (events.Take s id) w single h is = weighed_on c (after_take c s id) w 0 h (omega (arith, paid_take c s id is)) refl refl refl refl
weighed_next c (events.Write s id outcome) w single h is = weighed_write c s id outcome w is h
weighed_next c (events.Ack s id) w single h is = weighed_on c (after_ack c s id) w 0 h (omega (arith, paid_ack c s id is)) refl refl refl refl
weighed_next c _ w single h is = weighed_more c w 1 h

-- along a legal history
weighed_along : (c : Cluster) (h : List Event) (w : ℕ) → SafeAlong c h → IsWeighed c w → IsLegal c h → IsWeighed (replay c h) (w + weight_of_all h)
weighed_along c [] w safe here legal = weighed_more c w 0 here
weighed_along c (e ∷ es) w safe here legal =
    let P : ℕ → Type 0 = λ n. IsWeighed (replay c (e ∷ es)) n in
    subst P (let same : w + weight_of e + weight_of_all es ≡ w + (weight_of e + weight_of_all es) = omega arith in same)
    (weighed_along (next c e) es (w + weight_of e) safe.1 (weighed_next c e w safe.0.sessions.numbers here legal.0) legal.1)

passes_opening : (n : ℕ) → list_all (is_paid 0) (replicate n (false, record { 0 = 0 })) ≡ true
passes_opening zero = refl
passes_opening (suc n) = grind (arith, nat_tests, passes_opening n)

weighed_opening : (spec : Spec) → IsWeighed (opening spec) 0
weighed_opening spec = record {
  changes = omega arith;
  sessions = omega arith;
  messages = omega arith;
  epochs = omega arith;
  passes = passes_opening spec.controllers;
}

pub reached_weighed : (spec : Spec) → IsValid spec → (h : List Event) → IsLegal (opening spec) h → IsWeighed (replay (opening spec) h) (weight_of_all h)
reached_weighed spec valid h legal =
    let P : ℕ → Type 0 = λ n. IsWeighed (replay (opening spec) h) n in
    subst P (let same : 0 + weight_of_all h ≡ weight_of_all h = omega arith in same)
    (weighed_along (opening spec) h 0 (valid_safe spec valid h legal) (weighed_opening spec) legal)
