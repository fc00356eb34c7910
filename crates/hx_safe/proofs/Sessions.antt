-- Live sessions stay distinct and in order of their beats, and the leader up.
use Rattle.std.proofs.Common.{◌≡◌, ℕ, zero, suc, ◌+◌, ◌≤◌, ◌==◌, not, Bool, true, false, List, [], ◌∷◌, ◌++◌, filter, Option, Some, None, refl, sym, ap, ◌∙◌, subst, arith}
use Rattle.std.specs.Prelude.{if◌then◌else◌, nat_le, slice_get, slice_set}
use Rattle.std.specs.Option.{option_map, option_map_or}
use Rattle.std.proofs.lemmas.Bool.Decides.{nat_tests}
use Rattle.hx_lists.specs.Lists.{count}
use Rattle.hx_ids.specs.declared.InstanceId.{InstanceId}
use Rattle.hx_ids.specs.declared.SessionId.{SessionId}
use Rattle.hx_ids.specs.declared.MsgId.{MsgId}
use Rattle.hx_ids.specs.declared.PassNo.{PassNo}
use Rattle.hx_ids.specs.declared.ControllerId.{ControllerId}
use Rattle.hx_ids.specs.declared.Live.{Live}
use Rattle.hx_cluster.specs.declared.state.Message.{Message}
use Rattle.hx_cluster.specs.declared.state.Cluster.{Cluster}
use Rattle.hx_cluster.specs.declared.happenings.Outcome.{Outcome}
use Rattle.hx_cluster.specs.declared.happenings.StepFault.TheVariants as faults
use Rattle.hx_cluster.specs.declared.happenings.Admin.TheVariants as steps
use Rattle.hx_cluster.specs.declared.happenings.Proposal.{Proposal}
use Rattle.hx_cluster.specs.declared.happenings.Placed.{Placed}
use Rattle.hx_cluster.specs.declared.happenings.Placed.TheVariants as placings
use Rattle.hx_cluster.specs.Ends.{is_session, is_live}
use Rattle.hx_cluster.specs.Steps.{is_of, live_of, session_of, is_down, is_leader, already_live, lead_fault, after, without, beaten_of, marked_down, with_down, without_leader}
use Rattle.hx_cluster.specs.Messages.{placed_of, after_placed, after_proposal, after_proposals, raised_pass, next_pass, after_dispatch, pending_of, written_of, after_write}
use Rattle.hx_cluster.specs.Safe.{beats_rise, leader_is_up}
use Rattle.hx_safe.proofs.Counting.{count-append, count-filter, count-none, count-removed, find-any, none-find}
use Rattle.hx_safe.proofs.Ends.{same-self}

-- beats along the list
beats-low : (a b : ℕ) (live : List Live) (clock : ℕ) → b ≤ a → beats_rise a live clock ≡ true → beats_rise b live clock ≡ true
beats-low a b [] clock le e = grind (arith, nat_tests, le, e)
beats-low a b (l ∷ live) clock le e = let low : nat_le a l.beat ≡ true = grind (arith, e) in let more : nat_le b l.beat ≡ true = grind (arith, nat_tests, le, low) in grind (arith, e, more)

beats-filter : (k : Live → Bool) (a : ℕ) (live : List Live) (clock : ℕ) → beats_rise a live clock ≡ true → beats_rise a (filter k live) clock ≡ true
beats-filter k a [] clock e = e
beats-filter k a (l ∷ live) clock e = one (k l) (beats-filter k l.beat live clock (grind (arith, e)))
  where
    one : (b : Bool) → beats_rise l.beat (filter k live) clock ≡ true → beats_rise a (if b then l ∷ filter k live else filter k live) clock ≡ true
    one true more = grind (arith, e, more)
    one false more = let low : nat_le a l.beat ≡ true = grind (arith, e) in beats-low l.beat a (filter k live) clock (grind (arith, nat_tests, low)) more

beats-push : (a : ℕ) (live : List Live) (clock : ℕ) (l : Live) → l.beat ≡ clock → beats_rise a live clock ≡ true → beats_rise a (live ++ l ∷ []) clock ≡ true
beats-push a [] clock l is e = grind (arith, nat_tests, is, e)
beats-push a (x ∷ live) clock l is e = grind (arith, e, beats-push x.beat live clock l is)

beats-tick : (a n : ℕ) (live : List Live) (clock : ℕ) → beats_rise a live clock ≡ true → beats_rise a live (clock + n) ≡ true
beats-tick a n [] clock e = grind (arith, nat_tests, e)
beats-tick a n (l ∷ live) clock e = grind (arith, e, beats-tick l.beat n live clock)

-- what is known beside the numbers of the sessions
pub record IsSeated (c : Cluster) : Type 0 where
  pub instances : (i : InstanceId) → count (is_of i) c.live ≤ 1
  pub beats : beats_rise 0 c.live c.clock ≡ true
  pub leader : leader_is_up c c.leader ≡ true

-- a session that joins
pub seated_join : (c : Cluster) (i : InstanceId) → IsSeated c → already_live (live_of c.live i) ≡ None → IsSeated (after c (steps.Join i))
seated_join c i o free = record {
  instances = λ j. let more = count-append (is_of j) c.live ((record { session = record { 0 = c.next_session }; instance = i; beat = c.clock }) ∷ []) in one j (i.0 == j.0) refl more;
  beats = beats-push 0 c.live c.clock (record { session = record { 0 = c.next_session }; instance = i; beat = c.clock }) refl o.beats;
  leader = o.leader;
}
  where
    none : (o : Option Live) → already_live o ≡ None → o ≡ None
    none None e = refl
    none (Some l) e = cc

    one : (j : InstanceId) (b : Bool) → (i.0 == j.0) ≡ b → {n : ℕ}
        → n ≡ count (is_of j) c.live + count (is_of j) ((record { session = record { 0 = c.next_session }; instance = i; beat = c.clock }) ∷ []) → n ≤ 1
    one j true is more =
        let absent : count (is_of i) c.live ≡ 0 = count-none (is_of i) c.live (none-find (is_of i) c.live (none (live_of c.live i) free)) in
        let same : i ≡ j = ap (λ (n : ℕ). record { 0 = n }) (let n : i.0 ≡ j.0 = grind (arith, nat_tests, is) in n) in
        let gone : count (is_of j) c.live ≡ 0 = subst (λ (x : InstanceId). count (is_of x) c.live ≡ 0) same absent in
        grind (arith, is, more, gone)
    one j false is more = grind (arith, is, more, o.instances j)

-- sessions that end
pub seated_without : (c : Cluster) (s : SessionId) → IsSeated c → IsSeated (without c s)
seated_without c s o = record {
  instances = λ i. omega (arith, o.instances i, count-filter (is_of i) (λ l. not (l.session.0 == s.0)) c.live);
  beats = beats-filter (λ l. not (l.session.0 == s.0)) 0 c.live c.clock o.beats;
  leader = o.leader;
}

pub seated_tick : (c : Cluster) (n : ℕ) → IsSeated c → IsSeated (record c { clock = c.clock + n })
seated_tick c n o = record { instances = o.instances; beats = beats-tick 0 n c.live c.clock o.beats; leader = o.leader }

-- a session that is heard of
pub seated_beat : (c : Cluster) (i : InstanceId) (l : Live) → IsSeated c → live_of c.live i ≡ Some l → IsSeated (beaten_of c (Some l))
seated_beat c i l o found = record {
  instances = λ j. let more = count-append (is_of j) (filter (λ x. not (is_session l.session x)) c.live) ((record l { beat = c.clock }) ∷ []) in one j (is_of j l) refl more;
  beats = beats-push 0 (filter (λ x. not (is_session l.session x)) c.live) c.clock (record l { beat = c.clock }) refl (beats-filter (λ x. not (is_session l.session x)) 0 c.live c.clock o.beats);
  leader = o.leader;
}
  where
    one : (j : InstanceId) (b : Bool) → is_of j l ≡ b → {n : ℕ} → n ≡ count (is_of j) (filter (λ x. not (is_session l.session x)) c.live) + count (is_of j) ((record l { beat = c.clock }) ∷ []) → n ≤ 1
    one j true is more =
        let less = count-removed (is_of j) (is_of i) (λ x. not (is_session l.session x)) c.live l found (grind (arith, same-self l.session.0)) is in
        grind (arith, is, more, less, o.instances j)
    one j false is more =
        let less = count-filter (is_of j) (λ x. not (is_session l.session x)) c.live in
        grind (arith, is, more, less, o.instances j)

-- a controller that leads
pub seated_lead : (c : Cluster) (k : ControllerId) → IsSeated c → lead_fault c k c.leader ≡ None → IsSeated (after c (steps.Lead k))
seated_lead c k o free = record { instances = o.instances; beats = o.beats; leader = one c.leader free }
  where
    up : (b : Bool) → (if b then Some faults.ControllerDown else None) ≡ None → not b ≡ true
    up true e = cc
    up false e = refl

    one : (l : Option ControllerId) → lead_fault c k l ≡ None → not (is_down c k) ≡ true
    one (Some l) e = cc
    one None e = up (is_down c k) e

-- the mark of another controller, and of this one
pub mark-same : (xs : List (Bool × PassNo)) (k n : ℕ) (d : Bool × PassNo) → slice_get xs k ≡ Some d → (y : Bool × PassNo) → y.0 ≡ d.0
    → option_map_or (λ (x : Bool × PassNo). x.0) (slice_get (slice_set xs k y) n) false ≡ option_map_or (λ (x : Bool × PassNo). x.0) (slice_get xs n) false
mark-same [] k n d e y same = cc
mark-same (x ∷ xs) zero zero d e y same = let is : x ≡ d = grind (arith, e) in same ∙ ap (λ (z : Bool × PassNo). z.0) (sym is)
mark-same (x ∷ xs) zero (suc n) d e y same = refl
mark-same (x ∷ xs) (suc k) zero d e y same = refl
mark-same (x ∷ xs) (suc k) (suc n) d e y same = mark-same xs k n d e y same

pub mark-other : (xs : List (Bool × PassNo)) (k n : ℕ) (y : Bool × PassNo) → (n == k) ≡ false → slice_get (slice_set xs k y) n ≡ slice_get xs n
mark-other [] k n y ne = refl
mark-other (x ∷ xs) zero zero y ne = cc
mark-other (x ∷ xs) zero (suc n) y ne = refl
mark-other (x ∷ xs) (suc k) zero y ne = refl
mark-other (x ∷ xs) (suc k) (suc n) y ne = mark-other xs k n y (grind (arith, nat_tests, ne))

mark-up : (xs : List (Bool × PassNo)) (k n : ℕ) (y : Bool × PassNo) → y.0 ≡ false → option_map_or (λ (x : Bool × PassNo). x.0) (slice_get xs n) false ≡ false
    → option_map_or (λ (x : Bool × PassNo). x.0) (slice_get (slice_set xs k y) n) false ≡ false
mark-up [] k n y is e = e
mark-up (x ∷ xs) zero zero y is e = is
mark-up (x ∷ xs) zero (suc n) y is e = e
mark-up (x ∷ xs) (suc k) zero y is e = e
mark-up (x ∷ xs) (suc k) (suc n) y is e = mark-up xs k n y is e

-- a pass that is raised
pub seated_raised : (c : Cluster) (k : ControllerId) → IsSeated c → IsSeated (next_pass c k)
seated_raised c k o = one (slice_get c.controllers k.0) refl
  where
    up : (d : Bool × PassNo) → slice_get c.controllers k.0 ≡ Some d → (l : Option ControllerId) → leader_is_up c l ≡ true → leader_is_up (raised_pass c k (Some d)) l ≡ true
    up d is None e = refl
    up d is (Some l) e = ap not (mark-same c.controllers k.0 l.0 d is (d.0, record { 0 = d.1.0 + 1 }) refl) ∙ e

    one : (x : Option (Bool × PassNo)) → slice_get c.controllers k.0 ≡ x → IsSeated (raised_pass c k x)
    one None is = o
    one (Some d) is = record { instances = o.instances; beats = o.beats; leader = up d is c.leader o.leader }

-- a controller that starts
pub seated_start : (c : Cluster) (k : ControllerId) → IsSeated c → IsSeated (with_down c k false)
seated_start c k o = one (slice_get c.controllers k.0)
  where
    up : (d : Bool × PassNo) (l : Option ControllerId) → leader_is_up c l ≡ true → leader_is_up (marked_down c k false (Some d)) l ≡ true
    up d None e = refl
    up d (Some l) e = ap not (mark-up c.controllers k.0 l.0 (false, d.1) refl (grind (arith, e)))

    one : (x : Option (Bool × PassNo)) → IsSeated (marked_down c k false x)
    one None = o
    one (Some d) = record { instances = o.instances; beats = o.beats; leader = up d c.leader o.leader }

-- a controller that stops leads no more
pub seated_stop : (c : Cluster) (k : ControllerId) → IsSeated c → IsSeated (without_leader k (with_down c k true))
seated_stop c k o = one (slice_get c.controllers k.0)
  where
    gone : (b : Bool) → is_leader k c.leader ≡ b → IsSeated (if b then record c { leader = None; epoch = record { 0 = c.epoch.0 + 1 } } else c)
    gone true is = record { instances = o.instances; beats = o.beats; leader = refl }
    gone false is = o

    up : (d : Bool × PassNo) (l : Option ControllerId) → is_leader k l ≡ false → leader_is_up c l ≡ true → leader_is_up (marked_down c k true (Some d)) l ≡ true
    up d None is e = refl
    up d (Some l) is e = ap (λ x. not (option_map_or (λ (y : Bool × PassNo). y.0) x false)) (mark-other c.controllers k.0 l.0 (true, d.1) is) ∙ e

    marked : (d : Bool × PassNo) (b : Bool) → is_leader k c.leader ≡ b
        → IsSeated (if b then record (marked_down c k true (Some d)) { leader = None; epoch = record { 0 = c.epoch.0 + 1 } } else marked_down c k true (Some d))
    marked d true is = record { instances = o.instances; beats = o.beats; leader = refl }
    marked d false is = record { instances = o.instances; beats = o.beats; leader = up d c.leader is o.leader }

    one : (x : Option (Bool × PassNo)) → IsSeated (without_leader k (marked_down c k true x))
    one None = gone (is_leader k c.leader) refl
    one (Some d) = marked d (is_leader k c.leader) refl

-- proposals
seated_placed : (c : Cluster) (q : Proposal) (a : Placed) → IsSeated c → IsSeated (after_placed c q a)
seated_placed c q (placings.Sent id) o = record { instances = o.instances; beats = o.beats; leader = one c.leader o.leader }
  where
    one : (l : Option ControllerId) → leader_is_up c l ≡ true → leader_is_up (after_placed c q (placings.Sent id)) l ≡ true
    one None e = refl
    one (Some l) e = e
seated_placed c q _ o = o

seated_proposals : (c : Cluster) (qs : List Proposal) → IsSeated c → IsSeated (after_proposals c qs)
seated_proposals c [] o = o
seated_proposals c (q ∷ qs) o = seated_proposals (after_proposal c q) qs (seated_placed c q (placed_of c q) o)

pub seated_dispatch : (c : Cluster) (k : ControllerId) (qs : List Proposal) → IsSeated c → IsSeated (after_dispatch c k qs)
seated_dispatch c k qs o = seated_proposals (next_pass c k) qs (seated_raised c k o)

-- an outcome that is written
pub seated_write : (c : Cluster) (s : SessionId) (id : MsgId) (outcome : Outcome) → IsSeated c → IsSeated (after_write c s id outcome)
seated_write c s id outcome o = one (pending_of c s id)
  where
    one : (m : Option Message) → IsSeated (written_of c s id outcome m)
    one None = o
    one (Some m) = record { instances = o.instances; beats = o.beats; leader = o.leader }

-- the session of an instance is live
pub session_live : (c : Cluster) (i : InstanceId) (s : SessionId) → session_of c i ≡ Some s → is_live c.live s ≡ true
session_live c i s is = one (live_of c.live i) refl is
  where
    one : (o : Option Live) → live_of c.live i ≡ o → option_map (λ l. l.session) o ≡ Some s → is_live c.live s ≡ true
    one None found e = cc
    one (Some l) found e =
        let same : l.session ≡ s = cc in
        find-any (is_of i) (is_session s) c.live l found (subst (λ (u : SessionId). (l.session.0 == u.0) ≡ true) same (same-self l.session.0))
