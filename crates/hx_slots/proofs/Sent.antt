-- The numbers as messages come, are marked and go.
use Rattle.std.proofs.Common.{◌≡◌, ℕ, ◌+◌, ◌-◌, ◌≤◌, ◌&&◌, ◌||◌, ◌==◌, not, Bool, true, false, List, [], ◌∷◌, ◌++◌, filter, map, Option, Some, None, refl, sym, ap, ◌∙◌, subst, arith}
use Rattle.std.specs.Prelude.{if◌then◌else◌, slice_get, is_some}
use Rattle.std.specs.List.{list_all}
use Rattle.std.specs.Option.{option_or}
use Rattle.std.proofs.lemmas.Bool.Decides.{nat_tests}
use Rattle.std.proofs.lemmas.List.Folds.{find-append}
use Rattle.hx_lists.specs.Lists.{count}
use Rattle.hx_ids.specs.declared.StateId.{StateId}
use Rattle.hx_ids.specs.declared.InstanceId.{InstanceId}
use Rattle.hx_ids.specs.declared.SessionId.{SessionId}
use Rattle.hx_ids.specs.declared.MsgId.{MsgId}
use Rattle.hx_ids.specs.declared.PartId.{PartId}
use Rattle.hx_ids.specs.declared.Live.{Live}
use Rattle.hx_counts.specs.Tally.{Numbers, loads_of}
use Rattle.hx_cluster.specs.declared.description.Rule.{Rule}
use Rattle.hx_cluster.specs.declared.description.Scope.{Scope}
use Rattle.hx_cluster.specs.declared.description.Scope.TheVariants as scopes
use Rattle.hx_cluster.specs.declared.state.Message.{Message}
use Rattle.hx_cluster.specs.declared.state.Cluster.{Cluster}
use Rattle.hx_cluster.specs.Ends.{part_eq, is_message, is_live, sessions_of, shown_of, row_of, message_of, state_of, row_at, message_at, has_end, count_over, count_of, matches, is_counted}
use Rattle.hx_cluster.specs.declared.happenings.Proposal.{Proposal}
use Rattle.hx_cluster.specs.declared.happenings.Placed.TheVariants as placings
use Rattle.hx_cluster.specs.Messages.{message_from, after_placed, has_id, pending_of, as_taken, as_written, after_take, after_ack}
use Rattle.hx_safe.proofs.Counting.{count-append, count-le, count-map, all-single, find-passes, find-single}
use Rattle.hx_safe.proofs.Ends.{session_same, part_eq-self, same-self, find-filter, end-taken, end-written}
use Rattle.hx_safe.proofs.Throttles.{instance_on, counts_on, live-on, counted-on}
use Rattle.hx_safe.proofs.Throttles as throttles
use Rattle.hx_slots.specs.Tallies.{is_limited, stands_at, adds, key_on, is_loaded, IsRaised, IsLowered, load_at, IsCounted}
use Rattle.hx_slots.proofs.Single.{count-same, count-without, find-filter_known, find-kept}
use Rattle.hx_slots.proofs.Listed.{IsListed, is_message_listed, end-is, count_alike, count_changed, message_live}

-- what a rule counts of a message to a session whose instance is known
key-here : (scope : Scope) (i : InstanceId) (p : PartId) → throttles.key_on scope (Some i) p ≡ key_on scope i p
key-here scopes.Cluster i p = refl
key-here scopes.Instance i p = refl
key-here scopes.Resource i p = refl

pub counted-here : (live : List Live) (r : Rule) (key : ℕ) (i : InstanceId) (m : Message) → instance_on live m.session ≡ Some i
    → is_counted (shown_of live) r key m ≡ is_loaded (Some r) key i m
counted-here live r key i m at =
    counted-on live r key m
    ∙ ap (λ (o : Option InstanceId). counts_on o r key m) at
    ∙ ap (λ (n : ℕ). matches r m.from m.to && (n == key)) (key-here r.scope i m.part)

-- its session is live
pub live_here : (live : List Live) (s : SessionId) (i : InstanceId) → instance_on live s ≡ Some i → is_live live s ≡ true
live_here live s i at = live-on live s ∙ ap is_some at

-- one message more, where the replica had none
pub message-sent : (mail : List Message) (m : Message) → message_of mail m.session m.part ≡ None → message_of (mail ++ m ∷ []) m.session m.part ≡ Some m
message-sent mail m none =
    find-append (is_message m.session m.part) mail (m ∷ [])
    ∙ ap (λ (o : Option Message). option_or o (if is_message m.session m.part m then Some m else None)) none
    ∙ ap (λ (b : Bool). if b then Some m else None) here
  where
    here : is_message m.session m.part m ≡ true
    here = grind (arith, same-self m.session.0, part_eq-self m.part)

pub message-beside : (mail : List Message) (m : Message) (u : SessionId) (p : PartId) → ((u.0 == m.session.0) && part_eq p m.part) ≡ false
    → message_of (mail ++ m ∷ []) u p ≡ message_of mail u p
message-beside mail m u p ne =
    find-append (is_message u p) mail (m ∷ [])
    ∙ ap (λ (b : Bool). option_or (message_of mail u p) (if b then Some m else None)) other
    ∙ alone (message_of mail u p)
  where
    other : is_message u p m ≡ false
    other = grind (arith, nat_tests, ne)

    alone : (o : Option Message) → option_or o None ≡ o
    alone None = refl
    alone (Some x) = refl

ends-sent : (c : Cluster) (m : Message) → IsListed c → is_live c.live m.session ≡ true → message_of c.mail m.session m.part ≡ None → (p : PartId) (t : StateId)
    → count_over (sessions_of c.live) c.rows (c.mail ++ m ∷ []) p t
    ≡ count_of c p t + (if part_eq m.part p && adds (state_of c.rows m.session m.part) m t then 1 else 0)
ends-sent c m k live none p t =
    let change = count_changed c c.rows (c.mail ++ m ∷ []) m.session m.part k live
    (λ u p t ne. ap (λ (o : Option Message). row_at t (row_of c.rows u p) || message_at t o) (sym (message-beside c.mail m u p ne))) p t in
    let old : has_end c.rows c.mail m.part t m.session ≡ stands_at t has
    = end-is c.rows c.mail m.part t m.session ∙ ap (λ (o : Option Message). stands_at t has || message_at t o) none ∙ bare (stands_at t has) in
    let new : has_end c.rows (c.mail ++ m ∷ []) m.part t m.session ≡ (stands_at t has || message_at t (Some m))
    = end-is c.rows (c.mail ++ m ∷ []) m.part t m.session ∙ ap (λ (o : Option Message). stands_at t has || message_at t o) (message-sent c.mail m none) in
    more (part_eq m.part p) (stands_at t has) (message_at t (Some m)) _ _ _ _ old new change
  where
    has : Option StateId
    has = state_of c.rows m.session m.part

    bare : (b : Bool) → (b || false) ≡ b
    bare true = refl
    bare false = refl

    more : (same at it a b : Bool) (x y : ℕ) → a ≡ at → b ≡ (at || it)
        → x + (if same && a then 1 else 0) ≡ y + (if same && b then 1 else 0)
        → x ≡ y + (if same && (it && not at) then 1 else 0)
    more same at it a b x y is_a is_b change = grind (arith, is_a, is_b, change)

-- a number that is kept where a state is limited, with an end more
kept_more : (limited same it : Bool) (old new count more : ℕ) → old ≡ (if limited then count else 0)
    → new ≡ old + (if same && limited && it then 1 else 0)
    → more ≡ count + (if same && it then 1 else 0)
    → new ≡ (if limited then more else 0)
kept_more limited same it old new count more is_old is_new is_more = grind (arith, is_old, is_new, is_more)

pub counted_sent : (c : Cluster) (i : InstanceId) (m : Message) (k new : Numbers) → IsListed c → IsCounted c k
    → message_of c.mail m.session m.part ≡ None → instance_on c.live m.session ≡ Some i
    → IsRaised c i (state_of c.rows m.session m.part) m k new
    → IsCounted (record c { mail = c.mail ++ m ∷ [] }) new
counted_sent c i m k new listed old none at raised = record {
  ends = λ p t. kept_more (is_limited c.models c.resources p t) (part_eq m.part p) (adds (state_of c.rows m.session m.part) m t) _ _ _ _
      (old.ends p t) (raised.ends p t) (ends-sent c m listed (live_here c.live m.session i at) none p t);
  loads = λ n key. loads (slice_get c.rules n) n key (old.loads n key) (raised.loads n key);
}
  where
    loads : (o : Option Rule) (n key : ℕ) → loads_of k n key ≡ load_at c o key
        → loads_of new n key ≡ loads_of k n key + (if is_loaded o key i m then 1 else 0)
        → loads_of new n key ≡ load_at (record c { mail = c.mail ++ m ∷ [] }) o key
    loads None n key was is = is ∙ ap (λ (x : ℕ). x + 0) was
    loads (Some r) n key was is =
        let more = count-append (is_counted (shown_of c.live) r key) c.mail (m ∷ []) in
        let this = counted-here c.live r key i m at in
        grind (arith, was, is, more, this)

-- a proposal that is sent
pub counted_placed : (c : Cluster) (q : Proposal) (id : MsgId) (i : InstanceId) (k new : Numbers) → IsListed c → IsCounted c k
    → message_of c.mail q.session q.part ≡ None → instance_on c.live q.session ≡ Some i
    → IsRaised c i (state_of c.rows q.session q.part) (message_from c id q) k new
    → IsCounted (after_placed c q (placings.Sent id)) new
counted_placed c q id i k new listed old none at raised =
    let all = counted_sent c i (message_from c id q) k new listed old none at raised in
    record { ends = all.ends; loads = all.loads }

-- a message that goes takes away the ends that its replica doesn't stand at
has_number : (c : Cluster) (s : SessionId) (id : MsgId) → IsListed c → count (has_id s id) c.mail ≤ 1
has_number c s id k = omega (arith, k.numbers id, count-le (has_id s id) (λ (m : Message). m.id.0 == id.0) (λ m e. grind (arith, e)) c.mail)

pub message_there : (c : Cluster) (s : SessionId) (id : MsgId) (m : Message) → IsListed c → pending_of c s id ≡ Some m → message_of c.mail m.session m.part ≡ Some m
message_there c s id m k found =
    find-single (has_id s id) (is_message m.session m.part) c.mail m found (grind (arith, same-self m.session.0, part_eq-self m.part)) (k.single m.session m.part)

others : (c : Cluster) (s : SessionId) (id : MsgId) (m : Message) → IsListed c → pending_of c s id ≡ Some m
    → list_all (λ x. not (has_id s id x) || is_message m.session m.part x) c.mail ≡ true
others c s id m k found =
    all-single (has_id s id) (is_message_listed c) (λ x. not (has_id s id x) || is_message m.session m.part x) c.mail m (λ x e w. grind (arith, e)) found (has_number c s id k)
    (grind (arith, same-self m.session.0, part_eq-self m.part)) k.mail

message-gone : (c : Cluster) (s : SessionId) (id : MsgId) (m : Message) → IsListed c → pending_of c s id ≡ Some m
    → message_of (filter (λ x. not (has_id s id x)) c.mail) m.session m.part ≡ None
message-gone c s id m k found = one (message_of (filter (λ x. not (has_id s id x)) c.mail) m.session m.part) refl
  where
    this : has_id s id m ≡ true
    this = find-passes (has_id s id) c.mail m found

    one : (o : Option Message) → message_of (filter (λ x. not (has_id s id x)) c.mail) m.session m.part ≡ o → o ≡ None
    one None is = refl
    one (Some x) is =
        let stays = find-kept (is_message m.session m.part) (λ y. not (has_id s id y)) c.mail x is in
        let first = find-filter (is_message m.session m.part) (λ y. not (has_id s id y)) c.mail x (k.single m.session m.part) is in
        let same : Some x ≡ Some m = sym first ∙ message_there c s id m k found in
        let is_m : x ≡ m = cc in
        let here : has_id s id x ≡ true = ap (has_id s id) is_m ∙ this in
        absurd (grind (arith, stays, here))

message-stays : (c : Cluster) (s : SessionId) (id : MsgId) (m : Message) → IsListed c → pending_of c s id ≡ Some m
    → (u : SessionId) (p : PartId) → ((u.0 == m.session.0) && part_eq p m.part) ≡ false
    → message_of (filter (λ x. not (has_id s id x)) c.mail) u p ≡ message_of c.mail u p
message-stays c s id m k found u p ne =
    find-filter_known (is_message u p) (λ x. not (has_id s id x)) (λ x. not (has_id s id x) || is_message m.session m.part x)
    (λ x known at. grind (arith, nat_tests, known, at, ne)) c.mail (others c s id m k found)

ends-unsent : (c : Cluster) (s : SessionId) (id : MsgId) (m : Message) → IsListed c → pending_of c s id ≡ Some m → (p : PartId) (t : StateId)
    → count_over (sessions_of c.live) c.rows (filter (λ x. not (has_id s id x)) c.mail) p t
    + (if part_eq m.part p && adds (state_of c.rows m.session m.part) m t then 1 else 0)
    ≡ count_of c p t
ends-unsent c s id m k found p t =
    let change = count_changed c c.rows left m.session m.part k (message_live c (has_id s id) m k found)
    (λ u p t ne. ap (λ (o : Option Message). row_at t (row_of c.rows u p) || message_at t o) (sym (message-stays c s id m k found u p ne))) p t in
    let old : has_end c.rows c.mail m.part t m.session ≡ (stands_at t has || message_at t (Some m))
    = end-is c.rows c.mail m.part t m.session ∙ ap (λ (o : Option Message). stands_at t has || message_at t o) (message_there c s id m k found) in
    let new : has_end c.rows left m.part t m.session ≡ (stands_at t has || false)
    = end-is c.rows left m.part t m.session ∙ ap (λ (o : Option Message). stands_at t has || message_at t o) (message-gone c s id m k found) in
    less (part_eq m.part p) (stands_at t has) (message_at t (Some m)) _ _ _ _ old new change
  where
    has : Option StateId
    has = state_of c.rows m.session m.part

    left : List Message
    left = filter (λ x. not (has_id s id x)) c.mail

    less : (same at it a b : Bool) (x y : ℕ) → a ≡ (at || it) → b ≡ (at || false)
        → x + (if same && a then 1 else 0) ≡ y + (if same && b then 1 else 0)
        → x + (if same && (it && not at) then 1 else 0) ≡ y
    less same at it a b x y is_a is_b change = grind (arith, is_a, is_b, change)

-- a number that is kept where a state is limited, with an end less
pub kept_less : (limited same it : Bool) (old new count less : ℕ) → old ≡ (if limited then count else 0)
    → new ≡ old - (if same && limited && it then 1 else 0)
    → less + (if same && it then 1 else 0) ≡ count
    → new ≡ (if limited then less else 0)
kept_less limited same it old new count less is_old is_new is_less = grind (arith, is_old, is_new, is_less)

counted-unsent : (c : Cluster) (s : SessionId) (id : MsgId) (m : Message) (i : InstanceId) (k new : Numbers) → IsListed c → IsCounted c k
    → pending_of c s id ≡ Some m → instance_on c.live m.session ≡ Some i
    → IsLowered c i (state_of c.rows m.session m.part) m k new
    → IsCounted (record c { mail = filter (λ x. not (has_id s id x)) c.mail }) new
counted-unsent c s id m i k new listed old found at lowered = record {
  ends = λ p t. kept_less (is_limited c.models c.resources p t) (part_eq m.part p) (adds (state_of c.rows m.session m.part) m t) _ _ _ _
      (old.ends p t) (lowered.ends p t) (ends-unsent c s id m listed found p t);
  loads = λ n key. loads (slice_get c.rules n) n key (old.loads n key) (lowered.loads n key);
}
  where
    loads : (o : Option Rule) (n key : ℕ) → loads_of k n key ≡ load_at c o key
        → loads_of new n key ≡ loads_of k n key - (if is_loaded o key i m then 1 else 0)
        → loads_of new n key ≡ load_at (record c { mail = filter (λ x. not (has_id s id x)) c.mail }) o key
    loads None n key was is = omega (arith, was, is)
    loads (Some r) n key was is =
        let less = count-without (is_counted (shown_of c.live) r key) (has_id s id) c.mail m found (has_number c s id listed) in
        let this = counted-here c.live r key i m at in
        grind (arith, was, is, less, this)

-- by the session that asks
pub session_its : (c : Cluster) (s : SessionId) (id : MsgId) (m : Message) → pending_of c s id ≡ Some m → m.session ≡ s
session_its c s id m found = let this = find-passes (has_id s id) c.mail m found in session_same m.session s (grind (arith, this))

pub counted_unsent : (c : Cluster) (s : SessionId) (id : MsgId) (m : Message) (i : InstanceId) (k new : Numbers) → IsListed c → IsCounted c k
    → pending_of c s id ≡ Some m → instance_on c.live s ≡ Some i
    → IsLowered c i (state_of c.rows s m.part) m k new
    → IsCounted (record c { mail = filter (λ x. not (has_id s id x)) c.mail }) new
counted_unsent c s id m i k new listed old found at lowered =
    let its = sym (session_its c s id m found) in
    let P : SessionId → Type 0 = λ u. IsLowered c i (state_of c.rows u m.part) m k new in
    counted-unsent c s id m i k new listed old found (subst (λ (u : SessionId). instance_on c.live u ≡ Some i) its at) (subst P its lowered)

pub counted_acked : (c : Cluster) (s : SessionId) (id : MsgId) (m : Message) (i : InstanceId) (k new : Numbers) → IsListed c → IsCounted c k
    → pending_of c s id ≡ Some m → instance_on c.live s ≡ Some i
    → IsLowered c i (state_of c.rows s m.part) m k new
    → IsCounted (after_ack c s id) new
counted_acked c s id m i k new listed old found at lowered =
    let all = counted_unsent c s id m i k new listed old found at lowered in
    record { ends = all.ends; loads = all.loads }

-- a message that is marked counts as it did
counted-marked : (c : Cluster) (f : Message → Message) (k : Numbers)
    → ((u : SessionId) (p : PartId) (t : StateId) → message_at t (message_of (map f c.mail) u p) ≡ message_at t (message_of c.mail u p))
    → ((r : Rule) (key : ℕ) (m : Message) → is_counted (shown_of c.live) r key (f m) ≡ is_counted (shown_of c.live) r key m)
    → IsCounted c k → IsCounted (record c { mail = map f c.mail }) k
counted-marked c f k same_ends same_loads old = record {
  ends = λ p t. old.ends p t ∙ ap (λ (x : ℕ). if is_limited c.models c.resources p t then x else 0) (sym (ends p t));
  loads = λ n key. loads (slice_get c.rules n) n key (old.loads n key);
}
  where
    ends : (p : PartId) (t : StateId) → count_over (sessions_of c.live) c.rows (map f c.mail) p t ≡ count_of c p t
    ends p t = count_alike (sessions_of c.live) c.rows c.rows c.mail (map f c.mail) p t (λ u. ap (λ (b : Bool). row_at t (row_of c.rows u p) || b) (same_ends u p t))

    loads : (o : Option Rule) (n key : ℕ) → loads_of k n key ≡ load_at c o key → loads_of k n key ≡ load_at (record c { mail = map f c.mail }) o key
    loads None n key was = was
    loads (Some r) n key was =
        was ∙ sym (count-map (is_counted (shown_of c.live) r key) f c.mail
        ∙ count-same (λ m. is_counted (shown_of c.live) r key (f m)) (is_counted (shown_of c.live) r key) (same_loads r key) c.mail)

-- so does one that is marked or not
counted-if : (c : Cluster) (mark : Message → Message) → ((r : Rule) (key : ℕ) (m : Message) → is_counted (shown_of c.live) r key (mark m) ≡ is_counted (shown_of c.live) r key m)
    → (r : Rule) (key : ℕ) (m : Message) (b : Bool) → is_counted (shown_of c.live) r key (if b then mark m else m) ≡ is_counted (shown_of c.live) r key m
counted-if c mark same r key m true = same r key m
counted-if c mark same r key m false = refl

pub counted_taken : (c : Cluster) (s : SessionId) (id : MsgId) (k : Numbers) → IsCounted c k → IsCounted (record c { mail = map (as_taken s id) c.mail }) k
counted_taken c s id k old = counted-marked c (as_taken s id) k (λ u p t. end-taken c.mail s u id p t) (λ r key m. counted-if c (λ m. record m { taken = true }) (λ r key m. refl) r key m (has_id s id m)) old

pub counted_marked : (c : Cluster) (s : SessionId) (id : MsgId) (k : Numbers) → IsCounted c k → IsCounted (record c { mail = map (as_written s id) c.mail }) k
counted_marked c s id k old = counted-marked c (as_written s id) k (λ u p t. end-written c.mail s u id p t) (λ r key m. counted-if c (λ m. record m { written = true }) (λ r key m. refl) r key m (has_id s id m)) old

pub counted_take : (c : Cluster) (s : SessionId) (id : MsgId) (k : Numbers) → IsCounted c k → IsCounted (after_take c s id) k
counted_take c s id k old = let all = counted_taken c s id k old in record { ends = all.ends; loads = all.loads }
