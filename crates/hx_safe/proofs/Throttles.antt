-- No event passes a throttle.
use Rattle.std.proofs.Common.{◌≡◌, ℕ, zero, suc, ◌+◌, ◌≤◌, ◌<◌, ◌&&◌, ◌==◌, not, Bool, true, false, List, [], ◌∷◌, ◌++◌, filter, find, Option, Some, None, refl, sym, ap, ◌∙◌, subst, arith}
use Rattle.std.specs.Prelude.{if◌then◌else◌, nat_le, slice_get, is_some}
use Rattle.std.specs.List.{list_all}
use Rattle.std.specs.Option.{option_map, option_map_or, option_or}
use Rattle.std.proofs.lemmas.Bool.Decides.{nat_tests}
use Rattle.std.proofs.lemmas.List.Folds.{find-append}
use Rattle.hx_lists.specs.Lists.{count}
use Rattle.hx_ids.specs.declared.InstanceId.{InstanceId}
use Rattle.hx_ids.specs.declared.SessionId.{SessionId}
use Rattle.hx_ids.specs.declared.MsgId.{MsgId}
use Rattle.hx_ids.specs.declared.PassNo.{PassNo}
use Rattle.hx_ids.specs.declared.ControllerId.{ControllerId}
use Rattle.hx_ids.specs.declared.PartId.{PartId}
use Rattle.hx_ids.specs.declared.Live.{Live}
use Rattle.hx_cluster.specs.declared.description.Rule.{Rule}
use Rattle.hx_cluster.specs.declared.description.Scope.{Scope}
use Rattle.hx_cluster.specs.declared.description.Scope.TheVariants as scopes
use Rattle.hx_cluster.specs.declared.state.Message.{Message}
use Rattle.hx_cluster.specs.declared.state.Cluster.{Cluster}
use Rattle.hx_cluster.specs.declared.happenings.Proposal.{Proposal}
use Rattle.hx_cluster.specs.declared.happenings.Outcome.{Outcome}
use Rattle.hx_cluster.specs.declared.happenings.Admin.TheVariants as steps
use Rattle.hx_cluster.specs.declared.happenings.Placed.{Placed}
use Rattle.hx_cluster.specs.declared.happenings.Placed.TheVariants as placings
use Rattle.hx_cluster.specs.Ends.{is_session, is_live, shown_of, matches, key_of, is_counted, load_over, load_of}
use Rattle.hx_cluster.specs.Steps.{is_of, live_of, after, without, beaten_of}
use Rattle.hx_cluster.specs.Messages.{proposal_load, throttled_from, placed_of, message_from, after_placed, after_proposal, after_proposals, raised_pass, next_pass, after_dispatch, has_id, pending_of, written_of, after_take, after_write, after_ack}
use Rattle.hx_cluster.specs.Safe.{IsThrottled, is_pending}
use Rattle.hx_cluster.proofs.Shown.{shown_is_live, instance_in_shown}
use Rattle.hx_safe.proofs.Counting.{count-append, count-filter, none-find, find-single}
use Rattle.hx_safe.proofs.Ends.{same-self, session_same, find-filter_kept, find-filter_none}
use Rattle.hx_safe.proofs.Kept.{IsKept, count-marked}
use Rattle.hx_safe.proofs.Sending.{room_from}

-- the instance of a session. What a rule counts of a message sees no more of the live sessions
abbrev pub instance_on : List Live → SessionId → Option InstanceId
instance_on live s = option_map (λ l. l.instance) (find (is_session s) live)

abbrev pub key_on : Scope → Option InstanceId → PartId → ℕ
key_on scopes.Cluster o p = 0
key_on scopes.Instance o p = option_map_or (λ i. i.0) o 0
key_on scopes.Resource o p = p.resource.0

abbrev pub counts_on : Option InstanceId → Rule → ℕ → Message → Bool
counts_on o r key m = is_some o && matches r m.from m.to && (key_on r.scope o m.part == key)

pub live-on : (live : List Live) (s : SessionId) → is_live live s ≡ is_some (instance_on live s)
live-on [] s = refl
live-on (l ∷ live) s = grind (arith, live-on live s)

pub key-on : (scope : Scope) (live : List Live) (s : SessionId) (p : PartId) → key_of scope (shown_of live) s p ≡ key_on scope (instance_on live s) p
key-on scopes.Cluster live s p = refl
key-on scopes.Instance live s p = ap (λ o. option_map_or (λ (i : InstanceId). i.0) o 0) (instance_in_shown live s)
key-on scopes.Resource live s p = refl

pub counted-on : (live : List Live) (r : Rule) (key : ℕ) (m : Message) → is_counted (shown_of live) r key m ≡ counts_on (instance_on live m.session) r key m
counted-on live r key m =
    let one = shown_is_live live m.session ∙ live-on live m.session in
    let two = key-on r.scope live m.session m.part in
    ap (λ (b : Bool). b && matches r m.from m.to && (key_of r.scope (shown_of live) m.session m.part == key)) one
    ∙ ap (λ (n : ℕ). is_some (instance_on live m.session) && matches r m.from m.to && (n == key)) two

pub counted-same : (old new : List Live) (r : Rule) (key : ℕ) (m : Message) → instance_on new m.session ≡ instance_on old m.session → is_counted (shown_of new) r key m ≡ is_counted (shown_of old) r key m
counted-same old new r key m e = counted-on new r key m ∙ ap (λ o. counts_on o r key m) e ∙ sym (counted-on old r key m)

-- the same messages of live sessions, whose instances are the same
count-known : {X : Type 0} (p q k : X → Bool) (h : (x : X) → k x ≡ true → p x ≡ true → q x ≡ true) (xs : List X) → list_all k xs ≡ true → count p xs ≤ count q xs
count-known p q k h [] e = omega arith
count-known p q k h (x ∷ xs) e = grind (arith, e, h x, count-known p q k h xs)

count-some : {X : Type 0} (p q k : X → Bool) (h : (x : X) → k x ≡ true → p x ≡ true → q x ≡ true) (xs : List X) → count p (filter k xs) ≤ count q xs
count-some p q k h [] = omega arith
count-some p q k h (x ∷ xs) = grind (arith, h x, count-some p q k h xs)

throttled_live : (c d : Cluster) → IsKept c → IsThrottled c → d.rules ≡ c.rules → d.mail ≡ c.mail
    → ((s : SessionId) → is_live c.live s ≡ true → instance_on d.live s ≡ instance_on c.live s) → IsThrottled d
throttled_live c d k old rules mail same n r key e =
    let less : count (is_counted (shown_of d.live) r key) c.mail ≤ load_of c r key = count-known (is_counted (shown_of d.live) r key) (is_counted (shown_of c.live) r key) (is_pending c)
    (λ m e w. sym (counted-same c.live d.live r key m (same m.session (grind (arith, e)))) ∙ w) c.mail k.mail.pending in
    let here : slice_get c.rules n ≡ Some r = sym (ap (λ (rs : List Rule). slice_get rs n) rules) ∙ e in
    let all : load_of d r key ≡ count (is_counted (shown_of d.live) r key) c.mail = ap (count (is_counted (shown_of d.live) r key)) mail in
    omega (arith, less, all, old n r key here)

-- a session that joins leaves the others' instances
pub instance-join : (live : List Live) (l : Live) (s : SessionId) → is_live live s ≡ true → instance_on (live ++ l ∷ []) s ≡ instance_on live s
instance-join live l s e = one (find (is_session s) live) refl
  where
    one : (o : Option Live) → find (is_session s) live ≡ o → instance_on (live ++ l ∷ []) s ≡ instance_on live s
    one (Some x) is = ap (option_map (λ (y : Live). y.instance)) (find-append (is_session s) live (l ∷ []) ∙ rw is refl)
    one None is = let none = none-find (is_session s) live is in let both = sym e ∙ none in cc

pub throttled_join : (c : Cluster) (i : InstanceId) → IsKept c → IsThrottled c → IsThrottled (after c (steps.Join i))
throttled_join c i k old =
    throttled_live c (after c (steps.Join i)) k old refl refl
    (λ s e. instance-join c.live (record { session = record { 0 = c.next_session }; instance = i; beat = c.clock }) s e)

-- a session that is heard of leaves all instances
pub instance-beat : (c : Cluster) (i : InstanceId) (l : Live) → ((s : SessionId) → count (is_session s) c.live ≤ 1) → live_of c.live i ≡ Some l
    → (s : SessionId) → instance_on (beaten_of c (Some l)).live s ≡ instance_on c.live s
instance-beat c i l numbers found s = same s (l.session.0 == s.0) refl
  where
    first : find (is_session l.session) c.live ≡ Some l
    first = find-single (is_of i) (is_session l.session) c.live l found (same-self l.session.0) (numbers l.session)

    alone : (o : Option Live) → option_or o None ≡ o
    alone None = refl
    alone (Some x) = refl

    split : (s : SessionId)
        → find (is_session s) (beaten_of c (Some l)).live ≡ option_or (find (is_session s) (filter (λ x. not (is_session l.session x)) c.live)) (if l.session.0 == s.0 then Some (record l { beat = c.clock }) else None)
    split s = find-append (is_session s) (filter (λ x. not (is_session l.session x)) c.live) ((record l { beat = c.clock }) ∷ [])

    here : instance_on (beaten_of c (Some l)).live l.session ≡ instance_on c.live l.session
    here = ap (option_map (λ (x : Live). x.instance)) (split l.session
        ∙ ap (λ (o : Option Live). option_or o (if l.session.0 == l.session.0 then Some (record l { beat = c.clock }) else None)) (find-filter_none (is_session l.session) c.live)
        ∙ ap (λ (b : Bool). if b then Some (record l { beat = c.clock }) else None) (same-self l.session.0))
        ∙ sym (ap (option_map (λ (x : Live). x.instance)) first)

    same : (s : SessionId) (b : Bool) → (l.session.0 == s.0) ≡ b → instance_on (beaten_of c (Some l)).live s ≡ instance_on c.live s
    same s true is = subst (λ (u : SessionId). instance_on (beaten_of c (Some l)).live u ≡ instance_on c.live u) (session_same l.session s is) here
    same s false is =
        let others : find (is_session s) (filter (λ x. not (is_session l.session x)) c.live) ≡ find (is_session s) c.live = find-filter_kept (is_session s) (λ x. not (is_session l.session x)) (λ x w. grind (arith, nat_tests, w, is)) c.live in
        ap (option_map (λ (x : Live). x.instance)) (split s
        ∙ ap (λ (b : Bool). option_or (find (is_session s) (filter (λ x. not (is_session l.session x)) c.live)) (if b then Some (record l { beat = c.clock }) else None)) is
        ∙ alone (find (is_session s) (filter (λ x. not (is_session l.session x)) c.live))
        ∙ others)

pub throttled_beat : (c : Cluster) (i : InstanceId) (l : Live) → IsKept c → IsThrottled c → live_of c.live i ≡ Some l → IsThrottled (beaten_of c (Some l))
throttled_beat c i l k old found = throttled_live c (beaten_of c (Some l)) k old refl refl (λ s e. instance-beat c i l k.numbers found s)

-- so does a session that ends, and it takes its messages away
pub instance-without : (live : List Live) (s u : SessionId) → (u.0 == s.0) ≡ false → instance_on (filter (λ l. not (l.session.0 == s.0)) live) u ≡ instance_on live u
instance-without live s u ne = ap (option_map (λ (x : Live). x.instance)) (find-filter_kept (is_session u) (λ l. not (l.session.0 == s.0)) (λ l w. grind (arith, nat_tests, w, ne)) live)

pub throttled_without : (c : Cluster) (s : SessionId) → IsThrottled c → IsThrottled (without c s)
throttled_without c s old n r key e =
    let less : load_of (without c s) r key ≤ load_of c r key = count-some (is_counted (shown_of (without c s).live) r key) (is_counted (shown_of c.live) r key) (λ m. not (m.session.0 == s.0))
    (λ m other w. sym (counted-same c.live (without c s).live r key m (instance-without c.live s m.session (grind (arith, other)))) ∙ w) c.mail in
    omega (arith, less, old n r key e)

-- marks and acknowledgements leave no more messages
pub throttled_take : (c : Cluster) (s : SessionId) (id : MsgId) → IsThrottled c → IsThrottled (after_take c s id)
throttled_take c s id old n r key e =
    let same = count-marked (is_counted (shown_of c.live) r key) s id (λ m. record m { taken = true }) (λ m. refl) c.mail in
    omega (arith, same, old n r key e)

pub throttled_write : (c : Cluster) (s : SessionId) (id : MsgId) (outcome : Outcome) → IsThrottled c → IsThrottled (after_write c s id outcome)
throttled_write c s id outcome old = write (pending_of c s id)
  where
    write : (o : Option Message) → IsThrottled (written_of c s id outcome o)
    write None n r key e = old n r key e
    write (Some m) n r key e =
        let same = count-marked (is_counted (shown_of c.live) r key) s id (λ x. record x { written = true }) (λ x. refl) c.mail in
        omega (arith, same, old n r key e)

pub throttled_ack : (c : Cluster) (s : SessionId) (id : MsgId) → IsThrottled c → IsThrottled (after_ack c s id)
throttled_ack c s id old n r key e = omega (arith, count-filter (is_counted (shown_of c.live) r key) (λ m. not (has_id s id m)) c.mail, old n r key e)

-- what is sent had room under each rule that counts it
throttle-room : (c : Cluster) (q : Proposal) (k : ℕ) (rules : List Rule) (id : MsgId) (n : ℕ) (r : Rule) → throttled_from c q k rules ≡ placings.Sent id
    → slice_get rules n ≡ Some r → matches r q.from q.to ≡ true → proposal_load c q r < r.limit
throttle-room c q k [] id n r e at w = cc
throttle-room c q k (x ∷ rules) id zero r e at w = one (matches x q.from q.to && nat_le x.limit (proposal_load c q x)) refl e
  where
    one : (b : Bool) → (matches x q.from q.to && nat_le x.limit (proposal_load c q x)) ≡ b
        → (if b then placings.OverThrottle k (proposal_load c q x) x.limit else throttled_from c q (k + 1) rules) ≡ placings.Sent id → proposal_load c q r < r.limit
    one true is e = cc
    one false is e =
        let same : x ≡ r = grind (arith, at) in
        let counted : matches x q.from q.to ≡ true = ap (λ (y : Rule). matches y q.from q.to) same ∙ w in
        subst (λ (y : Rule). proposal_load c q y < y.limit) same (grind (arith, nat_tests, is, counted))
throttle-room c q k (x ∷ rules) id (suc n) r e at w = one (matches x q.from q.to && nat_le x.limit (proposal_load c q x)) e (λ e. throttle-room c q (k + 1) rules id n r e at w)
  where
    one : (b : Bool) → (if b then placings.OverThrottle k (proposal_load c q x) x.limit else throttled_from c q (k + 1) rules) ≡ placings.Sent id
        → (throttled_from c q (k + 1) rules ≡ placings.Sent id → proposal_load c q r < r.limit) → proposal_load c q r < r.limit
    one true e more = cc
    one false e more = more e

-- the load under a key with one message more
pub load_more : (c : Cluster) (m : Message) (r : Rule) (key : ℕ)
    → load_over (shown_of c.live) (c.mail ++ m ∷ []) r key ≡ load_of c r key + count (is_counted (shown_of c.live) r key) (m ∷ [])
load_more c m r key = count-append (is_counted (shown_of c.live) r key) c.mail (m ∷ [])

throttled_sent : (c : Cluster) (q : Proposal) (id : MsgId) → throttled_from c q 0 c.rules ≡ placings.Sent id → IsThrottled c → IsThrottled (after_placed c q (placings.Sent id))
throttled_sent c q id sent old n r key e =
    let more = load_more c (message_from c id q) r key in
    one (is_counted (shown_of c.live) r key (message_from c id q)) refl more
  where
    one : (b : Bool) → is_counted (shown_of c.live) r key (message_from c id q) ≡ b → {z : ℕ}
        → z ≡ load_of c r key + count (is_counted (shown_of c.live) r key) (message_from c id q ∷ []) → z ≤ r.limit
    one true is more =
        let room = throttle-room c q 0 c.rules id n r sent e (grind (arith, is)) in
        let same : key_of r.scope (shown_of c.live) q.session q.part ≡ key = grind (arith, nat_tests, is) in
        let load : proposal_load c q r ≡ load_of c r key = ap (load_of c r) same in
        grind (arith, is, more, room, load)
    one false is more = grind (arith, is, more, old n r key e)

throttled_proposal : (c : Cluster) (q : Proposal) → IsThrottled c → IsThrottled (after_proposal c q)
throttled_proposal c q old = one (placed_of c q) refl
  where
    one : (a : Placed) → placed_of c q ≡ a → IsThrottled (after_placed c q a)
    one (placings.Sent id) is = throttled_sent c q id (room_from c q id is).throttles old
    one _ is = old

throttled_proposals : (c : Cluster) (qs : List Proposal) → IsThrottled c → IsThrottled (after_proposals c qs)
throttled_proposals c [] old = old
throttled_proposals c (q ∷ qs) old = throttled_proposals (after_proposal c q) qs (throttled_proposal c q old)

pub throttled_raised : (c : Cluster) (k : ControllerId) → IsThrottled c → IsThrottled (next_pass c k)
throttled_raised c k old = one (slice_get c.controllers k.0)
  where
    one : (o : Option (Bool × PassNo)) → IsThrottled (raised_pass c k o)
    one None = old
    one (Some d) = old

pub throttled_dispatch : (c : Cluster) (k : ControllerId) (qs : List Proposal) → IsThrottled c → IsThrottled (after_dispatch c k qs)
throttled_dispatch c k qs old = throttled_proposals (next_pass c k) qs (throttled_raised c k old)
