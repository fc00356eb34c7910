-- The places of sessions in order are the live sessions by instance.
use Rattle.std.proofs.Common.{◌≡◌, ℕ, zero, suc, ◌+◌, ◌<◌, ◌≤◌, ◌==◌, Bool, true, false, List, [], ◌∷◌, ◌++◌, length, length-append, drop, Option, Some, None, refl, sym, ap, ◌∙◌, subst, arith}
use Rattle.std.specs.Prelude.{slice_set, slice_get, slice_index_or, option_map, if◌then◌else◌, nat_lt, nat_le}
use Rattle.std.proofs.lemmas.List.{append-nil, append_assoc, map-append, length-map, drop_all}
use Rattle.std.proofs.lemmas.Bool.Decides.{nat_tests}
use Rattle.hx_lists.specs.Lists.{count, insert_by, sort_by}
use Rattle.hx_ids.specs.declared.InstanceId.{InstanceId}
use Rattle.hx_ids.specs.declared.SessionId.{SessionId}
use Rattle.hx_ids.specs.declared.Live.{Live}
use Rattle.hx_cluster.specs.declared.state.Cluster.{Cluster}
use Rattle.hx_cluster.specs.Ends.{is_session, shown_of}
use Rattle.hx_cluster.specs.Steps.{opening, is_of, live_of}
use Rattle.hx_cluster.specs.Events.{replay}
use Rattle.hx_cluster.specs.Reads.{instance_before}
use Rattle.hx_sessions.specs.Sessions.{first_live, live_after}
use Rattle.hx_safe.proofs.Counting.{any-count, find-any, find-passes, and-second}
use Rattle.hx_safe.proofs.Whole.{reached_ranged}
use Rattle.hx_safe.proofs.Ends.{same-self}
use Rattle.hx_records.specs.Reached.{IsReached}
use Rattle.hx_records.specs.Records.{seat_at}
use Rattle.hx_records.proofs.Seating.{Seats, SitAt, set-other, set-none, instance_same}

-- the sessions at places, the first of which is k
abbrev pub shown_from : ℕ → Seats → List (SessionId × InstanceId)
shown_from k [] = []
shown_from k (None ∷ seats) = shown_from (k + 1) seats
shown_from k (Some s ∷ seats) = (s, record { 0 = k }) ∷ shown_from (k + 1) seats

none-shown : (k : ℕ) (xs : Seats) → ((n : ℕ) → slice_index_or xs n None ≡ None) → shown_from k xs ≡ []
none-shown k [] h = refl
none-shown k (None ∷ xs) h = none-shown (k + 1) xs (λ n. h (suc n))
none-shown k (Some s ∷ xs) h = let no = h 0 in cc

-- one before all others
first-shown : (k m : ℕ) (xs : Seats) (s : SessionId) → k < m → insert_by instance_before (s, record { 0 = k }) (shown_from m xs) ≡ (s, record { 0 = k }) ∷ shown_from m xs
first-shown k m [] s lt = refl
first-shown k m (None ∷ xs) s lt = first-shown k (m + 1) xs s (omega (arith, lt))
first-shown k m (Some t ∷ xs) s lt =
    let no : nat_lt m k ≡ false = grind (arith, nat_tests, lt) in
    ap (λ (b : Bool). if b then (t, record { 0 = m }) ∷ insert_by instance_before (s, record { 0 = k }) (shown_from (m + 1) xs) else (s, record { 0 = k }) ∷ (t, record { 0 = m }) ∷ shown_from (m + 1) xs) no

-- a session at a place is put among the others
place-shown : (k n at : ℕ) (xs : Seats) (s : SessionId) → at ≡ k + n → slice_index_or xs n None ≡ Some s
    → shown_from k xs ≡ insert_by instance_before (s, record { 0 = at }) (shown_from k (slice_set xs n None))
place-shown k n at [] s is e = cc
place-shown k zero at (None ∷ xs) s is e = cc
place-shown k zero at (Some t ∷ xs) s is e =
    let same : t ≡ s = grind (arith, e) in
    let here : at ≡ k = omega (arith, is) in
    let put : shown_from k (Some s ∷ xs) ≡ insert_by instance_before (s, record { 0 = k }) (shown_from (k + 1) xs) = sym (first-shown k (k + 1) xs s (omega arith)) in
    ap (λ (u : SessionId). (u, record { 0 = k }) ∷ shown_from (k + 1) xs) same
    ∙ put
    ∙ ap (λ (n : ℕ). insert_by instance_before (s, record { 0 = n }) (shown_from (k + 1) xs)) (sym here)
place-shown k (suc n) at (None ∷ xs) s is e = place-shown (k + 1) n at xs s (omega (arith, is)) e
place-shown k (suc n) at (Some t ∷ xs) s is e =
    let before : nat_lt k at ≡ true = let lt : k < at = omega (arith, is) in grind (arith, nat_tests, lt) in
    let rest = place-shown (k + 1) n at xs s (omega (arith, is)) e in
    ap (λ (shown : List (SessionId × InstanceId)). (t, record { 0 = k }) ∷ shown) rest
    ∙ sym (ap (λ (b : Bool). if b then (t, record { 0 = k }) ∷ insert_by instance_before (s, record { 0 = at }) (shown_from (k + 1) (slice_set xs n None)) else (s, record { 0 = at }) ∷ (t, record { 0 = k }) ∷ shown_from (k + 1) (slice_set xs n None)) before)

pub seats_sorted : (live : List Live) (seats : Seats) → SitAt seats live → ((i : InstanceId) → count (is_of i) live ≤ 1) → shown_from 0 seats ≡ sort_by instance_before (shown_of live)
seats_sorted [] seats sit one = none-shown 0 seats (λ n. sit (record { 0 = n }))
seats_sorted (l ∷ live) seats sit one =
    let i = l.instance in
    let here : is_of i l ≡ true = same-self i.0 in
    let found : live_of (l ∷ live) i ≡ Some l = grind (arith, here) in
    let at : seat_at seats i ≡ Some l.session = sit i ∙ ap (λ (o : Option Live). option_map (λ x. x.session) o) found in
    place-shown 0 i.0 i.0 seats l.session (omega arith) at
    ∙ ap (λ (shown : List (SessionId × InstanceId)). insert_by instance_before (l.session, i) shown) (seats_sorted live (slice_set seats i.0 None) (λ j. rest j (j.0 == l.instance.0) refl) (λ j. fewer j (is_of j l) refl))
  where
    fewer : (j : InstanceId) (b : Bool) → is_of j l ≡ b → count (is_of j) live ≤ 1
    fewer j true is = grind (arith, is, one j)
    fewer j false is = grind (arith, is, one j)

    gone : live_of live l.instance ≡ None
    gone = absent (live_of live l.instance) refl
      where
        absent : (o : Option Live) → live_of live l.instance ≡ o → o ≡ None
        absent None is = refl
        absent (Some x) is =
            let more = any-count (is_of l.instance) live (find-any (is_of l.instance) (is_of l.instance) live x is (find-passes (is_of l.instance) live x is)) in
            let self : is_of l.instance l ≡ true = same-self l.instance.0 in
            let most = one l.instance in
            grind (arith, self, most, more)

    rest : (j : InstanceId) (b : Bool) → (j.0 == l.instance.0) ≡ b → seat_at (slice_set seats l.instance.0 None) j ≡ option_map (λ x. x.session) (live_of live j)
    rest j true is =
        subst (λ (k : InstanceId). seat_at (slice_set seats l.instance.0 None) k ≡ option_map (λ x. x.session) (live_of live k)) (sym (instance_same j l.instance is))
        (set-none seats l.instance.0 ∙ sym (ap (λ (o : Option Live). option_map (λ x. x.session) o) gone))
    rest j false is =
        let no : is_of j l ≡ false = grind (arith, nat_tests, is) in
        let same : live_of (l ∷ live) j ≡ live_of live j = grind (arith, no) in
        set-other seats l.instance.0 j.0 None is ∙ sit j ∙ ap (λ (o : Option Live). option_map (λ x. x.session) o) same

-- they are shown place by place
drop-next : {X : Type 0} (xs : List X) (n : ℕ) (x : X) → slice_get xs n ≡ Some x → drop n xs ≡ x ∷ drop (suc n) xs
drop-next [] n x e = cc
drop-next (y ∷ xs) zero x e = let same : y ≡ x = grind (arith, e) in ap (λ z. z ∷ xs) same
drop-next (y ∷ xs) (suc n) x e = drop-next xs n x e

pub drop_at : {X : Type 0} (xs : List X) (n : ℕ) (x : X) → slice_get xs n ≡ Some x → drop n xs ≡ x ∷ drop (n + 1) xs
drop_at xs n x e = let more : suc n ≡ n + 1 = omega arith in drop-next xs n x e ∙ ap (λ (k : ℕ). x ∷ drop k xs) more

pub shown_all : (shown all : List (SessionId × InstanceId)) (seats : Seats) (n : ℕ) → length seats ≤ n → shown ++ shown_from n (drop n seats) ≡ all → shown ≡ all
shown_all shown all seats n past e =
    sym (append-nil shown) ∙ sym (ap (λ (left : Seats). shown ++ shown_from n left) (drop_all n seats past)) ∙ e

-- no more instances than 64 are reached
pub few_instances : (c : Cluster) → IsReached c → length c.instances ≤ 64
few_instances c r = subst (λ (d : Cluster). length d.instances ≤ 64) r.replays
    (let ranged = reached_ranged r.spec r.valid r.history r.legal in
    let few = and-second (nat_le 1 (length (replay (opening r.spec) r.history).instances)) (nat_le (length (replay (opening r.spec) r.history).instances) 64) ranged.instances in
    grind (arith, nat_tests, few))

-- sessions are shown in order of last beat
pub record HaveShown (live : List Live) (shown : List (SessionId × InstanceId)) (next : Option Live) : Type 0 where
  pub passed : List Live
  pub left : List Live
  pub is : passed ++ left ≡ live
  pub at : next ≡ first_live left
  pub so_far : shown ≡ shown_of passed

pub none_shown : (live : List Live) (next : Option Live) (shown : List (SessionId × InstanceId)) → next ≡ first_live live → shown ≡ [] → HaveShown live shown next
none_shown live next shown e none = record { passed = []; left = live; is = refl; at = e; so_far = none }

after-at : (passed : List Live) (l : Live) (left : List Live) → count (is_session l.session) (passed ++ l ∷ left) ≤ 1 → live_after l.session (passed ++ l ∷ left) ≡ first_live left
after-at [] l left one = let self : is_session l.session l ≡ true = same-self l.session.0 in grind (arith, self)
after-at (p ∷ passed) l left one = turn (is_session l.session p) refl (λ few. after-at passed l left few)
  where
    at-least : (passed : List Live) → 1 ≤ count (is_session l.session) (passed ++ l ∷ left)
    at-least [] = let self : is_session l.session l ≡ true = same-self l.session.0 in grind (arith, self)
    at-least (q ∷ passed) = let more = at-least passed in grind (arith, more)

    turn : (b : Bool) → is_session l.session p ≡ b → (count (is_session l.session) (passed ++ l ∷ left) ≤ 1 → live_after l.session (passed ++ l ∷ left) ≡ first_live left)
        → live_after l.session (p ∷ (passed ++ l ∷ left)) ≡ first_live left
    turn true is again = let more = at-least passed in grind (arith, is, one, more)
    turn false is again = let few : count (is_session l.session) (passed ++ l ∷ left) ≤ 1 = grind (arith, is, one) in let rest = again few in grind (arith, is, rest)

first-is : (left : List Live) (l : Live) → Some l ≡ first_live left → (rest : List Live) × (left ≡ l ∷ rest)
first-is [] l e = cc
first-is (x ∷ left) l e = (left, (let same : x ≡ l = grind (arith, e) in rw same refl))

pub one_shown : (live : List Live) (shown more : List (SessionId × InstanceId)) (l : Live) (after : Option Live) → ((s : SessionId) → count (is_session s) live ≤ 1)
    → HaveShown live shown (Some l) → after ≡ live_after l.session live → more ≡ shown ++ (l.session, l.instance) ∷ [] → HaveShown live more after
one_shown live shown more l after once h e is =
    let rest = first-is h.left l h.at in
    let whole : h.passed ++ l ∷ rest.0 ≡ live = ap (λ (ls : List Live). h.passed ++ ls) (sym rest.1) ∙ h.is in
    let next = after-at h.passed l rest.0 (subst (λ (ls : List Live). count (is_session l.session) ls ≤ 1) (sym whole) (once l.session)) in
    record {
      passed = h.passed ++ l ∷ [];
      left = rest.0;
      is = append_assoc h.passed (l ∷ []) rest.0 ∙ whole;
      at = e ∙ ap (live_after l.session) (sym whole) ∙ next;
      so_far = is ∙ ap (λ (s : List (SessionId × InstanceId)). s ++ (l.session, l.instance) ∷ []) h.so_far ∙ sym (let each : Live → SessionId × InstanceId = λ x. (x.session, x.instance) in map-append each h.passed (l ∷ []));
    }

pub fewer_shown : (live : List Live) (shown : List (SessionId × InstanceId)) (l : Live) → HaveShown live shown (Some l) → length shown < length live
fewer_shown live shown l h =
    let rest = first-is h.left l h.at in
    let so_far = ap (λ (s : List (SessionId × InstanceId)). length s) h.so_far in
    let each : Live → SessionId × InstanceId = λ x. (x.session, x.instance) in
    let many = length-map h.passed each in
    let all = ap (λ (ls : List Live). length ls) (sym h.is) ∙ length-append h.passed h.left in
    let some = ap (λ (ls : List Live). length ls) rest.1 in
    omega (arith, so_far, many, all, some)

pub shown_to_end : (live : List Live) (shown : List (SessionId × InstanceId)) → HaveShown live shown None → shown ≡ shown_of live
shown_to_end live shown h =
    h.so_far ∙ ap shown_of (sym (append-nil h.passed) ∙ ap (λ (ls : List Live). h.passed ++ ls) (sym (none h.left h.at)) ∙ h.is)
  where
    none : (left : List Live) → None ≡ first_live left → left ≡ []
    none [] e = refl
    none (x ∷ left) e = cc
