-- What holds of all sessions, and how an expiry ends some of them.
use Rattle.std.proofs.Common.{◌≡◌, ℕ, zero, suc, ◌+◌, ◌-◌, ◌≤◌, ◌<◌, ◌==◌, not, Bool, true, false, List, [], ◌∷◌, ◌++◌, filter, find, map, drop, Some, refl, sym, ap, ◌∙◌, subst, arith}
use Rattle.std.specs.Prelude.{if◌then◌else◌, nat_le, nat_lt}
use Rattle.std.specs.List.{list_any, list_all}
use Rattle.std.proofs.lemmas.Bool.Decides.{nat_tests}
use Rattle.std.proofs.lemmas.List.{append-nil, nil_from_length}
use Rattle.std.proofs.lemmas.Bool.{eqb-true}
use Rattle.hx_lists.specs.Lists.{count}
use Rattle.hx_ids.specs.declared.SessionId.{SessionId}
use Rattle.hx_ids.specs.declared.InstanceId.{InstanceId}
use Rattle.hx_ids.specs.declared.Live.{Live}
use Rattle.hx_ids.specs.Expiry.{is_expired, expired}
use Rattle.hx_ids.specs.Sessions.{is_session, is_live, session_at, no_later, beats_rise, without, with_beat, beaten}
use Rattle.hx_sessions.specs.Sessions.{Sessions, AreSessions, new_live, opened, remaining}
use Rattle.hx_sessions.proofs.Placing.{SessionsOnce, sessions_rest, session_alone}

-- lists that are filtered, and lists with one item more
pub count-filter : {X : Type 0} (p k : X → Bool) (xs : List X) → count p (filter k xs) ≤ count p xs
count-filter p k [] = omega arith
count-filter p k (x ∷ xs) = grind (arith, count-filter p k xs)

pub count-push : {X : Type 0} (p : X → Bool) (xs : List X) (x : X) → count p (xs ++ x ∷ []) ≡ count p xs + (if p x then 1 else 0)
count-push p [] x = grind arith
count-push p (y ∷ xs) x = grind (arith, count-push p xs x)

all-filter : {X : Type 0} (p k : X → Bool) (xs : List X) → list_all p xs ≡ true → list_all p (filter k xs) ≡ true
all-filter p k [] e = refl
all-filter p k (x ∷ xs) e = grind (arith, all-filter p k xs)

all-push : {X : Type 0} (p : X → Bool) (xs : List X) (x : X) → list_all p xs ≡ true → p x ≡ true → list_all p (xs ++ x ∷ []) ≡ true
all-push p [] x e h = rw h refl
all-push p (y ∷ xs) x e h = grind (arith, all-push p xs x)

all-more : {X : Type 0} (p q : X → Bool) (h : (x : X) → p x ≡ true → q x ≡ true) (xs : List X) → list_all p xs ≡ true → list_all q xs ≡ true
all-more p q h [] e = refl
all-more p q h (x ∷ xs) e = grind (arith, all-more p q h xs, h x)

all-find : {X : Type 0} (p q : X → Bool) (xs : List X) (x : X) → list_all p xs ≡ true → find q xs ≡ Some x → p x ≡ true
all-find p q [] x a e = cc
all-find p q (y ∷ xs) x a e = grind (arith, all-find p q xs x)

pub find-passes : {X : Type 0} (p : X → Bool) (xs : List X) (x : X) → find p xs ≡ Some x → p x ≡ true
find-passes p [] x e = cc
find-passes p (y ∷ xs) x e = grind (arith, find-passes p xs x)

rise-filter : (k : Live → Bool) (live : List Live) → beats_rise live ≡ true → beats_rise (filter k live) ≡ true
rise-filter k [] e = refl
rise-filter k (l ∷ live) e = grind (arith, rise-filter k live, all-filter (λ m. nat_le l.beat m.beat) k live)

rise-push : (live : List Live) (l : Live) → beats_rise live ≡ true → no_later l.beat live ≡ true → beats_rise (live ++ l ∷ []) ≡ true
rise-push [] l e h = refl
rise-push (k ∷ live) l e h = grind (arith, rise-push live l, all-push (λ m. nat_le k.beat m.beat) live l)

-- a session that is not live is as good as one with a number from the next one on
pub below-none : (live : List Live) (next : ℕ) (s : SessionId) → list_all (λ l. nat_lt l.session.0 next) live ≡ true → next ≤ s.0 → is_live live s ≡ false
below-none [] next s e h = refl
below-none (l ∷ live) next s e h = grind (arith, nat_tests, below-none live next s)

pub same_session : (a b : SessionId) → (a.0 == b.0) ≡ true → a ≡ b
same_session a b e = let same : a.0 ≡ b.0 = eqb-true a.0 b.0 e in ap (λ (n : ℕ). record { 0 = n }) same

pub count-zero : {X : Type 0} (p : X → Bool) (xs : List X) → list_any p xs ≡ false → count p xs ≡ 0
count-zero p [] e = refl
count-zero p (x ∷ xs) e = grind (arith, count-zero p xs)

-- one more session, last
sessions_push : (live : List Live) (l : Live) (next : ℕ) → AreSessions (record { live = live; next = next }) → is_live live l.session ≡ false → l.session.0 < next → no_later l.beat live ≡ true → AreSessions (record { live = live ++ l ∷ []; next = next })
sessions_push live l next are off below late =
    record {
      numbers = λ s. by_test s (is_session s l) refl;
      below = all-push (λ k. nat_lt k.session.0 next) live l are.below (grind (arith, nat_tests));
      beats = rise-push live l are.beats late;
    }
  where
    by_test : (s : SessionId) (b : Bool) → is_session s l ≡ b → count (is_session s) (live ++ l ∷ []) ≤ 1
    by_test s true is =
        let gone : is_live live s ≡ false = subst (λ t. is_live live t ≡ false) (same_session l.session s is) off in
        grind (arith, count-push (is_session s) live l, count-zero (is_session s) live gone)
    by_test s false is = grind (arith, count-push (is_session s) live l, are.numbers s)

pub sessions_open : (s : Sessions) (i : InstanceId) (now : ℕ) → AreSessions s → no_later now s.live ≡ true → AreSessions (opened s i now)
sessions_open s i now are late =
    sessions_push s.live (new_live s.next i now) (s.next + 1)
    (record { numbers = are.numbers; below = all-more (λ l. nat_lt l.session.0 s.next) (λ l. nat_lt l.session.0 (s.next + 1)) (λ l h. grind (arith, nat_tests)) s.live are.below; beats = are.beats })
    (below-none s.live s.next (record { 0 = s.next }) are.below (omega arith)) (omega arith) late

pub sessions_filter : (k : Live → Bool) (live : List Live) (next : ℕ) → AreSessions (record { live = live; next = next }) → AreSessions (record { live = filter k live; next = next })
sessions_filter k live next are =
    record {
      numbers = λ s. omega (arith, are.numbers s, count-filter (is_session s) k live);
      below = all-filter (λ l. nat_lt l.session.0 next) k live are.below;
      beats = rise-filter k live are.beats;
    }

without-gone : (s : SessionId) (live : List Live) → is_live (without s live) s ≡ false
without-gone s [] = refl
without-gone s (l ∷ live) = grind (arith, without-gone s live)

pub sessions_beat : (s : SessionId) (l : Live) (now : ℕ) (live : List Live) (next : ℕ) → AreSessions (record { live = live; next = next }) → no_later now live ≡ true → session_at live s ≡ Some l
    → AreSessions (record { live = without s live ++ with_beat now l ∷ []; next = next })
sessions_beat s l now live next are late found =
    let same : l.session ≡ s = same_session l.session s (find-passes (is_session s) live l found) in
    let off : is_live (without s live) l.session ≡ false = subst (λ t. is_live (without s live) t ≡ false) (sym same) (without-gone s live) in
    let below = all-find (λ k. nat_lt k.session.0 next) (is_session s) live l are.below found in
    sessions_push (without s live) (with_beat now l) next (sessions_filter (λ k. not (is_session s k)) live next are) off (grind (arith, nat_tests)) (all-filter (λ k. nat_le k.beat now) (λ k. not (is_session s k)) live late)

only_session : (s : SessionId) (l : Live) (live : List Live) → SessionsOnce live → session_at live s ≡ Some l → filter (is_session s) live ≡ l ∷ []
only_session s l [] once found = absurd (cc)
only_session s l (k ∷ live) once found = by_test (is_session s k) refl found (only_session s l live (sessions_rest k live once))
  where
    by_test : (b : Bool) → is_session s k ≡ b → (if b then Some k else session_at live s) ≡ Some l → (session_at live s ≡ Some l → filter (is_session s) live ≡ l ∷ []) → filter (is_session s) (k ∷ live) ≡ l ∷ []
    by_test true is found rest =
        let none : filter (is_session s) live ≡ [] = nil_from_length (filter (is_session s) live) (let o = once s in grind arith) in
        let same : k ≡ l = cc in
        rw (is, none) (ap (λ m. m ∷ []) same)
    by_test false is found rest = rw is (rest found)

-- a beat moves the session last
pub beaten-last : (s : SessionId) (l : Live) (now : ℕ) (live : List Live) → SessionsOnce live → session_at live s ≡ Some l → beaten s now live ≡ without s live ++ with_beat now l ∷ []
beaten-last s l now live once found = ap (λ ls. without s live ++ map (with_beat now) ls) (only_session s l live once found)

-- one that is not live changes nothing
pub without-absent : (s : SessionId) (live : List Live) → is_live live s ≡ false → without s live ≡ live
without-absent s [] e = refl
without-absent s (l ∷ live) e = grind (arith, without-absent s live)

filter-absent : (s : SessionId) (live : List Live) → is_live live s ≡ false → filter (is_session s) live ≡ []
filter-absent s [] e = refl
filter-absent s (l ∷ live) e = grind (arith, filter-absent s live)

pub beaten-absent : (s : SessionId) (now : ℕ) (live : List Live) → is_live live s ≡ false → beaten s now live ≡ live
beaten-absent s now live e = rw (without-absent s live e, filter-absent s live e) (append-nil live)

-- where the sessions that have ended are those named, those not named remain
abbrev pub among : SessionId → List SessionId → Bool
among s ended = list_any (λ e. s.0 == e.0) ended

-- the sessions after each of those named has ended
abbrev pub gone : List SessionId → List Live → List Live
gone [] live = live
gone (s ∷ ended) live = gone ended (without s live)

gone-filter : (ended : List SessionId) (live : List Live) → gone ended live ≡ filter (λ l. not (among l.session ended)) live
gone-filter [] live = sym (all_kept live)
  where
    all_kept : (live : List Live) → filter (λ l. not (among l.session [])) live ≡ live
    all_kept [] = refl
    all_kept (l ∷ live) = ap (λ ls. l ∷ ls) (all_kept live)
gone-filter (s ∷ ended) live = gone-filter ended (without s live) ∙ fused s ended live
  where
    fused : (s : SessionId) (ended : List SessionId) (live : List Live) → filter (λ l. not (among l.session ended)) (without s live) ≡ filter (λ l. not (among l.session (s ∷ ended))) live
    fused s ended [] = refl
    fused s ended (l ∷ live) = grind (arith, fused s ended live)

-- a test and another agree on each session
abbrev AgreeOn : (Live → Bool) → (Live → Bool) → List Live → Type 0
AgreeOn q p [] = Unit {0}
AgreeOn q p (l ∷ live) = (q l ≡ p l) × AgreeOn q p live

agreed-filter : (q p : Live → Bool) (live : List Live) → AgreeOn q p live → filter (λ l. not (q l)) live ≡ filter (λ l. not (p l)) live
agreed-filter q p [] a = refl
agreed-filter q p (l ∷ live) a = let here = a.0 in let rest = agreed-filter q p live a.1 in rw (here, rest) refl

-- one more that has ended, which is none of these
agree_more : (s : SessionId) (ended : List SessionId) (p : Live → Bool) (live : List Live) → is_live live s ≡ false → AgreeOn (λ l. among l.session ended) p live → AgreeOn (λ l. among l.session (s ∷ ended)) p live
agree_more s ended p [] off a = tt
agree_more s ended p (l ∷ live) off a =
    let other : (l.session.0 == s.0) ≡ false = grind arith in
    (rw other a.0, agree_more s ended p live (grind arith) a.1)

among-absent : (s : SessionId) (p : Live → Bool) (live : List Live) → is_live live s ≡ false → among s (map (λ l. l.session) (filter p live)) ≡ false
among-absent s p [] off = refl
among-absent s p (l ∷ live) off = by_test (p l) refl (among-absent s p live (grind arith))
  where
    by_test : (b : Bool) → p l ≡ b → among s (map (λ l. l.session) (filter p live)) ≡ false → among s (map (λ l. l.session) (filter p (l ∷ live))) ≡ false
    by_test true is rest = let other : (s.0 == l.session.0) ≡ false = grind (arith, nat_tests) in rw (is, other) rest
    by_test false is rest = rw is rest

agree : (p : Live → Bool) (live : List Live) → SessionsOnce live → AgreeOn (λ l. among l.session (map (λ k. k.session) (filter p live))) p live
agree p [] once = tt
agree p (l ∷ live) once = by_test (p l) refl (agree p live (sessions_rest l live once))
  where
    by_test : (b : Bool) → p l ≡ b → AgreeOn (λ k. among k.session (map (λ k. k.session) (filter p live))) p live → AgreeOn (λ k. among k.session (map (λ k. k.session) (filter p (l ∷ live)))) p (l ∷ live)
    by_test true is rest =
        let self : (l.session.0 == l.session.0) ≡ true = grind (arith, nat_tests) in
        let ended : l.session ∷ map (λ k. k.session) (filter p live) ≡ map (λ k. k.session) (filter p (l ∷ live)) = rw is refl in
        let here : among l.session (l.session ∷ map (λ k. k.session) (filter p live)) ≡ p l = rw (self, is) refl in
        subst (λ (es : List SessionId). AgreeOn (λ k. among k.session es) p (l ∷ live)) ended (here, agree_more l.session (map (λ k. k.session) (filter p live)) p live (session_alone l live once) rest)
    by_test false is rest =
        let ended : map (λ k. k.session) (filter p live) ≡ map (λ k. k.session) (filter p (l ∷ live)) = rw is refl in
        let here : among l.session (map (λ k. k.session) (filter p live)) ≡ p l = among-absent l.session p live (session_alone l live once) ∙ sym is in
        subst (λ (es : List SessionId). AgreeOn (λ k. among k.session es) p (l ∷ live)) ended (here, rest)

-- once each expired session has ended, those remain that have not expired
pub gone-expired : (live : List Live) (now timeout : ℕ) → SessionsOnce live → gone (expired live now timeout) live ≡ remaining live now timeout
gone-expired live now timeout once =
    gone-filter (expired live now timeout) live ∙ agreed-filter (λ l. among l.session (expired live now timeout)) (is_expired now timeout) live (agree (is_expired now timeout) live once)

none_expired : (beat : ℕ) (live : List Live) (now timeout : ℕ) → list_all (λ k. nat_le beat k.beat) live ≡ true → nat_le timeout (now - beat) ≡ false → filter (is_expired now timeout) live ≡ []
none_expired beat [] now timeout later fresh = refl
none_expired beat (k ∷ live) now timeout later fresh =
    let here : nat_le timeout (now - k.beat) ≡ false = grind (arith, nat_tests) in
    rw here (none_expired beat live now timeout (grind arith) fresh)

-- where a session has not expired, none after it has
pub none_later : (l : Live) (live : List Live) (now timeout : ℕ) → beats_rise (l ∷ live) ≡ true → is_expired now timeout l ≡ false → expired (l ∷ live) now timeout ≡ []
none_later l live now timeout rise fresh =
    let later : list_all (λ k. nat_le l.beat k.beat) live ≡ true = grind arith in
    rw fresh (ap (λ ls. map (λ k. k.session) ls) (none_expired l.beat live now timeout later fresh))

pub rise-drop : (k : ℕ) (live : List Live) → beats_rise live ≡ true → beats_rise (drop k live) ≡ true
rise-drop zero live e = e
rise-drop (suc k) [] e = refl
rise-drop (suc k) (l ∷ live) e = rise-drop k live (grind arith)
