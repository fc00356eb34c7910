-- The numbers as sessions come, are heard of and go.
use Rattle.std.proofs.Common.{◌≡◌, ℕ, ◌==◌, not, Bool, true, false, List, [], ◌∷◌, ◌++◌, length, filter, find, Option, Some, None, refl, sym, ap, ◌∙◌, subst, arith}
use Rattle.std.specs.Prelude.{if◌then◌else◌, slice_get}
use Rattle.std.specs.List.{list_any, list_all}
use Rattle.hx_lists.specs.Lists.{count}
use Rattle.hx_ids.specs.declared.StateId.{StateId}
use Rattle.hx_ids.specs.declared.InstanceId.{InstanceId}
use Rattle.hx_ids.specs.declared.SessionId.{SessionId}
use Rattle.hx_ids.specs.declared.PartId.{PartId}
use Rattle.hx_ids.specs.declared.Live.{Live}
use Rattle.hx_counts.specs.Tally.{Numbers, loads_of}
use Rattle.hx_cluster.specs.declared.description.Rule.{Rule}
use Rattle.hx_cluster.specs.declared.state.Row.{Row}
use Rattle.hx_cluster.specs.declared.state.Message.{Message}
use Rattle.hx_cluster.specs.declared.state.Cluster.{Cluster}
use Rattle.hx_cluster.specs.declared.happenings.Admin.TheVariants as steps
use Rattle.hx_cluster.specs.Ends.{is_row, is_message, is_session, is_live, sessions_of, shown_of, has_end, count_over, count_of, is_counted, load_of}
use Rattle.hx_cluster.specs.Steps.{is_of, live_of, after, beaten_of}
use Rattle.hx_safe.proofs.Counting.{count-append, count-map, none-from-all, find-none, find-single}
use Rattle.hx_safe.proofs.Ends.{session_same, same-self}
use Rattle.hx_safe.proofs.Kept.{IsKept, fresh}
use Rattle.hx_safe.proofs.Throttles.{counted-same, instance-join, instance-beat, instance-without}
use Rattle.hx_slots.specs.Tallies.{is_limited, load_at, IsCounted}
use Rattle.hx_slots.proofs.Single.{count-same, count-known, count-filter_same, count-without}
use Rattle.hx_slots.proofs.Listed.{IsListed, listed_kept, is_message_listed, is_row_listed}

-- how many of the live have a state among their ends
over_live : (rows : List Row) (mail : List Message) (p : PartId) (t : StateId) (live : List Live)
    → count_over (sessions_of live) rows mail p t ≡ count (λ l. has_end rows mail p t l.session) live
over_live rows mail p t live = count-map (has_end rows mail p t) (λ (l : Live). l.session) live

-- other live sessions, with the same ends and the same instances of the messages' sessions
counted_live : (c : Cluster) (live : List Live) (k : Numbers)
    → ((p : PartId) (t : StateId) → count_over (sessions_of live) c.rows c.mail p t ≡ count_of c p t)
    → ((r : Rule) (key : ℕ) → count (is_counted (shown_of live) r key) c.mail ≡ load_of c r key)
    → IsCounted c k → IsCounted (record c { live = live }) k
counted_live c live k same_ends same_loads old = record {
  ends = λ p t. old.ends p t ∙ ap (λ (x : ℕ). if is_limited c.models c.resources p t then x else 0) (sym (same_ends p t));
  loads = λ n key. loads (slice_get c.rules n) n key (old.loads n key);
}
  where
    loads : (o : Option Rule) (n key : ℕ) → loads_of k n key ≡ load_at c o key → loads_of k n key ≡ load_at (record c { live = live }) o key
    loads None n key was = was
    loads (Some r) n key was = was ∙ sym (same_loads r key)

-- where no row and no message is of a session, it has no ends
pub no_end : (rows : List Row) (mail : List Message) (s : SessionId) (q : PartId) (t : StateId) → list_any (is_row s q) rows ≡ false → list_any (is_message s q) mail ≡ false
    → has_end rows mail q t s ≡ false
no_end rows mail s q t no_row no_message = rw (find-none (is_row s q) rows no_row, find-none (is_message s q) mail no_message) refl

unlisted_end : (c : Cluster) (s : SessionId) → IsListed c → is_live c.live s ≡ false → (q : PartId) (t : StateId) → has_end c.rows c.mail q t s ≡ false
unlisted_end c s k dead q t =
    no_end c.rows c.mail s q t
    (none-from-all (is_row_listed c) (is_row s q) (λ r e. row r (grind (arith, e)) (is_row s q r) refl) c.rows k.rows)
    (none-from-all (is_message_listed c) (is_message s q) (λ m e. message m (grind (arith, e)) (is_message s q m) refl) c.mail k.mail)
  where
    row : (r : Row) → is_live c.live r.session ≡ true → (b : Bool) → is_row s q r ≡ b → b ≡ false
    row r live true at = sym (subst (λ (u : SessionId). is_live c.live u ≡ true) (session_same r.session s (grind (arith, at))) live) ∙ dead
    row r live false at = refl

    message : (m : Message) → is_live c.live m.session ≡ true → (b : Bool) → is_message s q m ≡ b → b ≡ false
    message m live true at = sym (subst (λ (u : SessionId). is_live c.live u ≡ true) (session_same m.session s (grind (arith, at))) live) ∙ dead
    message m live false at = refl

-- a session that joins
pub counted_joined : (c : Cluster) (l : Live) (k : Numbers) → IsListed c → is_live c.live l.session ≡ false → IsCounted c k → IsCounted (record c { live = c.live ++ l ∷ [] }) k
counted_joined c l k listed dead old = counted_live c (c.live ++ l ∷ []) k ends loads old
  where
    ends : (p : PartId) (t : StateId) → count_over (sessions_of (c.live ++ l ∷ [])) c.rows c.mail p t ≡ count_of c p t
    ends p t =
        let new = over_live c.rows c.mail p t (c.live ++ l ∷ []) in
        let was = over_live c.rows c.mail p t c.live in
        let more = count-append (λ (x : Live). has_end c.rows c.mail p t x.session) c.live (l ∷ []) in
        let none = unlisted_end c l.session listed dead p t in
        grind (arith, new, was, more, none)

    loads : (r : Rule) (key : ℕ) → count (is_counted (shown_of (c.live ++ l ∷ [])) r key) c.mail ≡ load_of c r key
    loads r key = count-known (is_counted (shown_of (c.live ++ l ∷ [])) r key) (is_counted (shown_of c.live) r key) (is_message_listed c)
        (λ m e. counted-same c.live (c.live ++ l ∷ []) r key m (instance-join c.live l m.session (grind (arith, e)))) c.mail listed.mail

pub counted_join : (c : Cluster) (i : InstanceId) (k : Numbers) → IsKept c → IsCounted c k → IsCounted (after c (steps.Join i)) k
counted_join c i k kept old =
    let new : Live = record { session = record { 0 = c.next_session }; instance = i; beat = c.clock } in
    let all = counted_joined c new k (listed_kept c kept) (fresh c kept new.session refl) old in
    record { ends = all.ends; loads = all.loads }

-- a session that leaves, once its messages and rows are gone
pub counted_left : (c : Cluster) (s : SessionId) (k : Numbers) → list_all (λ r. not (r.session.0 == s.0)) c.rows ≡ true → list_all (λ m. not (m.session.0 == s.0)) c.mail ≡ true
    → IsCounted c k → IsCounted (record c { live = filter (λ l. not (l.session.0 == s.0)) c.live }) k
counted_left c s k rows mail old = counted_live c left k ends loads old
  where
    left : List Live
    left = filter (λ l. not (l.session.0 == s.0)) c.live

    none : (p : PartId) (t : StateId) → has_end c.rows c.mail p t s ≡ false
    none p t =
        no_end c.rows c.mail s p t
        (none-from-all (λ r. not (r.session.0 == s.0)) (is_row s p) (λ r e. grind (arith, e)) c.rows rows)
        (none-from-all (λ m. not (m.session.0 == s.0)) (is_message s p) (λ m e. grind (arith, e)) c.mail mail)

    gone : (p : PartId) (t : StateId) (l : Live) → not (l.session.0 == s.0) ≡ false → has_end c.rows c.mail p t l.session ≡ false
    gone p t l e = ap (has_end c.rows c.mail p t) (session_same l.session s (grind (arith, e))) ∙ none p t

    ends : (p : PartId) (t : StateId) → count_over (sessions_of left) c.rows c.mail p t ≡ count_of c p t
    ends p t =
        over_live c.rows c.mail p t left
        ∙ count-filter_same (λ (l : Live). has_end c.rows c.mail p t l.session) (λ l. not (l.session.0 == s.0)) (gone p t) c.live
        ∙ sym (over_live c.rows c.mail p t c.live)

    loads : (r : Rule) (key : ℕ) → count (is_counted (shown_of left) r key) c.mail ≡ load_of c r key
    loads r key = count-known (is_counted (shown_of left) r key) (is_counted (shown_of c.live) r key) (λ m. not (m.session.0 == s.0))
        (λ m e. counted-same c.live left r key m (instance-without c.live s m.session (grind (arith, e)))) c.mail mail

-- a session that is heard of
pub counted_beaten : (c : Cluster) (i : InstanceId) (l : Live) (k : Numbers) → IsListed c → live_of c.live i ≡ Some l → IsCounted c k → IsCounted (beaten_of c (Some l)) k
counted_beaten c i l k listed found old = counted_live c moved k ends loads old
  where
    moved : List Live
    moved = filter (λ x. not (is_session l.session x)) c.live ++ (record l { beat = c.clock }) ∷ []

    first : find (is_session l.session) c.live ≡ Some l
    first = find-single (is_of i) (is_session l.session) c.live l found (same-self l.session.0) (listed.sessions l.session)

    one : (b : Bool) → length (if b then (record l { beat = c.clock }) ∷ [] else []) ≡ (if b then 1 else 0)
    one true = refl
    one false = refl

    ends : (p : PartId) (t : StateId) → count_over (sessions_of moved) c.rows c.mail p t ≡ count_of c p t
    ends p t =
        let test : Live → Bool = λ (x : Live). has_end c.rows c.mail p t x.session in
        let new = over_live c.rows c.mail p t moved in
        let was = over_live c.rows c.mail p t c.live in
        let more = count-append test (filter (λ x. not (is_session l.session x)) c.live) ((record l { beat = c.clock }) ∷ []) in
        let less = count-without test (is_session l.session) c.live l first (listed.sessions l.session) in
        let last : count test ((record l { beat = c.clock }) ∷ []) ≡ (if test l then 1 else 0) = one (test l) in
        omega (arith, new, was, more, less, last)

    loads : (r : Rule) (key : ℕ) → count (is_counted (shown_of moved) r key) c.mail ≡ load_of c r key
    loads r key = count-same (is_counted (shown_of moved) r key) (is_counted (shown_of c.live) r key)
        (λ m. counted-same c.live moved r key m (instance-beat c i l listed.sessions found m.session)) c.mail

pub counted_beat : (c : Cluster) (i : InstanceId) (k : Numbers) → IsListed c → IsCounted c k → IsCounted (after c (steps.Beat i)) k
counted_beat c i k listed old = one (live_of c.live i) refl
  where
    one : (o : Option Live) → live_of c.live i ≡ o → IsCounted (beaten_of c o) k
    one None is = old
    one (Some l) is = counted_beaten c i l k listed is old
