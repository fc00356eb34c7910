-- Sessions that end, and sessions that are heard of.
use Rattle.std.proofs.Common.{◌≡◌, ◌≤◌, ◌||◌, ◌==◌, not, Bool, true, false, List, [], ◌∷◌, ◌++◌, filter, Option, Some, None, refl, ap, ◌∙◌, arith}
use Rattle.std.specs.Prelude.{nat_lt}
use Rattle.std.specs.Option.{option_map}
use Rattle.std.proofs.lemmas.Bool.Decides.{nat_tests}
use Rattle.hx_lists.specs.Lists.{count}
use Rattle.hx_ids.specs.declared.StateId.{StateId}
use Rattle.hx_ids.specs.declared.InstanceId.{InstanceId}
use Rattle.hx_ids.specs.declared.SessionId.{SessionId}
use Rattle.hx_ids.specs.declared.PartId.{PartId}
use Rattle.hx_ids.specs.declared.Live.{Live}
use Rattle.hx_cluster.specs.declared.state.Row.{Row}
use Rattle.hx_cluster.specs.declared.state.Message.{Message}
use Rattle.hx_cluster.specs.declared.state.Cluster.{Cluster}
use Rattle.hx_cluster.specs.Ends.{is_row, is_message, is_session, is_live, sessions_of, row_of, message_of, state_of, row_at, message_at, has_end, count_over, count_of}
use Rattle.hx_cluster.specs.Steps.{without, without_all, ended_of, beaten_of, is_error, is_of, live_of}
use Rattle.hx_cluster.specs.Safe.{is_pending, is_kept}
use Rattle.hx_safe.proofs.Counting.{count-append, count-le, count-filter, count-map, count-removed, any-append, any-filter_kept, all-append, all-le, all-filter, all-filter_more, all-find}
use Rattle.hx_safe.proofs.Ends.{same-self, find-filter_kept, find-filter, end-filter}
use Rattle.hx_safe.proofs.Kept.{IsKept}

-- a row that is gone takes its end away
row-filter : (k : Row → Bool) (rows : List Row) (u : SessionId) (q : PartId) (t : StateId) → count (is_row u q) rows ≤ 1 → row_at t (row_of (filter k rows) u q) ≡ true
    → row_at t (row_of rows u q) ≡ true
row-filter k rows u q t single e = one (row_of (filter k rows) u q) refl e
  where
    one : (o : Option Row) → row_of (filter k rows) u q ≡ o → row_at t o ≡ true → row_at t (row_of rows u q) ≡ true
    one None is e = cc
    one (Some r) is e = rw (find-filter (is_row u q) k rows r single is) e

-- the replicas of the others stand as they did
pub state-without : (rows : List Row) (s u : SessionId) (q : PartId) → (u.0 == s.0) ≡ false → state_of (filter (λ r. not (r.session.0 == s.0)) rows) u q ≡ state_of rows u q
state-without rows s u q ne = ap (option_map (λ r. r.state)) (find-filter_kept (is_row u q) (λ r. not (r.session.0 == s.0)) (λ r e. grind (arith, nat_tests, e, ne)) rows)

-- and they are still live
pub live-without : (live : List Live) (s u : SessionId) → (u.0 == s.0) ≡ false → is_live live u ≡ true → is_live (filter (λ l. not (l.session.0 == s.0)) live) u ≡ true
live-without live s u ne e = any-filter_kept (is_session u) (λ l. not (l.session.0 == s.0)) (λ l w. grind (arith, nat_tests, w, ne)) live e

-- so a session that ends takes its ends away
pub count_without : (c : Cluster) (s : SessionId) → IsKept c → (p : PartId) (t : StateId) → count_of (without c s) p t ≤ count_of c p t
count_without c s k p t =
    let d = without c s in
    let less : count_of d p t ≤ count_over (sessions_of d.live) c.rows c.mail p t
    = count-le (has_end d.rows d.mail p t) (has_end c.rows c.mail p t) (λ u w. ends u (row_at t (row_of d.rows u p)) refl w) (sessions_of d.live) in
    let one = count-map (has_end c.rows c.mail p t) (λ (l : Live). l.session) d.live in
    let two = count-map (has_end c.rows c.mail p t) (λ (l : Live). l.session) c.live in
    let fewer = count-filter (λ (l : Live). has_end c.rows c.mail p t l.session) (λ l. not (l.session.0 == s.0)) c.live in
    omega (arith, less, one, two, fewer)
  where
    ends : (u : SessionId) (b : Bool) → row_at t (row_of (filter (λ r. not (r.session.0 == s.0)) c.rows) u p) ≡ b
        → (b || message_at t (message_of (filter (λ m. not (m.session.0 == s.0)) c.mail) u p)) ≡ true → has_end c.rows c.mail p t u ≡ true
    ends u true is w =
        let row = row-filter (λ r. not (r.session.0 == s.0)) c.rows u p t (k.rows.single u p) is in
        grind (arith, row)
    ends u false is w =
        let message = end-filter (λ m. not (m.session.0 == s.0)) c.mail u p t (k.mail.single u p) w in
        grind (arith, message)

pub kept_without : (c : Cluster) (s : SessionId) → IsKept c → IsKept (without c s)
kept_without c s k =
    let d = without c s in
    let stays : Live → Bool = λ l. not (l.session.0 == s.0) in
    record {
      mail = record {
        pending = all-filter_more (is_pending c) (is_pending d) (λ m. not (m.session.0 == s.0)) (λ m e other. pending m e (grind (arith, other))) c.mail k.mail.pending;
        numbers = λ n. let fewer = count-filter (λ m. m.id.0 == n.0) (λ m. not (m.session.0 == s.0)) c.mail in omega (arith, k.mail.numbers n);
        single = λ u q. let fewer = count-filter (is_message u q) (λ m. not (m.session.0 == s.0)) c.mail in omega (arith, k.mail.single u q);
      };
      rows = record {
        kept = all-filter_more (is_kept c) (is_kept d) (λ r. not (r.session.0 == s.0)) (λ r e other. kept r e (grind (arith, other))) c.rows k.rows.kept;
        single = λ u q. let fewer = count-filter (is_row u q) (λ r. not (r.session.0 == s.0)) c.rows in omega (arith, k.rows.single u q);
        flags = all-filter_more (λ f. is_error (state_of c.rows f.0 f.1)) (λ f. is_error (state_of d.rows f.0 f.1)) (λ f. not (f.0.0 == s.0)) (λ f e other. ap is_error (state-without c.rows s f.0 f.1 (grind (arith, other))) ∙ e) c.resets k.rows.flags;
      };
      numbers = λ u. let fewer = count-filter (is_session u) stays c.live in omega (arith, k.numbers u);
      below = all-filter (λ l. nat_lt l.session.0 c.next_session) stays c.live k.below;
      sound = k.sound;
    }
  where
    pending : (m : Message) → is_pending c m ≡ true → (m.session.0 == s.0) ≡ false → is_pending (without c s) m ≡ true
    pending m e ne =
        let live : is_live (without c s).live m.session ≡ true = live-without c.live s m.session ne (grind (arith, e)) in
        let same : state_of (without c s).rows m.session m.part ≡ state_of c.rows m.session m.part = state-without c.rows s m.session m.part ne in
        grind (arith, e, live, same)

    kept : (r : Row) → is_kept c r ≡ true → (r.session.0 == s.0) ≡ false → is_kept (without c s) r ≡ true
    kept r e ne =
        let live : is_live (without c s).live r.session ≡ true = live-without c.live s r.session ne (grind (arith, e)) in
        grind (arith, e, live)

pub count_without_all : (c : Cluster) (ss : List SessionId) → IsKept c → (p : PartId) (t : StateId) → count_of (without_all c ss) p t ≤ count_of c p t
count_without_all c [] k p t = omega arith
count_without_all c (s ∷ ss) k p t =
    let first = count_without c s k p t in
    let rest = count_without_all (without c s) ss (kept_without c s k) p t in
    omega (arith, first, rest)

pub count_end : (c : Cluster) (o : Option Live) → IsKept c → (p : PartId) (t : StateId) → count_of (ended_of c o) p t ≤ count_of c p t
count_end c None k p t = omega arith
count_end c (Some l) k p t = count_without c l.session k p t

-- a session that is heard of moves behind the others. No more pass a test that doesn't see beats
moved_fewer : (c : Cluster) (i : InstanceId) (l : Live) → live_of c.live i ≡ Some l → (p : Live → Bool) (b : Bool) → p l ≡ b → p (record l { beat = c.clock }) ≡ b
    → count p (filter (λ x. not (is_session l.session x)) c.live ++ (record l { beat = c.clock }) ∷ []) ≤ count p c.live
moved_fewer c i l found p true is at =
    let more = count-append p (filter (λ x. not (is_session l.session x)) c.live) ((record l { beat = c.clock }) ∷ []) in
    let less = count-removed p (is_of i) (λ x. not (is_session l.session x)) c.live l found (grind (arith, same-self l.session.0)) is in
    grind (arith, at, more, less)
moved_fewer c i l found p false is at =
    let more = count-append p (filter (λ x. not (is_session l.session x)) c.live) ((record l { beat = c.clock }) ∷ []) in
    let less = count-filter p (λ x. not (is_session l.session x)) c.live in
    grind (arith, at, more, less)

pub count_beat : (c : Cluster) (i : InstanceId) (l : Live) → live_of c.live i ≡ Some l → (p : PartId) (t : StateId)
    → count_of (beaten_of c (Some l)) p t ≤ count_of c p t
count_beat c i l found p t =
    let one = count-map (has_end c.rows c.mail p t) (λ (x : Live). x.session) (beaten_of c (Some l)).live in
    let two = count-map (has_end c.rows c.mail p t) (λ (x : Live). x.session) c.live in
    let less = moved_fewer c i l found (λ (x : Live). has_end c.rows c.mail p t x.session) (has_end c.rows c.mail p t l.session) refl refl in
    omega (arith, less, one, two)

pub kept_beat : (c : Cluster) (i : InstanceId) (l : Live) → IsKept c → live_of c.live i ≡ Some l → IsKept (beaten_of c (Some l))
kept_beat c i l k found =
    let d = beaten_of c (Some l) in
    record {
      mail = record {
        pending = all-le (is_pending c) (is_pending d) (λ m e. let live : is_live d.live m.session ≡ true = still m.session (is_session m.session l) refl (grind (arith, e)) in grind (arith, e, live)) c.mail k.mail.pending;
        numbers = k.mail.numbers;
        single = k.mail.single;
      };
      rows = record {
        kept = all-le (is_kept c) (is_kept d) (λ r e. let live : is_live d.live r.session ≡ true = still r.session (is_session r.session l) refl (grind (arith, e)) in grind (arith, e, live)) c.rows k.rows.kept;
        single = k.rows.single;
        flags = k.rows.flags;
      };
      numbers = λ u. let less = moved_fewer c i l found (is_session u) (is_session u l) refl refl in omega (arith, less, k.numbers u);
      below = rw all-append (grind (arith, all-filter (λ x. nat_lt x.session.0 c.next_session) others c.live k.below, all-find (λ x. nat_lt x.session.0 c.next_session) (is_of i) c.live l k.below found));
      sound = k.sound;
    }
  where
    others : Live → Bool
    others x = not (is_session l.session x)

    still : (u : SessionId) (b : Bool) → is_session u l ≡ b → is_live c.live u ≡ true → is_live (filter (λ x. not (is_session l.session x)) c.live ++ (record l { beat = c.clock }) ∷ []) u ≡ true
    still u true is e = rw any-append (grind (arith, is))
    still u false is e = rw any-append (grind (arith, any-filter_kept (is_session u) (λ x. not (is_session l.session x)) (λ x w. grind (arith, nat_tests, w, is)) c.live e))
