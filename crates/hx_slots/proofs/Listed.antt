-- What the counts need of a cluster, and how they change where one replica's ends do.
use Rattle.std.proofs.Common.{◌≡◌, ◌+◌, ◌≤◌, ◌&&◌, ◌||◌, ◌==◌, Bool, true, false, List, filter, find, Option, Some, None, refl, ap, subst, arith}
use Rattle.std.specs.Prelude.{if◌then◌else◌}
use Rattle.std.specs.List.{list_all}
use Rattle.std.specs.Option.{option_map}
use Rattle.std.proofs.lemmas.Bool.Decides.{nat_tests}
use Rattle.hx_lists.specs.Lists.{count}
use Rattle.hx_ids.specs.declared.StateId.{StateId}
use Rattle.hx_ids.specs.declared.SessionId.{SessionId}
use Rattle.hx_ids.specs.declared.MsgId.{MsgId}
use Rattle.hx_ids.specs.declared.PartId.{PartId}
use Rattle.hx_ids.specs.declared.Live.{Live}
use Rattle.hx_cluster.specs.declared.state.Row.{Row}
use Rattle.hx_cluster.specs.declared.state.Message.{Message}
use Rattle.hx_cluster.specs.declared.state.Cluster.{Cluster}
use Rattle.hx_cluster.specs.Ends.{part_eq, is_row, is_message, is_session, is_live, sessions_of, row_of, message_of, state_of, message_at, has_end, count_over, count_of}
use Rattle.hx_cluster.specs.Events.{has_part}
use Rattle.hx_cluster.specs.Safe.{is_pending, is_kept}
use Rattle.hx_cluster.specs.Valid.{has_no_fault}
use Rattle.hx_safe.proofs.Counting.{count-filter, count-map, all-le, all-filter, all-find, find-passes}
use Rattle.hx_safe.proofs.Ends.{session_same, part_same, row_at-state}
use Rattle.hx_safe.proofs.Kept.{IsKept}
use Rattle.hx_slots.specs.Tallies.{stands_at}
use Rattle.hx_slots.proofs.Single.{count-same, count-one}

-- rows and messages are of live sessions and of parts that are there; sessions, and the numbers of messages, are distinct; a session
-- has at most one message of a part; and models have no faults
abbrev pub is_message_listed : Cluster → Message → Bool
is_message_listed c m = is_live c.live m.session && has_part c m.part

abbrev pub is_row_listed : Cluster → Row → Bool
is_row_listed c r = is_live c.live r.session && has_part c r.part

pub record IsListed (c : Cluster) : Type 0 where
  pub sessions : (s : SessionId) → count (is_session s) c.live ≤ 1
  pub numbers : (id : MsgId) → count (λ m. m.id.0 == id.0) c.mail ≤ 1
  pub single : (s : SessionId) (p : PartId) → count (is_message s p) c.mail ≤ 1
  pub mail : list_all (is_message_listed c) c.mail ≡ true
  pub rows : list_all (is_row_listed c) c.rows ≡ true
  pub sound : list_all has_no_fault c.models ≡ true

pub listed_kept : (c : Cluster) → IsKept c → IsListed c
listed_kept c k = record {
  sessions = k.numbers;
  numbers = k.mail.numbers;
  single = k.mail.single;
  mail = all-le (is_pending c) (is_message_listed c) (λ m e. grind (arith, e)) c.mail k.mail.pending;
  rows = all-le (is_kept c) (is_row_listed c) (λ r e. grind (arith, e)) c.rows k.rows.kept;
  sound = k.sound;
}

-- messages and rows that are taken out leave the others listed
pub listed_unsent : (c : Cluster) (k : Message → Bool) → IsListed c → IsListed (record c { mail = filter k c.mail })
listed_unsent c k h = record {
  sessions = h.sessions;
  numbers = λ id. let fewer = count-filter (λ m. m.id.0 == id.0) k c.mail in omega (arith, h.numbers id);
  single = λ s p. let fewer = count-filter (is_message s p) k c.mail in omega (arith, h.single s p);
  mail = all-filter (is_message_listed c) k c.mail h.mail;
  rows = h.rows;
  sound = h.sound;
}

pub listed_row_gone : (c : Cluster) (k : Row → Bool) → IsListed c → IsListed (record c { rows = filter k c.rows })
listed_row_gone c k h = record {
  sessions = h.sessions;
  numbers = h.numbers;
  single = h.single;
  mail = h.mail;
  rows = all-filter (is_row_listed c) k c.rows h.rows;
  sound = h.sound;
}

-- whether a state is an end, by the replica's state and its message
pub end-is : (rows : List Row) (mail : List Message) (p : PartId) (t : StateId) (s : SessionId)
    → has_end rows mail p t s ≡ (stands_at t (state_of rows s p) || message_at t (message_of mail s p))
end-is rows mail p t s = ap (λ (b : Bool). b || message_at t (message_of mail s p)) (row_at-state t rows s p)

-- the same number of sessions has a state among the ends where the ends are the same
pub count_alike : (live : List SessionId) (rows new_rows : List Row) (mail new_mail : List Message) (p : PartId) (t : StateId)
    → ((u : SessionId) → has_end new_rows new_mail p t u ≡ has_end rows mail p t u)
    → count_over live new_rows new_mail p t ≡ count_over live rows mail p t
count_alike live rows new_rows mail new_mail p t h = count-same (has_end new_rows new_mail p t) (has_end rows mail p t) h live

-- where the ends of one session's replica alone change, the number changes by what this one has
here_changed : (c : Cluster) (rows : List Row) (mail : List Message) (s : SessionId) (p : PartId) (t : StateId)
    → IsListed c → is_live c.live s ≡ true
    → ((u : SessionId) → (u.0 == s.0) ≡ false → has_end c.rows c.mail p t u ≡ has_end rows mail p t u)
    → count_over (sessions_of c.live) rows mail p t + (if has_end c.rows c.mail p t s then 1 else 0) ≡ count_of c p t + (if has_end rows mail p t s then 1 else 0)
here_changed c rows mail s p t k live others =
    let old = count-map (has_end c.rows c.mail p t) (λ (l : Live). l.session) c.live in
    let new = count-map (has_end rows mail p t) (λ (l : Live). l.session) c.live in
    let change = count-one (λ (l : Live). has_end c.rows c.mail p t l.session) (λ (l : Live). has_end rows mail p t l.session) (is_session s)
    (has_end c.rows c.mail p t s) (has_end rows mail p t s)
    (λ l e. others l.session e)
    (λ l e. ap (has_end c.rows c.mail p t) (session_same l.session s e))
    (λ l e. ap (has_end rows mail p t) (session_same l.session s e))
    c.live (k.sessions s) live in
    omega (arith, old, new, change)

pub count_changed : (c : Cluster) (rows : List Row) (mail : List Message) (s : SessionId) (q : PartId)
    → IsListed c → is_live c.live s ≡ true
    → ((u : SessionId) (p : PartId) (t : StateId) → ((u.0 == s.0) && part_eq p q) ≡ false → has_end c.rows c.mail p t u ≡ has_end rows mail p t u)
    → (p : PartId) (t : StateId)
    → count_over (sessions_of c.live) rows mail p t + (if part_eq q p && has_end c.rows c.mail q t s then 1 else 0)
    ≡ count_of c p t + (if part_eq q p && has_end rows mail q t s then 1 else 0)
count_changed c rows mail s q k live others p t = one (part_eq q p) refl
  where
    turn : part_eq q p ≡ false → (u : SessionId) → ((u.0 == s.0) && part_eq p q) ≡ false
    turn e u = grind (arith, nat_tests, e)

    apart : (u : SessionId) → (u.0 == s.0) ≡ false → ((u.0 == s.0) && part_eq q q) ≡ false
    apart u e = grind (arith, e)

    one : (b : Bool) → part_eq q p ≡ b
        → count_over (sessions_of c.live) rows mail p t + (if b && has_end c.rows c.mail q t s then 1 else 0)
        ≡ count_of c p t + (if b && has_end rows mail q t s then 1 else 0)
    one true is =
        let P : PartId → Type 0 = λ r. count_over (sessions_of c.live) rows mail r t + (if has_end c.rows c.mail q t s then 1 else 0)
        ≡ count_of c r t + (if has_end rows mail q t s then 1 else 0) in
        subst P (part_same q p is) (here_changed c rows mail s q t k live (λ u e. others u q t (apart u e)))
    one false is =
        let same = count_alike (sessions_of c.live) rows c.rows mail c.mail p t (λ u. others u p t (turn is u)) in
        omega (arith, same)

-- the session of a row or a message is live
pub row_live : (c : Cluster) (s : SessionId) (p : PartId) (t : StateId) → IsListed c → state_of c.rows s p ≡ Some t → is_live c.live s ≡ true
row_live c s p t k e = one (row_of c.rows s p) refl e
  where
    here : (r : Row) → is_live c.live r.session ≡ true → is_row s p r ≡ true → is_live c.live s ≡ true
    here r live at = subst (λ (u : SessionId). is_live c.live u ≡ true) (session_same r.session s (grind (arith, at))) live

    one : (o : Option Row) → row_of c.rows s p ≡ o → option_map (λ r. r.state) o ≡ Some t → is_live c.live s ≡ true
    one None is e = cc
    one (Some r) is e =
        let found = all-find (is_row_listed c) (is_row s p) c.rows r k.rows is in
        here r (grind (arith, found)) (find-passes (is_row s p) c.rows r is)

pub message_live : (c : Cluster) (q : Message → Bool) (m : Message) → IsListed c → find q c.mail ≡ Some m → is_live c.live m.session ≡ true
message_live c q m k e = let found = all-find (is_message_listed c) q c.mail m k.mail e in grind (arith, found)
