-- What each event keeps: the limits, the messages, the rows, and distinct sessions below the next number.
use Rattle.std.proofs.Common.{◌≡◌, ℕ, ◌+◌, ◌≤◌, ◌==◌, not, Bool, true, false, List, [], ◌∷◌, ◌++◌, filter, map, Option, Some, None, refl, sym, ap, ◌∙◌, subst, arith}
use Rattle.std.specs.Prelude.{if◌then◌else◌, nat_lt, slice_get, slice_set}
use Rattle.std.specs.List.{list_any, list_all}
use Rattle.std.proofs.lemmas.Bool.{cond_both}
use Rattle.std.proofs.lemmas.Bool.Decides.{nat_tests}
use Rattle.std.proofs.lemmas.List.{map-append}
use Rattle.hx_lists.specs.Lists.{count}
use Rattle.hx_ids.specs.declared.StateId.{StateId}
use Rattle.hx_ids.specs.declared.InstanceId.{InstanceId}
use Rattle.hx_ids.specs.declared.SessionId.{SessionId}
use Rattle.hx_ids.specs.declared.MsgId.{MsgId}
use Rattle.hx_ids.specs.declared.PassNo.{PassNo}
use Rattle.hx_ids.specs.declared.Epoch.{Epoch}
use Rattle.hx_ids.specs.declared.ControllerId.{ControllerId}
use Rattle.hx_ids.specs.declared.PartId.{PartId}
use Rattle.hx_ids.specs.declared.Live.{Live}
use Rattle.hx_cluster.specs.declared.state.Row.{Row}
use Rattle.hx_cluster.specs.declared.state.Message.{Message}
use Rattle.hx_cluster.specs.declared.state.Cluster.{Cluster}
use Rattle.hx_cluster.specs.declared.happenings.Seen.{Seen}
use Rattle.hx_cluster.specs.declared.happenings.Admin.TheVariants as steps
use Rattle.hx_cluster.specs.Ends.{is_row, is_message, is_session, is_live, sessions_of, has_end, count_of}
use Rattle.hx_cluster.specs.Steps.{after}
use Rattle.hx_cluster.specs.Messages.{raised_pass, next_pass, has_id, as_taken, after_take, after_ack}
use Rattle.hx_cluster.specs.Safe.{HasMail, HasRows, is_pending, is_kept}
use Rattle.hx_cluster.specs.Valid.{has_no_fault}
use Rattle.hx_safe.proofs.Counting.{count-append, count-le, count-filter, count-shown, count-none, any-append, all-append, all-le, all-map, all-filter, none-from-all, find-none}
use Rattle.hx_safe.proofs.Ends.{session_same, end-taken, end-filter}

pub record IsKept (c : Cluster) : Type 0 where
  pub mail : HasMail c
  pub rows : HasRows c
  pub numbers : (s : SessionId) → count (is_session s) c.live ≤ 1
  pub below : list_all (λ l. nat_lt l.session.0 c.next_session) c.live ≡ true
  pub sound : list_all has_no_fault c.models ≡ true

-- what they don't speak of may change
pub kept_beside : (c : Cluster) (instances : List Bool) (leader : Option ControllerId) (epoch : Epoch) (controllers : List (Bool × PassNo)) (clock : ℕ) (line : Option ℕ) (change : ℕ) (posted : List Seen)
    → IsKept c
    → IsKept (record c { instances = instances; leader = leader; epoch = epoch; controllers = controllers; clock = clock; line = line; change = change; posted = posted })
kept_beside c instances leader epoch controllers clock line change posted k = record {
  mail = record { pending = k.mail.pending; numbers = k.mail.numbers; single = k.mail.single };
  rows = record { kept = k.rows.kept; single = k.rows.single; flags = k.rows.flags };
  numbers = k.numbers;
  below = k.below;
  sound = k.sound;
}

pub kept_raised : (c : Cluster) (k : ControllerId) → IsKept c → IsKept (next_pass c k)
kept_raised c k h = one (slice_get c.controllers k.0)
  where
    one : (o : Option (Bool × PassNo)) → IsKept (raised_pass c k o)
    one None = h
    one (Some d) = kept_beside c c.instances c.leader c.epoch (slice_set c.controllers k.0 (d.0, record { 0 = d.1.0 + 1 })) c.clock c.line c.change c.posted h

-- a mark of a message leaves as many that pass a test that doesn't see it
pub count-marked : (p : Message → Bool) (s : SessionId) (id : MsgId) (f : Message → Message) → ((m : Message) → p (f m) ≡ p m) → (mail : List Message)
    → count p (map (λ m. if has_id s id m then f m else m) mail) ≡ count p mail
count-marked p s id f same mail = count-shown p (λ m. if has_id s id m then f m else m) (λ m. cond_both (has_id s id m) (f m) m (λ (x : Message). p x ≡ p m) (λ e. same m) (λ e. refl)) mail

-- a message that is taken has the ends that it had
pub count_take : (c : Cluster) (s : SessionId) (id : MsgId) (p : PartId) (t : StateId)
    → count_of (after_take c s id) p t ≤ count_of c p t
count_take c s id p t =
    count-le (has_end c.rows (map (as_taken s id) c.mail) p t) (has_end c.rows c.mail p t)
    (λ u w. rw (← end-taken c.mail s u id p t) w) (sessions_of c.live)

pub kept_take : (c : Cluster) (s : SessionId) (id : MsgId) → IsKept c → IsKept (after_take c s id)
kept_take c s id k = record {
  mail = record {
    pending = all-map (is_pending (after_take c s id)) (as_taken s id) c.mail ∙ all-le (is_pending c) (λ m. is_pending (after_take c s id) (as_taken s id m)) (λ m e. pending m (has_id s id m) e) c.mail k.mail.pending;
    numbers = λ n. omega (arith, k.mail.numbers n, count-marked (λ m. m.id.0 == n.0) s id (λ m. record m { taken = true }) (λ m. refl) c.mail);
    single = λ u q. omega (arith, k.mail.single u q, count-marked (is_message u q) s id (λ m. record m { taken = true }) (λ m. refl) c.mail);
  };
  rows = record { kept = k.rows.kept; single = k.rows.single; flags = k.rows.flags };
  numbers = k.numbers;
  below = k.below;
  sound = k.sound;
}
  where
    pending : (m : Message) (b : Bool) → is_pending c m ≡ true → is_pending c (if b then record m { taken = true } else m) ≡ true
    pending m true e = grind (arith, e)
    pending m false e = e

-- a message that is acknowledged takes its ends away
pub count_ack : (c : Cluster) (s : SessionId) (id : MsgId) → IsKept c → (p : PartId) (t : StateId)
    → count_of (after_ack c s id) p t ≤ count_of c p t
count_ack c s id k p t =
    let gone : Message → Bool = λ m. not (has_id s id m) in
    count-le (has_end c.rows (filter gone c.mail) p t) (has_end c.rows c.mail p t)
    (λ u w. grind (arith, w, end-filter gone c.mail u p t (k.mail.single u p))) (sessions_of c.live)

pub kept_ack : (c : Cluster) (s : SessionId) (id : MsgId) → IsKept c → IsKept (after_ack c s id)
kept_ack c s id k =
    let gone : Message → Bool = λ m. not (has_id s id m) in
    record {
      mail = record {
        pending = all-filter (is_pending c) gone c.mail k.mail.pending;
        numbers = λ n. let fewer = count-filter (λ m. m.id.0 == n.0) gone c.mail in omega (arith, k.mail.numbers n);
        single = λ u q. let fewer = count-filter (is_message u q) gone c.mail in omega (arith, k.mail.single u q);
      };
      rows = record { kept = k.rows.kept; single = k.rows.single; flags = k.rows.flags };
      numbers = k.numbers;
      below = k.below;
      sound = k.sound;
    }

-- each live number is below the next
pub number-below : (n : ℕ) (s : SessionId) (live : List Live) → list_all (λ l. nat_lt l.session.0 n) live ≡ true → is_live live s ≡ true → nat_lt s.0 n ≡ true
number-below n s [] a e = cc
number-below n s (l ∷ live) a e = grind (arith, nat_tests, a, e, number-below n s live)

-- a new number has no row, no message and no other session
pub fresh : (c : Cluster) → IsKept c → (s : SessionId) → s.0 ≡ c.next_session → is_live c.live s ≡ false
fresh c k s is = one (is_live c.live s) refl
  where
    one : (b : Bool) → is_live c.live s ≡ b → b ≡ false
    one true e = let low : nat_lt s.0 c.next_session ≡ true = number-below c.next_session s c.live k.below e in grind (arith, nat_tests, low, is)
    one false e = refl

pub fresh_end : (c : Cluster) → IsKept c → (s : SessionId) → s.0 ≡ c.next_session → (q : PartId) (t : StateId) → has_end c.rows c.mail q t s ≡ false
fresh_end c k s is q t =
    let none = fresh c k s is in
    let rows : list_any (is_row s q) c.rows ≡ false = none-from-all (is_kept c) (is_row s q) (λ r e. row r e (is_row s q r) refl) c.rows k.rows.kept in
    let mail : list_any (is_message s q) c.mail ≡ false = none-from-all (is_pending c) (is_message s q) (λ m e. message m e (is_message s q m) refl) c.mail k.mail.pending in
    rw (find-none (is_row s q) c.rows rows, find-none (is_message s q) c.mail mail) refl
  where
    row : (r : Row) → is_kept c r ≡ true → (b : Bool) → is_row s q r ≡ b → b ≡ false
    row r e true at = let live : is_live c.live r.session ≡ true = grind (arith, e) in
        let same = session_same r.session s (grind (arith, at)) in
        sym (subst (λ (u : SessionId). is_live c.live u ≡ true) same live) ∙ fresh c k s is
    row r e false at = refl

    message : (m : Message) → is_pending c m ≡ true → (b : Bool) → is_message s q m ≡ b → b ≡ false
    message m e true at = let live : is_live c.live m.session ≡ true = grind (arith, e) in
        let same = session_same m.session s (grind (arith, at)) in
        sym (subst (λ (u : SessionId). is_live c.live u ≡ true) same live) ∙ fresh c k s is
    message m e false at = refl

-- a session that joins has no ends
pub count_join : (c : Cluster) (i : InstanceId) → IsKept c → (p : PartId) (t : StateId) → count_of (after c (steps.Join i)) p t ≡ count_of c p t
count_join c i k p t =
    let s : SessionId = record { 0 = c.next_session } in
    let new : Live = record { session = s; instance = i; beat = c.clock } in
    let split : sessions_of (c.live ++ new ∷ []) ≡ sessions_of c.live ++ s ∷ [] = map-append (λ l. l.session) c.live (new ∷ []) in
    let none = fresh_end c k s refl p t in
    let more = count-append (has_end c.rows c.mail p t) (sessions_of c.live) (s ∷ []) in
    ap (count (has_end c.rows c.mail p t)) split ∙ more ∙ grind (arith, none)

pub kept_join : (c : Cluster) (i : InstanceId) → IsKept c → IsKept (after c (steps.Join i))
kept_join c i k =
    let s : SessionId = record { 0 = c.next_session } in
    let new : Live = record { session = s; instance = i; beat = c.clock } in
    record {
      mail = record {
        pending = all-le (is_pending c) _ (λ m e. rw any-append (grind (arith, e))) c.mail k.mail.pending;
        numbers = k.mail.numbers;
        single = k.mail.single;
      };
      rows = record {
        kept = all-le (is_kept c) _ (λ r e. rw any-append (grind (arith, e))) c.rows k.rows.kept;
        single = k.rows.single;
        flags = k.rows.flags;
      };
      numbers = λ u. let more = count-append (is_session u) c.live (new ∷ []) in numbers u (s.0 == u.0) refl more;
      below = rw all-append (grind (arith, nat_tests, all-le (λ l. nat_lt l.session.0 c.next_session) (λ l. nat_lt l.session.0 (c.next_session + 1)) (λ l e. grind (arith, nat_tests, e)) c.live k.below));
      sound = k.sound;
    }
  where
    numbers : (u : SessionId) (b : Bool) → (c.next_session == u.0) ≡ b → {n : ℕ}
        → n ≡ count (is_session u) c.live + count (is_session u) ((record { session = record { 0 = c.next_session }; instance = i; beat = c.clock }) ∷ []) → n ≤ 1
    numbers u true is more =
        let none : count (is_session u) c.live ≡ 0 = count-none (is_session u) c.live (fresh c k u (grind (arith, nat_tests, is))) in grind (arith, none, more)
    numbers u false is more = grind (arith, is, k.numbers u, more)
