-- An outcome that is written.
use Rattle.std.proofs.Common.{◌≡◌, ℕ, ◌≤◌, ◌||◌, ◌&&◌, ◌==◌, not, Bool, true, false, List, ◌∷◌, length, filter, map, Option, Some, None, refl, sym, ap, ◌∙◌, subst, arith}
use Rattle.std.specs.Prelude.{is_none, if◌then◌else◌}
use Rattle.std.specs.List.{list_any, list_all}
use Rattle.std.proofs.lemmas.Bool.Decides.{nat_tests}
use Rattle.hx_lists.specs.Lists.{count, insert_by}
use Rattle.hx_ids.specs.declared.StateId.{StateId}
use Rattle.hx_ids.specs.declared.SessionId.{SessionId}
use Rattle.hx_ids.specs.declared.MsgId.{MsgId}
use Rattle.hx_ids.specs.declared.PartId.{PartId}
use Rattle.hx_model.specs.declared.Bound.{Bound}
use Rattle.hx_model.specs.Model.{limit_of, is_legal, has_state, error, dropped}
use Rattle.hx_cluster.specs.declared.state.Row.{Row}
use Rattle.hx_cluster.specs.declared.state.Message.{Message}
use Rattle.hx_cluster.specs.declared.state.Cluster.{Cluster}
use Rattle.hx_cluster.specs.declared.happenings.Outcome.{Outcome}
use Rattle.hx_cluster.specs.declared.happenings.Outcome.TheVariants as outcomes
use Rattle.hx_cluster.specs.declared.happenings.WriteRefusal.TheVariants as writes
use Rattle.hx_cluster.specs.Ends.{part_eq, is_row, is_message, is_live, sessions_of, message_of, state_of, message_at, has_end, count_of, limit_at, model_of, replicas_of}
use Rattle.hx_cluster.specs.Steps.{is_flag, is_error}
use Rattle.hx_cluster.specs.Messages.{has_id, pending_of, as_written, row_before, restated, row_put, state_after, flags_after, written_of, after_write}
use Rattle.hx_cluster.specs.Marks.{write_fault}
use Rattle.hx_cluster.specs.Events.{has_part, can_write}
use Rattle.hx_cluster.specs.Safe.{is_row_written, HasMail, is_pending, is_kept}
use Rattle.hx_safe.proofs.Counting.{count-le, count-filter, count-map, count-none, count-insert, all-le, all-map, all-filter, all-filter_more, all-insert, all-both, all-find, all-single, find-passes, find-single}
use Rattle.hx_safe.proofs.Models.{good_model}
use Rattle.hx_safe.proofs.Ends.{session_same, part_same, same-self, part_eq-self, row_at-state, stands_at, put-other, put-here, end-written}
use Rattle.hx_safe.proofs.Kept.{IsKept, count-marked}

-- the message that is written is its replica's only one
pub message_here : (c : Cluster) (s : SessionId) (id : MsgId) (m : Message) → HasMail c → pending_of c s id ≡ Some m → message_of c.mail m.session m.part ≡ Some m
message_here c s id m k found =
    find-single (has_id s id) (is_message m.session m.part) c.mail m found (grind (arith, same-self m.session.0, part_eq-self m.part)) (k.single m.session m.part)

-- and no other message has its number
pub alone : (c : Cluster) (s : SessionId) (id : MsgId) (m : Message) → HasMail c → pending_of c s id ≡ Some m → list_all (λ x. not (has_id s id x) || is_message m.session m.part x) c.mail ≡ true
alone c s id m k found =
    let one : count (has_id s id) c.mail ≤ 1 = omega (arith, k.numbers id, count-le (has_id s id) (λ x. x.id.0 == id.0) (λ x e. grind (arith, e)) c.mail) in
    all-single (has_id s id) (is_pending c) (λ x. not (has_id s id x) || is_message m.session m.part x) c.mail m (λ x e w. grind (arith, e)) found one (grind (arith, same-self m.session.0, part_eq-self m.part)) k.pending

-- its replica is in its place
pub written_place : (rows : List Row) (m : Message) (outcome : Outcome) → is_row_written m (state_of (row_put rows m.session m.part (state_after m outcome)) m.session m.part) ≡ true
written_place rows m outcomes.Ok = rw put-here (one (m.to.0 == dropped.0) refl)
  where
    one : (b : Bool) → (m.to.0 == dropped.0) ≡ b → is_row_written m (if b then None else Some m.to) ≡ true
    one true is = is
    one false is = grind (arith, same-self m.to.0)
written_place rows m outcomes.Failed = rw put-here (grind (arith, nat_tests))

-- a limited state that it brings is the one that the message led to
written_end : (c : Cluster) (m : Message) (outcome : Outcome) (t : StateId) (limit : ℕ) → IsKept c → message_of c.mail m.session m.part ≡ Some m → limit_at c m.part t ≡ Some limit
    → stands_at t (state_of (row_put c.rows m.session m.part (state_after m outcome)) m.session m.part) ≡ true → message_at t (message_of c.mail m.session m.part) ≡ true
written_end c m outcome t limit k here e w = one outcome (subst (λ o. stands_at t o ≡ true) (put-here c.rows m.session m.part (state_after m outcome)) w)
  where
    free : (0 == t.0) ≡ true → limit_at c m.part t ≡ None
    free at =
        let good = good_model c.models c.resources m.part.resource k.sound in
        ap (λ (b : Bound). limit_of b (replicas_of c.resources m.part.resource) (length c.live)) (good.reserved t (grind (arith, nat_tests, at)))

    gone : (b : Bool) → stands_at t (if b then None else Some m.to) ≡ true → message_at t (Some m) ≡ true
    gone true w = cc
    gone false w = grind (arith, w)

    one : (outcome : Outcome) → stands_at t (if (state_after m outcome).0 == dropped.0 then None else Some (state_after m outcome)) ≡ true → message_at t (message_of c.mail m.session m.part) ≡ true
    one outcomes.Ok w = rw here (gone (m.to.0 == dropped.0) w)
    one outcomes.Failed w = let both = sym (free (grind (arith, nat_tests, w))) ∙ e in cc

written_less : (c : Cluster) (m : Message) (outcome : Outcome) (p : PartId) (t : StateId) (limit : ℕ) → IsKept c → message_of c.mail m.session m.part ≡ Some m
    → limit_at c p t ≡ Some limit → (u : SessionId) (b : Bool) → ((u.0 == m.session.0) && part_eq p m.part) ≡ b
    → stands_at t (state_of (row_put c.rows m.session m.part (state_after m outcome)) u p) ≡ true → has_end c.rows c.mail p t u ≡ true
written_less c m outcome p t limit k here e u true is w =
    let st = state_after m outcome in
    let one = sym (session_same u m.session (grind (arith, is))) in
    let two = sym (part_same p m.part (grind (arith, is))) in
    let P : SessionId → PartId → Type 0 = λ u p. limit_at c p t ≡ Some limit → stands_at t (state_of (row_put c.rows m.session m.part st) u p) ≡ true → message_at t (message_of c.mail u p) ≡ true in
    let there : message_at t (message_of c.mail u p) ≡ true = subst (λ (v : SessionId). P v p) one (subst (λ (q : PartId). P m.session q) two (λ e w. written_end c m outcome t limit k here e w)) e w in
    grind (arith, there)
written_less c m outcome p t limit k here e u false is w =
    let old = sym (ap (stands_at t) (put-other c.rows m.session u m.part p (state_after m outcome) is)) ∙ w in
    let row = row_at-state t c.rows u p ∙ old in
    grind (arith, row)

-- a row that is put is the row of a live session, and one for its replica
put_kept : (c : Cluster) (s : SessionId) (p : PartId) (st : StateId) → is_live c.live s ≡ true → has_part c p ≡ true
    → (has_state (model_of c.models c.resources p.resource) st || (st.0 == error.0) || (st.0 == dropped.0)) ≡ true → list_all (is_kept c) c.rows ≡ true
    → list_all (is_kept c) (row_put c.rows s p st) ≡ true
put_kept c s p st live part ok all = one (st.0 == dropped.0) refl (list_any (is_row s p) c.rows) refl
  where
    new : (st.0 == dropped.0) ≡ false → is_kept c (record { session = s; part = p; state = st }) ≡ true
    new is = grind (arith, is, live, part, ok)

    each : (st.0 == dropped.0) ≡ false → (r : Row) (b : Bool) → is_row s p r ≡ b → is_kept c r ≡ true → is_kept c (if b then record r { state = st } else r) ≡ true
    each is r true at e =
        let one = sym (session_same r.session s (grind (arith, at))) in
        let two = sym (part_same r.part p (grind (arith, at))) in
        subst (λ (u : SessionId). is_kept c (record { session = u; part = r.part; state = st }) ≡ true) one (subst (λ (q : PartId). is_kept c (record { session = s; part = q; state = st }) ≡ true) two (new is))
    each is r false at e = e

    one : (b : Bool) → (st.0 == dropped.0) ≡ b → (d : Bool) → list_any (is_row s p) c.rows ≡ d
        → list_all (is_kept c) (if b then filter (λ r. not (is_row s p r)) c.rows else if d then map (restated s p st) c.rows else insert_by row_before (record { session = s; part = p; state = st }) c.rows) ≡ true
    one true is d there = all-filter (is_kept c) (λ r. not (is_row s p r)) c.rows all
    one false is true there = all-map (is_kept c) (restated s p st) c.rows ∙ all-le (is_kept c) (λ r. is_kept c (restated s p st r)) (λ r e. each is r (is_row s p r) refl e) c.rows all
    one false is false there = all-insert (is_kept c) row_before (record { session = s; part = p; state = st }) c.rows ∙ grind (arith, new is, all)

put_single : (rows : List Row) (s u : SessionId) (p q : PartId) (st : StateId) → count (is_row u q) rows ≤ 1 → count (is_row u q) (row_put rows s p st) ≤ 1
put_single rows s u p q st old = one (st.0 == dropped.0) (list_any (is_row s p) rows) refl
  where
    each : (r : Row) (b : Bool) → is_row u q (if b then record r { state = st } else r) ≡ true → is_row u q r ≡ true
    each r true e = e
    each r false e = e

    put : (b : Bool) → is_row u q (record { session = s; part = p; state = st }) ≡ b → list_any (is_row s p) rows ≡ false
        → count (is_row u q) ((record { session = s; part = p; state = st }) ∷ rows) ≤ 1
    put true is there =
        let less = count-le (is_row u q) (is_row s p) (λ r e. grind (arith, nat_tests, e, is)) rows in
        let none = count-none (is_row s p) rows there in
        grind (arith, is, less, none)
    put false is there = grind (arith, is, old)

    one : (b d : Bool) → list_any (is_row s p) rows ≡ d
        → count (is_row u q) (if b then filter (λ r. not (is_row s p r)) rows else if d then map (restated s p st) rows else insert_by row_before (record { session = s; part = p; state = st }) rows) ≤ 1
    one true d there = omega (arith, old, count-filter (is_row u q) (λ r. not (is_row s p r)) rows)
    one false true there =
        let same = count-map (is_row u q) (restated s p st) rows in
        let less = count-le (λ r. is_row u q (restated s p st r)) (is_row u q) (λ r e. each r (is_row s p r) e) rows in
        omega (arith, old)
    one false false there = rw count-insert (put (is_row u q (record { session = s; part = p; state = st })) refl there)

-- a flag that stays names a row in ERROR
put_flags : (c : Cluster) (m : Message) (outcome : Outcome) → list_all (λ f. is_error (state_of c.rows f.0 f.1)) c.resets ≡ true
    → list_all (λ f. is_error (state_of (row_put c.rows m.session m.part (state_after m outcome)) f.0 f.1)) (flags_after c.resets m outcome) ≡ true
put_flags c m outcomes.Ok all = all-filter_more (λ f. is_error (state_of c.rows f.0 f.1)) (λ f. is_error (state_of (row_put c.rows m.session m.part m.to) f.0 f.1)) (λ f. not (is_flag m.session m.part f))
    (λ f e other. ap is_error (put-other c.rows m.session f.0 m.part f.1 m.to (grind (arith, nat_tests, other))) ∙ e) c.resets all
put_flags c m outcomes.Failed all = all-le (λ f. is_error (state_of c.rows f.0 f.1)) (λ f. is_error (state_of (row_put c.rows m.session m.part error) f.0 f.1)) (λ f e. one f.0 f.1 ((f.0.0 == m.session.0) && part_eq f.1 m.part) refl e) c.resets all
  where
    one : (u : SessionId) (p : PartId) (b : Bool) → ((u.0 == m.session.0) && part_eq p m.part) ≡ b → is_error (state_of c.rows u p) ≡ true
        → is_error (state_of (row_put c.rows m.session m.part error) u p) ≡ true
    one u p true is e =
        let two = sym (session_same u m.session (grind (arith, is))) in
        let three = sym (part_same p m.part (grind (arith, is))) in
        let P : SessionId → PartId → Type 0 = λ u p. is_error (state_of (row_put c.rows m.session m.part error) u p) ≡ true in
        subst (λ (v : SessionId). P v p) two (subst (λ (q : PartId). P m.session q) three (ap is_error (put-here c.rows m.session m.part error)))
    one u p false is e = ap is_error (put-other c.rows m.session u m.part p error is) ∙ e

-- where an outcome puts the replica is a state of its model, or ERROR, or DROPPED
after_known : (c : Cluster) (m : Message) (outcome : Outcome) → IsKept c → is_legal (model_of c.models c.resources m.part.resource) m.from m.to ≡ true
    → (has_state (model_of c.models c.resources m.part.resource) (state_after m outcome) || ((state_after m outcome).0 == error.0) || ((state_after m outcome).0 == dropped.0)) ≡ true
after_known c m outcomes.Ok k legal = let good = good_model c.models c.resources m.part.resource k.sound in let to = good.leads m.from m.to legal in grind (arith, to)
after_known c m outcomes.Failed k legal = grind (arith, nat_tests)

-- so a write leaves no more ends in a limited state
count_written : (c : Cluster) (s : SessionId) (id : MsgId) (m : Message) (outcome : Outcome) → IsKept c → pending_of c s id ≡ Some m → (p : PartId) (t : StateId) (limit : ℕ)
    → limit_at c p t ≡ Some limit → count_of (written_of c s id outcome (Some m)) p t ≤ count_of c p t
count_written c s id m outcome k found p t limit e =
    let d = written_of c s id outcome (Some m) in
    count-le (has_end d.rows d.mail p t) (has_end c.rows c.mail p t)
    (λ u w. ends (message_here c s id m k.mail found) u (stands_at t (state_of d.rows u p)) refl w) (sessions_of c.live)
  where
    ends : message_of c.mail m.session m.part ≡ Some m → (u : SessionId) (b : Bool)
        → stands_at t (state_of (row_put c.rows m.session m.part (state_after m outcome)) u p) ≡ b
        → has_end (row_put c.rows m.session m.part (state_after m outcome)) (map (as_written s id) c.mail) p t u ≡ true → has_end c.rows c.mail p t u ≡ true
    ends here u true is w = written_less c m outcome p t limit k here e u ((u.0 == m.session.0) && part_eq p m.part) refl is
    ends here u false is w = let row = row_at-state t (row_put c.rows m.session m.part (state_after m outcome)) u p in grind (arith, w, is, row, end-written c.mail s u id p t)

pub count_write : (c : Cluster) (s : SessionId) (id : MsgId) (outcome : Outcome) → IsKept c → (p : PartId) (t : StateId) (limit : ℕ)
    → limit_at c p t ≡ Some limit → count_of (after_write c s id outcome) p t ≤ count_of c p t
count_write c s id outcome k p t limit e = one (pending_of c s id) refl
  where
    one : (o : Option Message) → pending_of c s id ≡ o → count_of (written_of c s id outcome o) p t ≤ count_of c p t
    one None is = omega arith
    one (Some m) is = count_written c s id m outcome k is p t limit e

kept_written : (c : Cluster) (s : SessionId) (id : MsgId) (m : Message) (outcome : Outcome) → IsKept c → pending_of c s id ≡ Some m → m.taken ≡ true → IsKept (written_of c s id outcome (Some m))
kept_written c s id m outcome k found taken =
    let d = written_of c s id outcome (Some m) in
    let was : is_pending c m ≡ true = all-find (is_pending c) (has_id s id) c.mail m k.mail.pending found in
    let here = message_here c s id m k.mail found in
    record {
      mail = record {
        pending = all-map (is_pending d) (as_written s id) c.mail ∙ all-single (is_message m.session m.part) (λ x. is_pending c x && (not (has_id s id x) || is_message m.session m.part x)) (λ x. is_pending d (as_written s id x)) c.mail m
            (λ x e w. other x (has_id s id x) refl e w) here (k.mail.single m.session m.part) (this was (has_id s id m) (find-passes (has_id s id) c.mail m found)) (all-both (is_pending c) (λ x. not (has_id s id x) || is_message m.session m.part x) c.mail k.mail.pending (alone c s id m k.mail found));
        numbers = λ n. omega (arith, k.mail.numbers n, count-marked (λ x. x.id.0 == n.0) s id (λ x. record x { written = true }) (λ x. refl) c.mail);
        single = λ u q. omega (arith, k.mail.single u q, count-marked (is_message u q) s id (λ x. record x { written = true }) (λ x. refl) c.mail);
      };
      rows = record {
        kept = put_kept c m.session m.part (state_after m outcome) (grind (arith, was)) (grind (arith, was)) (after_known c m outcome k (grind (arith, was))) k.rows.kept;
        single = λ u q. put_single c.rows m.session u m.part q (state_after m outcome) (k.rows.single u q);
        flags = put_flags c m outcome k.rows.flags;
      };
      numbers = k.numbers;
      below = k.below;
      sound = k.sound;
    }
  where
    this : is_pending c m ≡ true → (b : Bool) → b ≡ true → is_pending (written_of c s id outcome (Some m)) (if b then record m { written = true } else m) ≡ true
    this was true e = let place = written_place c.rows m outcome in grind (arith, was, taken, place)
    this was false e = cc

    other : (x : Message) (b : Bool) → has_id s id x ≡ b → is_message m.session m.part x ≡ false → (is_pending c x && (not b || is_message m.session m.part x)) ≡ true
        → is_pending (written_of c s id outcome (Some m)) (if b then record x { written = true } else x) ≡ true
    other x true at e w = absurd (grind (arith, e, w))
    other x false at e w =
        let same : state_of (row_put c.rows m.session m.part (state_after m outcome)) x.session x.part ≡ state_of c.rows x.session x.part = put-other c.rows m.session x.session m.part x.part (state_after m outcome) (grind (arith, nat_tests, e)) in
        grind (arith, w, same)

-- a message whose outcome may be written was taken, and isn't written
pub taken_unwritten : (live taken written : Bool)
    → is_none (if live then (if not taken then Some writes.NotTaken else if written then Some writes.AlreadyWritten else None) else Some writes.SessionEnded) ≡ true
    → (taken ≡ true) × (written ≡ false)
taken_unwritten false taken written e = cc
taken_unwritten true false written e = cc
taken_unwritten true true true e = cc
taken_unwritten true true false e = (refl, refl)

pub kept_write : (c : Cluster) (s : SessionId) (id : MsgId) (outcome : Outcome) → IsKept c → can_write c s id ≡ true → IsKept (after_write c s id outcome)
kept_write c s id outcome k can = one (is_live c.live s) (pending_of c s id) refl can
  where
    one : (live : Bool) (o : Option Message) → pending_of c s id ≡ o → is_none (if live then write_fault o else Some writes.SessionEnded) ≡ true
        → IsKept (written_of c s id outcome o)
    one live None is e = k
    one live (Some m) is e = kept_written c s id m outcome k is (taken_unwritten live m.taken m.written e).0
