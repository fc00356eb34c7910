-- The numbers as rows are put and taken out.
use Rattle.std.proofs.Common.{◌≡◌, ℕ, ◌+◌, ◌-◌, ◌&&◌, ◌||◌, ◌==◌, not, Bool, true, false, List, filter, Option, Some, None, refl, sym, ap, ◌∙◌, subst, arith}
use Rattle.std.specs.Prelude.{if◌then◌else◌, is_none, unwrap_or}
use Rattle.std.specs.Option.{option_map}
use Rattle.std.proofs.lemmas.Bool.Decides.{nat_tests}
use Rattle.hx_ids.specs.declared.StateId.{StateId}
use Rattle.hx_ids.specs.declared.SessionId.{SessionId}
use Rattle.hx_ids.specs.declared.MsgId.{MsgId}
use Rattle.hx_ids.specs.declared.PartId.{PartId}
use Rattle.hx_model.specs.declared.Bound.{Bound}
use Rattle.hx_model.specs.Model.{error, dropped}
use Rattle.hx_counts.specs.Tally.{Numbers, ends_of, loads_of}
use Rattle.hx_cluster.specs.declared.state.Row.{Row}
use Rattle.hx_cluster.specs.declared.state.Message.{Message}
use Rattle.hx_cluster.specs.declared.state.Cluster.{Cluster}
use Rattle.hx_cluster.specs.declared.happenings.Outcome.{Outcome}
use Rattle.hx_cluster.specs.declared.happenings.Outcome.TheVariants as outcomes
use Rattle.hx_cluster.specs.declared.happenings.WriteRefusal.TheVariants as writes
use Rattle.hx_cluster.specs.Ends.{part_eq, is_row, is_message, is_live, sessions_of, message_of, state_of, message_at, has_end, count_over, count_of}
use Rattle.hx_cluster.specs.Messages.{has_id, pending_of, row_put, initial_of, standing_of, state_after, written_of, after_write}
use Rattle.hx_cluster.specs.Marks.{write_fault}
use Rattle.hx_cluster.specs.Events.{can_write}
use Rattle.hx_cluster.specs.Safe.{is_row_written, is_pending}
use Rattle.hx_safe.proofs.Counting.{all-find}
use Rattle.hx_safe.proofs.Models.{state_same, good_model}
use Rattle.hx_safe.proofs.Ends.{part_same, same-self, find-filter_kept, find-filter_none, put-other, put-here}
use Rattle.hx_safe.proofs.Kept.{IsKept}
use Rattle.hx_safe.proofs.Writing.{taken_unwritten}
use Rattle.hx_slots.specs.Tallies.{is_free, is_limited, stands_at, IsRowLowered, IsUnchanged, IsCounted, IsLeft, IsPut}
use Rattle.hx_slots.proofs.Listed.{IsListed, listed_kept, end-is, count_changed, row_live, message_live}
use Rattle.hx_slots.proofs.Sent.{kept_less, message_there, counted_marked}

-- ERROR has no limit
pub error_free : (c : Cluster) (p : PartId) → IsListed c → is_limited c.models c.resources p error ≡ false
error_free c p k = let good = good_model c.models c.resources p.resource k.sound in ap (λ (b : Bound). not (is_free b)) (good.reserved error (grind (arith, nat_tests)))

-- one replica's row is put: the ends of others stay
ends-beside : (rows new : List Row) (mail : List Message) (u : SessionId) (p : PartId) (t : StateId) → state_of new u p ≡ state_of rows u p → has_end rows mail p t u ≡ has_end new mail p t u
ends-beside rows new mail u p t same =
    end-is rows mail p t u ∙ ap (λ (o : Option StateId). stands_at t o || message_at t (message_of mail u p)) (sym same) ∙ sym (end-is new mail p t u)

-- where a message is pending, a limited state that is put is one of its ends
ends-put : (c : Cluster) (m : Message) (n : StateId) → IsListed c → message_of c.mail m.session m.part ≡ Some m
    → (not (is_limited c.models c.resources m.part n) || message_at n (Some m)) ≡ true
    → (p : PartId) (t : StateId) → is_limited c.models c.resources p t ≡ true
    → count_over (sessions_of c.live) (row_put c.rows m.session m.part n) c.mail p t
    + (if part_eq m.part p && (stands_at t (state_of c.rows m.session m.part) && not (message_at t (Some m))) then 1 else 0)
    ≡ count_of c p t
ends-put c m n k found okay p t limited =
    let change = count_changed c put c.mail m.session m.part k (message_live c (is_message m.session m.part) m k found)
    (λ u q t ne. ends-beside c.rows put c.mail u q t (put-other c.rows m.session u m.part q n ne)) p t in
    let old : has_end c.rows c.mail m.part t m.session ≡ (stands_at t has || message_at t (Some m))
    = end-is c.rows c.mail m.part t m.session ∙ ap (λ (o : Option Message). stands_at t has || message_at t o) found in
    let new : has_end put c.mail m.part t m.session ≡ (stands_at t (if n.0 == dropped.0 then None else Some n) || message_at t (Some m))
    = end-is put c.mail m.part t m.session
    ∙ ap (λ (o : Option StateId). stands_at t o || message_at t (message_of c.mail m.session m.part)) (put-here c.rows m.session m.part n)
    ∙ ap (λ (o : Option Message). stands_at t (if n.0 == dropped.0 then None else Some n) || message_at t o) found in
    less (part_eq m.part p) (stands_at t has) (stands_at t (if n.0 == dropped.0 then None else Some n)) (message_at t (Some m)) _ _ _ _ old new
    (λ same at. covered same (n.0 == dropped.0) at) change
  where
    has : Option StateId
    has = state_of c.rows m.session m.part

    put : List Row
    put = row_put c.rows m.session m.part n

    or_second : (a b : Bool) → a ≡ true → (not a || b) ≡ true → b ≡ true
    or_second true b e w = w
    or_second false b e w = cc

    covered : part_eq m.part p ≡ true → (b : Bool) → stands_at t (if b then None else Some n) ≡ true → message_at t (Some m) ≡ true
    covered same true at = cc
    covered same false at =
        let here : is_limited c.models c.resources m.part t ≡ true = subst (λ (q : PartId). is_limited c.models c.resources q t ≡ true) (sym (part_same m.part p same)) limited in
        let this : (not (is_limited c.models c.resources m.part t) || message_at t (Some m)) ≡ true
        = subst (λ (s : StateId). (not (is_limited c.models c.resources m.part s) || message_at s (Some m)) ≡ true) (state_same n t at) okay in
        or_second (is_limited c.models c.resources m.part t) (message_at t (Some m)) here this

    less : (same at new it a b : Bool) (x y : ℕ) → a ≡ (at || it) → b ≡ (new || it) → (same ≡ true → new ≡ true → it ≡ true)
        → x + (if same && a then 1 else 0) ≡ y + (if same && b then 1 else 0)
        → x + (if same && (at && not it) then 1 else 0) ≡ y
    less same at new it a b x y is_a is_b covered change = grind (arith, is_a, is_b, covered, change)

-- what is lowered
put_lowered : (c : Cluster) (m : Message) (k new : Numbers) (o : Option StateId) → IsPut c m o k new → (p : PartId) (t : StateId)
    → ends_of new p t ≡ ends_of k p t - (if part_eq m.part p && is_limited c.models c.resources p t && (stands_at t o && not (message_at t (Some m))) then 1 else 0)
put_lowered c m k new None put p t = none (part_eq m.part p) (is_limited c.models c.resources p t) _ _ (put.ends p t)
  where
    none : (same limited : Bool) (x y : ℕ) → y ≡ x → y ≡ x - (if same && limited && false then 1 else 0)
    none same limited x y is = grind (arith, is)
put_lowered c m k new (Some s) put p t = one (message_at s (Some m)) refl put
  where
    at : (s.0 == t.0) ≡ true → message_at t (Some m) ≡ message_at s (Some m)
    at e = ap (λ (x : StateId). message_at x (Some m)) (sym (state_same s t e))

    stays : (same limited st it : Bool) (x y : ℕ) → (st ≡ true → it ≡ true) → y ≡ x → y ≡ x - (if same && limited && (st && not it) then 1 else 0)
    stays same limited st it x y h is = grind (arith, h, is)

    goes : (same limited st it : Bool) (x y : ℕ) → (st ≡ true → it ≡ false) → y ≡ x - (if same && limited && st then 1 else 0)
        → y ≡ x - (if same && limited && (st && not it) then 1 else 0)
    goes same limited st it x y h is = grind (arith, h, is)

    one : (b : Bool) → message_at s (Some m) ≡ b → IsLeft c m.part s b k new
        → ends_of new p t ≡ ends_of k p t - (if part_eq m.part p && is_limited c.models c.resources p t && ((s.0 == t.0) && not (message_at t (Some m))) then 1 else 0)
    one true is put = stays (part_eq m.part p) (is_limited c.models c.resources p t) (s.0 == t.0) (message_at t (Some m)) _ _ (λ e. at e ∙ is) (put.ends p t)
    one false is put = goes (part_eq m.part p) (is_limited c.models c.resources p t) (s.0 == t.0) (message_at t (Some m)) _ _ (λ e. at e ∙ is) (put.ends p t)

put_loads : (c : Cluster) (m : Message) (k new : Numbers) (o : Option StateId) → IsPut c m o k new → (n key : ℕ) → loads_of new n key ≡ loads_of k n key
put_loads c m k new None put n key = put.loads n key
put_loads c m k new (Some s) put n key = one (message_at s (Some m)) put
  where
    one : (b : Bool) → IsLeft c m.part s b k new → loads_of new n key ≡ loads_of k n key
    one true put = put.loads n key
    one false put = put.loads n key

-- a number that is kept where a state is limited, with an end less where it is
kept_fewer : (limited same it : Bool) (old new count less : ℕ) → old ≡ (if limited then count else 0)
    → new ≡ old - (if same && limited && it then 1 else 0)
    → (limited ≡ true → less + (if same && it then 1 else 0) ≡ count)
    → new ≡ (if limited then less else 0)
kept_fewer true same it old new count less is_old is_new is_less = kept_less true same it old new count less is_old is_new (is_less refl)
kept_fewer false same it old new count less is_old is_new is_less = none same it old new is_old is_new
  where
    none : (same it : Bool) (old new : ℕ) → old ≡ 0 → new ≡ old - (if same && false && it then 1 else 0) → new ≡ 0
    none same it old new is_old is_new = grind (arith, is_old, is_new)

pub counted_put : (c : Cluster) (m : Message) (n : StateId) (k new : Numbers) → IsListed c → IsCounted c k → message_of c.mail m.session m.part ≡ Some m
    → (not (is_limited c.models c.resources m.part n) || message_at n (Some m)) ≡ true
    → IsPut c m (state_of c.rows m.session m.part) k new
    → IsCounted (record c { rows = row_put c.rows m.session m.part n }) new
counted_put c m n k new listed old found okay put = record {
  ends = λ p t. kept_fewer (is_limited c.models c.resources p t) (part_eq m.part p) (stands_at t (state_of c.rows m.session m.part) && not (message_at t (Some m))) _ _ _ _
      (old.ends p t) (put_lowered c m k new (state_of c.rows m.session m.part) put p t) (λ limited. ends-put c m n listed found okay p t limited);
  loads = λ n key. put_loads c m k new (state_of c.rows m.session m.part) put n key ∙ old.loads n key;
}

-- where an outcome puts the replica is the message's to, or ERROR
pub outcome_covered : (c : Cluster) (m : Message) (outcome : Outcome) → IsListed c
    → (not (is_limited c.models c.resources m.part (state_after m outcome)) || message_at (state_after m outcome) (Some m)) ≡ true
outcome_covered c m outcomes.Ok k = last (not (is_limited c.models c.resources m.part m.to)) (m.from.0 == m.to.0) (m.to.0 == m.to.0) (same-self m.to.0)
  where
    last : (a b d : Bool) → d ≡ true → (a || (b || d)) ≡ true
    last true b d e = refl
    last false true d e = refl
    last false false d e = e
outcome_covered c m outcomes.Failed k = ap (λ (b : Bool). not b || message_at error (Some m)) (error_free c m.part k)

pub counted_written : (c : Cluster) (s : SessionId) (id : MsgId) (m : Message) (outcome : Outcome) (k new : Numbers) → IsListed c → IsCounted c k
    → pending_of c s id ≡ Some m → IsPut c m (state_of c.rows m.session m.part) k new
    → IsCounted (after_write c s id outcome) new
counted_written c s id m outcome k new listed old found put =
    let row = counted_put c m (state_after m outcome) k new listed old (message_there c s id m listed found) (outcome_covered c m outcome listed) put in
    let both = counted_marked (record c { rows = row_put c.rows m.session m.part (state_after m outcome) }) s id new row in
    subst (λ (o : Option Message). IsCounted (written_of c s id outcome o) new) (sym found) (record { ends = both.ends; loads = both.loads })

-- a message that wasn't written stands at its from, so what may be written leaves all numbers
put_still : (c : Cluster) (m : Message) (k : Numbers) → is_pending c m ≡ true → m.written ≡ false → IsPut c m (state_of c.rows m.session m.part) k k
put_still c m k pending unwritten = one (state_of c.rows m.session m.part) (place m.written (is_row_written m (state_of c.rows m.session m.part)) unwritten (grind (arith, pending)))
  where
    same : IsUnchanged k k
    same = record { ends = λ p t. refl; loads = λ n key. refl }

    place : (b x : Bool) → b ≡ false → (if b then x else (standing_of c m.session m.part).0 == m.from.0) ≡ true
        → ((unwrap_or (state_of c.rows m.session m.part) (initial_of c m.part)).0 == m.from.0) ≡ true
    place true x e w = cc
    place false x e w = w

    one : (o : Option StateId) → ((unwrap_or o (initial_of c m.part)).0 == m.from.0) ≡ true → IsPut c m o k k
    one None at = same
    one (Some t) at =
        let end : message_at t (Some m) ≡ true = grind (arith, nat_tests, at) in
        subst (λ (b : Bool). IsLeft c m.part t b k k) (sym end) same

pub counted_write : (c : Cluster) (s : SessionId) (id : MsgId) (outcome : Outcome) (k : Numbers) → IsKept c → IsCounted c k → can_write c s id ≡ true
    → IsCounted (after_write c s id outcome) k
counted_write c s id outcome k kept old can = one (is_live c.live s) (pending_of c s id) refl can
  where
    one : (live : Bool) (o : Option Message) → pending_of c s id ≡ o → is_none (if live then write_fault o else Some writes.SessionEnded) ≡ true
        → IsCounted (after_write c s id outcome) k
    one live None is e = subst (λ (o : Option Message). IsCounted (written_of c s id outcome o) k) (sym is) old
    one live (Some m) is e =
        let pending = all-find (is_pending c) (has_id s id) c.mail m kept.mail.pending is in
        counted_written c s id m outcome k k (listed_kept c kept) old is (put_still c m k pending (taken_unwritten live m.taken m.written e).1)

-- a row that goes, where no message is pending
ends-gone : (c : Cluster) (s : SessionId) (q : PartId) (x : StateId) → IsListed c → message_of c.mail s q ≡ None → state_of c.rows s q ≡ Some x → (p : PartId) (t : StateId)
    → count_over (sessions_of c.live) (filter (λ r. not (is_row s q r)) c.rows) c.mail p t + (if part_eq q p && (x.0 == t.0) then 1 else 0) ≡ count_of c p t
ends-gone c s q x k none has p t =
    let change = count_changed c left c.mail s q k (row_live c s q x k has)
    (λ u p t ne. ends-beside c.rows left c.mail u p t (ap (option_map (λ (r : Row). r.state)) (find-filter_kept (is_row u p) (λ r. not (is_row s q r)) (λ r e. grind (arith, nat_tests, e, ne)) c.rows))) p t in
    let old : has_end c.rows c.mail q t s ≡ ((x.0 == t.0) || false)
    = end-is c.rows c.mail q t s ∙ ap (λ (o : Option StateId). stands_at t o || message_at t (message_of c.mail s q)) has ∙ ap (λ (o : Option Message). (x.0 == t.0) || message_at t o) none in
    let gone : state_of left s q ≡ None = ap (option_map (λ (r : Row). r.state)) (find-filter_none (is_row s q) c.rows) in
    let new : has_end left c.mail q t s ≡ false
    = end-is left c.mail q t s ∙ ap (λ (o : Option StateId). stands_at t o || message_at t (message_of c.mail s q)) gone ∙ ap (λ (o : Option Message). message_at t o) none in
    less (part_eq q p) (x.0 == t.0) _ _ _ _ old new change
  where
    left : List Row
    left = filter (λ r. not (is_row s q r)) c.rows

    less : (same at a b : Bool) (x y : ℕ) → a ≡ (at || false) → b ≡ false
        → x + (if same && a then 1 else 0) ≡ y + (if same && b then 1 else 0)
        → x + (if same && at then 1 else 0) ≡ y
    less same at a b x y is_a is_b change = grind (arith, is_a, is_b, change)

pub counted_row_gone : (c : Cluster) (s : SessionId) (q : PartId) (x : StateId) (k new : Numbers) → IsListed c → IsCounted c k
    → message_of c.mail s q ≡ None → state_of c.rows s q ≡ Some x → IsRowLowered c q x k new
    → IsCounted (record c { rows = filter (λ r. not (is_row s q r)) c.rows }) new
counted_row_gone c s q x k new listed old none has lowered = record {
  ends = λ p t. kept_less (is_limited c.models c.resources p t) (part_eq q p) (x.0 == t.0) _ _ _ _ (old.ends p t) (lowered.ends p t) (ends-gone c s q x listed none has p t);
  loads = λ n key. lowered.loads n key ∙ old.loads n key;
}
