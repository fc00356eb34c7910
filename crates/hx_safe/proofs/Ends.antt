-- Keys that are the same, limits, and the ends of replicas as rows and messages change.
use Rattle.std.proofs.Common.{◌≡◌, ℕ, ◌≤◌, ◌||◌, ◌&&◌, ◌==◌, not, Bool, true, false, List, [], ◌∷◌, ◌++◌, filter, map, find, Option, Some, None, refl, sym, ap, ◌∙◌, arith}
use Rattle.std.specs.Prelude.{if◌then◌else◌}
use Rattle.std.specs.List.{list_any}
use Rattle.std.specs.Option.{option_map, option_or}
use Rattle.std.proofs.lemmas.Bool.{cond_both}
use Rattle.std.proofs.lemmas.Bool.Decides.{nat_tests}
use Rattle.std.proofs.lemmas.List.Folds.{find-append}
use Rattle.hx_lists.specs.Lists.{count, insert_by}
use Rattle.hx_ids.specs.declared.StateId.{StateId}
use Rattle.hx_ids.specs.declared.SessionId.{SessionId}
use Rattle.hx_ids.specs.declared.ResourceId.{ResourceId}
use Rattle.hx_ids.specs.declared.MsgId.{MsgId}
use Rattle.hx_ids.specs.declared.PartId.{PartId}
use Rattle.hx_model.specs.Model.{dropped}
use Rattle.hx_cluster.specs.declared.state.Row.{Row}
use Rattle.hx_cluster.specs.declared.state.Message.{Message}
use Rattle.hx_cluster.specs.Ends.{part_eq, is_row, is_message, row_of, message_of, state_of, row_at, message_at}
use Rattle.hx_cluster.specs.Messages.{row_before, restated, row_put, has_id, as_taken, as_written}
use Rattle.hx_safe.proofs.Counting.{count-filter, find-passes, find-any, any-count}

-- keys
pub session_same : (a b : SessionId) → (a.0 == b.0) ≡ true → a ≡ b
session_same a b e = let same : a.0 ≡ b.0 = grind (arith, nat_tests, e) in ap (λ (n : ℕ). record { 0 = n }) same

resource_same : (a b : ResourceId) → (a.0 == b.0) ≡ true → a ≡ b
resource_same a b e = let same : a.0 ≡ b.0 = grind (arith, nat_tests, e) in ap (λ (n : ℕ). record { 0 = n }) same

pub part_same : (a b : PartId) → part_eq a b ≡ true → a ≡ b
part_same a b e =
    let one : a.resource ≡ b.resource = resource_same a.resource b.resource (grind (arith, e)) in
    let two : a.index ≡ b.index = grind (arith, nat_tests, e) in
    (λ i. record { resource = one i; index = two i })

pub same-self : (n : ℕ) → (n == n) ≡ true
same-self n = grind (arith, nat_tests)

pub part_eq-self : (p : PartId) → part_eq p p ≡ true
part_eq-self p = grind (arith, nat_tests)

-- what is found stays where only others are taken out or put in
pub find-filter_kept : {X : Type 0} (q k : X → Bool) (h : (x : X) → q x ≡ true → k x ≡ true) (xs : List X) → find q (filter k xs) ≡ find q xs
find-filter_kept q k h [] = refl
find-filter_kept q k h (x ∷ xs) = grind (arith, find-filter_kept q k h xs, h x)

pub find-filter_none : {X : Type 0} (q : X → Bool) (xs : List X) → find q (filter (λ x. not (q x)) xs) ≡ None
find-filter_none q [] = refl
find-filter_none q (x ∷ xs) = grind (arith, find-filter_none q xs)

pub find-insert_other : {X : Type 0} (q : X → Bool) (before : X → X → Bool) (x : X) (xs : List X) → q x ≡ false → find q (insert_by before x xs) ≡ find q xs
find-insert_other q before x [] e = grind (arith, e)
find-insert_other q before x (y ∷ xs) e = grind (arith, e, find-insert_other q before x xs)

pub find-insert_here : {X : Type 0} (q : X → Bool) (before : X → X → Bool) (x : X) (xs : List X) → q x ≡ true → list_any q xs ≡ false → find q (insert_by before x xs) ≡ Some x
find-insert_here q before x [] e w = grind (arith, e)
find-insert_here q before x (y ∷ xs) e w = grind (arith, e, w, find-insert_here q before x xs)

-- where at most one item passes, one that is found among some of them is found among all
pub find-filter : {X : Type 0} (q k : X → Bool) (xs : List X) (x : X) → count q xs ≤ 1 → find q (filter k xs) ≡ Some x → find q xs ≡ Some x
find-filter q k [] x one e = cc
find-filter q k (y ∷ xs) x one e = grind (arith, one, e, find-filter q k xs x, find-passes q (filter k xs) x, find-any q q (filter k xs) x, any-count q (filter k xs), count-filter q k xs)

-- whether a replica is in a state
abbrev pub stands_at : StateId → Option StateId → Bool
stands_at t None = false
stands_at t (Some s) = s.0 == t.0

pub row_at-state : (t : StateId) (rows : List Row) (s : SessionId) (p : PartId) → row_at t (row_of rows s p) ≡ stands_at t (state_of rows s p)
row_at-state t rows s p = one (row_of rows s p)
  where
    one : (o : Option Row) → row_at t o ≡ stands_at t (option_map (λ r. r.state) o)
    one None = refl
    one (Some r) = refl

-- another replica stands as it did
restated-other : (rows : List Row) (s u : SessionId) (p q : PartId) (st : StateId) → ((u.0 == s.0) && part_eq q p) ≡ false → state_of (map (restated s p st) rows) u q ≡ state_of rows u q
restated-other [] s u p q st ne = refl
restated-other (r ∷ rows) s u p q st ne = one (is_row s p r) refl (restated-other rows s u p q st ne)
  where
    one : (b : Bool) → is_row s p r ≡ b → state_of (map (restated s p st) rows) u q ≡ state_of rows u q
        → option_map (λ x. x.state) (if is_row u q (if b then record r { state = st } else r) then Some (if b then record r { state = st } else r) else find (is_row u q) (map (restated s p st) rows)) ≡ state_of (r ∷ rows) u q
    one true is more = let not : is_row u q r ≡ false = grind (arith, nat_tests, is, ne) in grind (arith, not, more)
    one false is more = grind (arith, more)

restated-here : (rows : List Row) (s : SessionId) (p : PartId) (st : StateId) → list_any (is_row s p) rows ≡ true → state_of (map (restated s p st) rows) s p ≡ Some st
restated-here [] s p st e = cc
restated-here (r ∷ rows) s p st e = one (is_row s p r) refl e (restated-here rows s p st)
  where
    one : (b : Bool) → is_row s p r ≡ b → (b || list_any (is_row s p) rows) ≡ true → (list_any (is_row s p) rows ≡ true → state_of (map (restated s p st) rows) s p ≡ Some st)
        → option_map (λ x. x.state) (if is_row s p (if b then record r { state = st } else r) then Some (if b then record r { state = st } else r) else find (is_row s p) (map (restated s p st) rows)) ≡ Some st
    one true is e more = grind (arith, is)
    one false is e more = grind (arith, is, more e)

pub put-other : (rows : List Row) (s u : SessionId) (p q : PartId) (st : StateId) → ((u.0 == s.0) && part_eq q p) ≡ false → state_of (row_put rows s p st) u q ≡ state_of rows u q
put-other rows s u p q st ne = one (st.0 == dropped.0) (list_any (is_row s p) rows)
  where
    one : (gone there : Bool)
        → state_of (if gone then filter (λ r. not (is_row s p r)) rows else if there then map (restated s p st) rows else insert_by row_before (record { session = s; part = p; state = st }) rows) u q ≡ state_of rows u q
    one true there = ap (option_map (λ r. r.state)) (find-filter_kept (is_row u q) (λ r. not (is_row s p r)) (λ r e. grind (arith, nat_tests, e, ne)) rows)
    one false true = restated-other rows s u p q st ne
    one false false = ap (option_map (λ r. r.state)) (find-insert_other (is_row u q) row_before (record { session = s; part = p; state = st }) rows (grind (arith, nat_tests, ne)))

-- and this one at the state that was put, or nowhere
pub put-here : (rows : List Row) (s : SessionId) (p : PartId) (st : StateId) → state_of (row_put rows s p st) s p ≡ (if st.0 == dropped.0 then None else Some st)
put-here rows s p st = one (st.0 == dropped.0) (list_any (is_row s p) rows) refl
  where
    one : (gone there : Bool) → list_any (is_row s p) rows ≡ there
        → state_of (if gone then filter (λ r. not (is_row s p r)) rows else if there then map (restated s p st) rows else insert_by row_before (record { session = s; part = p; state = st }) rows) s p ≡ (if gone then None else Some st)
    one true there is = ap (option_map (λ r. r.state)) (find-filter_none (is_row s p) rows)
    one false true is = restated-here rows s p st is
    one false false is = ap (option_map (λ r. r.state)) (find-insert_here (is_row s p) row_before (record { session = s; part = p; state = st }) rows (grind (arith, nat_tests)) is)

-- what leaves a message's replica and states
abbrev HasSameEnds : Message → Message → Type 0
HasSameEnds m x = (u : SessionId) (q : PartId) (t : StateId) → (is_message u q x ≡ is_message u q m) × (message_at t (Some x) ≡ message_at t (Some m))

-- a mark changes no end
end-map : (f : Message → Message) (h : (m : Message) → HasSameEnds m (f m)) (mail : List Message) (u : SessionId) (q : PartId) (t : StateId)
    → message_at t (message_of (map f mail) u q) ≡ message_at t (message_of mail u q)
end-map f h [] u q t = refl
end-map f h (m ∷ mail) u q t = one (is_message u q m) refl (is_message u q (f m)) refl (end-map f h mail u q t)
  where
    one : (b : Bool) → is_message u q m ≡ b → (d : Bool) → is_message u q (f m) ≡ d → message_at t (message_of (map f mail) u q) ≡ message_at t (message_of mail u q)
        → message_at t (if d then Some (f m) else message_of (map f mail) u q) ≡ message_at t (if b then Some m else message_of mail u q)
    one true is true at more = (h m u q t).1
    one false is false at more = more
    one true is false at more = absurd (grind (arith, is, at, (h m u q t).0))
    one false is true at more = absurd (grind (arith, is, at, (h m u q t).0))

end-marked : (s : SessionId) (id : MsgId) (f : Message → Message) (h : (m : Message) → HasSameEnds m (f m)) (mail : List Message) (u : SessionId) (q : PartId) (t : StateId)
    → message_at t (message_of (map (λ m. if has_id s id m then f m else m) mail) u q) ≡ message_at t (message_of mail u q)
end-marked s id f h mail u q t =
    end-map (λ m. if has_id s id m then f m else m) (λ m. cond_both (has_id s id m) (f m) m (HasSameEnds m) (λ e. h m) (λ e v r x. (refl, refl))) mail u q t

pub end-taken : (mail : List Message) (s u : SessionId) (id : MsgId) (q : PartId) (t : StateId) → message_at t (message_of (map (as_taken s id) mail) u q) ≡ message_at t (message_of mail u q)
end-taken mail s u id q t = end-marked s id (λ m. record m { taken = true }) (λ m v r x. (refl, refl)) mail u q t

pub end-written : (mail : List Message) (s u : SessionId) (id : MsgId) (q : PartId) (t : StateId) → message_at t (message_of (map (as_written s id) mail) u q) ≡ message_at t (message_of mail u q)
end-written mail s u id q t = end-marked s id (λ m. record m { written = true }) (λ m v r x. (refl, refl)) mail u q t

-- a message that is gone takes its ends away
pub end-filter : (k : Message → Bool) (mail : List Message) (u : SessionId) (q : PartId) (t : StateId) → count (is_message u q) mail ≤ 1
    → message_at t (message_of (filter k mail) u q) ≡ true → message_at t (message_of mail u q) ≡ true
end-filter k mail u q t single e = one (message_of (filter k mail) u q) refl e
  where
    one : (o : Option Message) → message_of (filter k mail) u q ≡ o → message_at t o ≡ true → message_at t (message_of mail u q) ≡ true
    one None is e = cc
    one (Some m) is e = rw (find-filter (is_message u q) k mail m single is) e

-- one message more, where the replica had none
pub end-sent : (mail : List Message) (m : Message) (u : SessionId) (q : PartId) (t : StateId) → message_at t (message_of (mail ++ m ∷ []) u q) ≡ true
    → (message_at t (message_of mail u q) || (is_message u q m && ((m.from.0 == t.0) || (m.to.0 == t.0)))) ≡ true
end-sent mail m u q t e = one (message_of mail u q) (is_message u q m) refl (ap (message_at t) (sym (find-append (is_message u q) mail (m ∷ []))) ∙ e)
  where
    one : (o : Option Message) (b : Bool) → is_message u q m ≡ b → message_at t (option_or o (if b then Some m else None)) ≡ true
        → (message_at t o || (b && ((m.from.0 == t.0) || (m.to.0 == t.0)))) ≡ true
    one (Some x) b is e = grind (arith, e)
    one None true is e = grind (arith, e)
    one None false is e = cc
