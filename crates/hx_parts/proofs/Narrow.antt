-- What is looked up of a part is the same among the items of that part.
use Rattle.std.proofs.Common.{◌≡◌, ◌&&◌, ◌==◌, Bool, true, false, List, [], ◌∷◌, find, refl, sym, ◌∙◌, ap, arith}
use Rattle.std.specs.Prelude.{option_map, length}
use Rattle.std.specs.List.{list_any}
use Rattle.std.proofs.lemmas.List.Elements.{filter_agree}
use Rattle.hx_ids.specs.declared.PartId.{PartId}
use Rattle.hx_ids.specs.declared.StateId.{StateId}
use Rattle.hx_ids.specs.declared.SessionId.{SessionId}
use Rattle.hx_cluster.specs.declared.state.Row.{Row}
use Rattle.hx_cluster.specs.declared.state.Message.{Message}
use Rattle.hx_cluster.specs.Ends.{part_eq, is_row, is_message, row_of, message_of, state_of, has_end, holders_of, count_over}
use Rattle.hx_cluster.specs.Steps.{is_flag}
use Rattle.hx_parts.specs.Parts.{items_at, HasSameAt}

second : (a b : Bool) → (a && b) ≡ true → b ≡ true
second true b e = e
second false b e = cc

-- a test that only items of the part pass
pub find-at : {X : Type 0} (part_of : X → PartId) (p : PartId) (q : X → Bool) → ((x : X) → q x ≡ true → part_eq (part_of x) p ≡ true) → (xs : List X) → find q (items_at part_of p xs) ≡ find q xs
find-at part_of p q h [] = refl
find-at part_of p q h (x ∷ xs) = grind (arith, find-at part_of p q h xs, h x)

pub any-at : {X : Type 0} (part_of : X → PartId) (p : PartId) (q : X → Bool) → ((x : X) → q x ≡ true → part_eq (part_of x) p ≡ true) → (xs : List X) → list_any q (items_at part_of p xs) ≡ list_any q xs
any-at part_of p q h [] = refl
any-at part_of p q h (x ∷ xs) = grind (arith, any-at part_of p q h xs, h x)

-- the row, its state, the pending message and the flag of a session's part
pub row-at : (rows : List Row) (s : SessionId) (p : PartId) → row_of (items_at (λ r. r.part) p rows) s p ≡ row_of rows s p
row-at rows s p = find-at (λ r. r.part) p (is_row s p) (λ r e. second (r.session.0 == s.0) (part_eq r.part p) e) rows

pub state-at : (rows : List Row) (s : SessionId) (p : PartId) → state_of (items_at (λ r. r.part) p rows) s p ≡ state_of rows s p
state-at rows s p = ap (option_map (λ r. r.state)) (row-at rows s p)

pub message-at : (mail : List Message) (s : SessionId) (p : PartId) → message_of (items_at (λ m. m.part) p mail) s p ≡ message_of mail s p
message-at mail s p = find-at (λ m. m.part) p (is_message s p) (λ m e. second (m.session.0 == s.0) (part_eq m.part p) e) mail

pub flag-at : (resets : List (SessionId × PartId)) (s : SessionId) (p : PartId) → list_any (is_flag s p) (items_at (λ f. f.1) p resets) ≡ list_any (is_flag s p) resets
flag-at resets s p = any-at (λ f. f.1) p (is_flag s p) (λ f e. second (f.0.0 == s.0) (part_eq f.1 p) e) resets

-- whether a state is an end, and the sessions that have it
pub end-at : (rows : List Row) (mail : List Message) (p : PartId) (t : StateId) (s : SessionId) → has_end (items_at (λ r. r.part) p rows) (items_at (λ m. m.part) p mail) p t s ≡ has_end rows mail p t s
end-at rows mail p t s = rw (row-at rows s p, message-at mail s p) refl

pub holders-at : (sessions : List SessionId) (rows : List Row) (mail : List Message) (p : PartId) (t : StateId) → holders_of sessions (items_at (λ r. r.part) p rows) (items_at (λ m. m.part) p mail) p t ≡ holders_of sessions rows mail p t
holders-at sessions rows mail p t = filter_agree (has_end (items_at (λ r. r.part) p rows) (items_at (λ m. m.part) p mail) p t) (has_end rows mail p t) (end-at rows mail p t) sessions

pub count-at : (sessions : List SessionId) (rows : List Row) (mail : List Message) (p : PartId) (t : StateId) → count_over sessions (items_at (λ r. r.part) p rows) (items_at (λ m. m.part) p mail) p t ≡ count_over sessions rows mail p t
count-at sessions rows mail p t = ap length (holders-at sessions rows mail p t)

-- the same of a list that has the same items of each part
pub row-same : (rows kept : List Row) → HasSameAt (λ r. r.part) rows kept → (s : SessionId) (p : PartId) → row_of kept s p ≡ row_of rows s p
row-same rows kept h s p = sym (row-at kept s p) ∙ ap (λ (rs : List Row). row_of rs s p) (h p) ∙ row-at rows s p

pub state-same : (rows kept : List Row) → HasSameAt (λ r. r.part) rows kept → (s : SessionId) (p : PartId) → state_of kept s p ≡ state_of rows s p
state-same rows kept h s p = ap (option_map (λ r. r.state)) (row-same rows kept h s p)

pub message-same : (mail kept : List Message) → HasSameAt (λ m. m.part) mail kept → (s : SessionId) (p : PartId) → message_of kept s p ≡ message_of mail s p
message-same mail kept h s p = sym (message-at kept s p) ∙ ap (λ (ms : List Message). message_of ms s p) (h p) ∙ message-at mail s p

pub flag-same : (resets kept : List (SessionId × PartId)) → HasSameAt (λ f. f.1) resets kept → (s : SessionId) (p : PartId) → list_any (is_flag s p) kept ≡ list_any (is_flag s p) resets
flag-same resets kept h s p = sym (flag-at kept s p) ∙ ap (list_any (is_flag s p)) (h p) ∙ flag-at resets s p
