-- What is looked up at a part is what the view shows.
use Rattle.std.proofs.Common.{◌≡◌, ◌==◌, ◌||◌, Bool, true, false, List, [], ◌∷◌, length, find, Some, refl, sym, ap, ◌∙◌}
use Rattle.std.specs.Prelude.{filter, if◌then◌else◌}
use Rattle.std.specs.List.{list_any}
use Rattle.std.proofs.lemmas.List.Elements.{filter_agree}
use Rattle.hx_ids.specs.declared.PartId.{PartId}
use Rattle.hx_ids.specs.declared.SessionId.{SessionId}
use Rattle.hx_ids.specs.declared.StateId.{StateId}
use Rattle.hx_cluster.specs.declared.state.Row.{Row}
use Rattle.hx_cluster.specs.declared.state.Message.{Message}
use Rattle.hx_cluster.specs.Ends.{state_of, message_of, has_end, row_at, message_at, is_row, is_message, count_over}
use Rattle.hx_cluster.specs.Steps.{is_flag}
use Rattle.hx_parts.specs.Parts.{items_at, HasSameAt}
use Rattle.hx_parts.proofs.Narrow.{state-at, state-same, message-at, message-same, flag-at, flag-same, end-at, row-same}

pub state_found : (rows kept : List Row) → HasSameAt (λ r. r.part) rows kept → (s : SessionId) (p : PartId) → state_of (items_at (λ r. r.part) p kept) s p ≡ state_of rows s p
state_found rows kept h s p = state-at kept s p ∙ state-same rows kept h s p

pub message_found : (mail kept : List Message) → HasSameAt (λ m. m.part) mail kept → (s : SessionId) (p : PartId) → message_of (items_at (λ m. m.part) p kept) s p ≡ message_of mail s p
message_found mail kept h s p = message-at kept s p ∙ message-same mail kept h s p

pub flag_found : (resets kept : List (SessionId × PartId)) → HasSameAt (λ f. f.1) resets kept → (s : SessionId) (p : PartId)
    → list_any (is_flag s p) (items_at (λ f. f.1) p kept) ≡ list_any (is_flag s p) resets
flag_found resets kept h s p = flag-at kept s p ∙ flag-same resets kept h s p

pub end_found : (rows kept_rows : List Row) (mail kept_mail : List Message) → HasSameAt (λ r. r.part) rows kept_rows → HasSameAt (λ m. m.part) mail kept_mail
    → (p : PartId) (t : StateId) (s : SessionId) → has_end (items_at (λ r. r.part) p kept_rows) (items_at (λ m. m.part) p kept_mail) p t s ≡ has_end rows mail p t s
end_found rows kept_rows mail kept_mail h k p t s = end-at kept_rows kept_mail p t s ∙ rw (row-same rows kept_rows h s p, message-same mail kept_mail k s p) refl

pub ends_found : (rows kept_rows : List Row) (mail kept_mail : List Message) → HasSameAt (λ r. r.part) rows kept_rows → HasSameAt (λ m. m.part) mail kept_mail
    → (sessions : List SessionId) (p : PartId) (t : StateId) → count_over sessions (items_at (λ r. r.part) p kept_rows) (items_at (λ m. m.part) p kept_mail) p t ≡ count_over sessions rows mail p t
ends_found rows kept_rows mail kept_mail h k sessions p t =
    ap length (filter_agree (has_end (items_at (λ r. r.part) p kept_rows) (items_at (λ m. m.part) p kept_mail) p t) (has_end rows mail p t) (end_found rows kept_rows mail kept_mail h k p t) sessions)

-- the first of some rows, and of some messages, of which none has a state for an end
row_without : (t : StateId) (q : Row → Bool) (rows : List Row) → list_any (λ r. r.state.0 == t.0) rows ≡ false → row_at t (find q rows) ≡ false
row_without t q [] none = refl
row_without t q (r ∷ rows) none = one (r.state.0 == t.0) refl (q r) none (row_without t q rows)
  where
    one : (a : Bool) → (r.state.0 == t.0) ≡ a → (b : Bool) → (a || list_any (λ r. r.state.0 == t.0) rows) ≡ false → (list_any (λ r. r.state.0 == t.0) rows ≡ false → row_at t (find q rows) ≡ false)
        → row_at t (if b then Some r else find q rows) ≡ false
    one true is b none more = cc
    one false is true none more = is
    one false is false none more = more none

message_without : (t : StateId) (q : Message → Bool) (mail : List Message) → list_any (λ m. (m.from.0 == t.0) || (m.to.0 == t.0)) mail ≡ false → message_at t (find q mail) ≡ false
message_without t q [] none = refl
message_without t q (m ∷ mail) none = one ((m.from.0 == t.0) || (m.to.0 == t.0)) refl (q m) none (message_without t q mail)
  where
    one : (a : Bool) → ((m.from.0 == t.0) || (m.to.0 == t.0)) ≡ a → (b : Bool) → (a || list_any (λ m. (m.from.0 == t.0) || (m.to.0 == t.0)) mail) ≡ false
        → (list_any (λ m. (m.from.0 == t.0) || (m.to.0 == t.0)) mail ≡ false → message_at t (find q mail) ≡ false) → message_at t (if b then Some m else find q mail) ≡ false
    one true is b none more = cc
    one false is true none more = is
    one false is false none more = more none

pub no_end : (rows : List Row) (mail : List Message) (t : StateId) → list_any (λ r. r.state.0 == t.0) rows ≡ false → list_any (λ m. (m.from.0 == t.0) || (m.to.0 == t.0)) mail ≡ false
    → (p : PartId) (s : SessionId) → has_end rows mail p t s ≡ false
no_end rows mail t none_stands none_comes p s = rw (row_without t (is_row s p) rows none_stands) (message_without t (is_message s p) mail none_comes)

-- where it is no end, nobody has it
pub none_counted : (sessions : List SessionId) (rows : List Row) (mail : List Message) (p : PartId) (t : StateId) → ((s : SessionId) → has_end rows mail p t s ≡ false) → 0 ≡ count_over sessions rows mail p t
none_counted sessions rows mail p t none = ap length (sym (nobody sessions))
  where
    nobody : (ss : List SessionId) → filter (has_end rows mail p t) ss ≡ []
    nobody [] = refl
    nobody (s ∷ ss) = rw (none s) (nobody ss)
