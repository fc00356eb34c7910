-- How many rows or messages a session has of a part is seen among those of the part.
use Rattle.std.proofs.Common.{◌≡◌, ◌&&◌, ◌==◌, Bool, true, false, List, [], ◌∷◌, refl, ap, ◌∙◌, arith}
use Rattle.hx_lists.specs.Lists.{count}
use Rattle.hx_ids.specs.declared.SessionId.{SessionId}
use Rattle.hx_ids.specs.declared.PartId.{PartId}
use Rattle.hx_cluster.specs.declared.state.Row.{Row}
use Rattle.hx_cluster.specs.declared.state.Message.{Message}
use Rattle.hx_cluster.specs.Ends.{part_eq, is_row, is_message}
use Rattle.hx_parts.specs.Parts.{items_at, HasSameAt}

second : (a b : Bool) → (a && b) ≡ true → b ≡ true
second true b e = e
second false b e = cc

count-at : {X : Type 0} (part_of : X → PartId) (p : PartId) (q : X → Bool) → ((x : X) → q x ≡ true → part_eq (part_of x) p ≡ true) → (xs : List X)
    → count q (items_at part_of p xs) ≡ count q xs
count-at part_of p q h [] = refl
count-at part_of p q h (x ∷ xs) = grind (arith, count-at part_of p q h xs, h x)

counted : {X : Type 0} (part_of : X → PartId) (p : PartId) (q : X → Bool) → ((x : X) → q x ≡ true → part_eq (part_of x) p ≡ true) → (xs kept : List X)
    → HasSameAt part_of xs kept → count q (items_at part_of p kept) ≡ count q xs
counted part_of p q h xs kept same = ap (count q) (same p) ∙ count-at part_of p q h xs

pub rows_counted : (rows kept : List Row) → HasSameAt (λ r. r.part) rows kept → (s : SessionId) (p : PartId) → count (is_row s p) (items_at (λ r. r.part) p kept) ≡ count (is_row s p) rows
rows_counted rows kept same s p = counted (λ r. r.part) p (is_row s p) (λ r e. second (r.session.0 == s.0) (part_eq r.part p) e) rows kept same

pub mail_counted : (mail kept : List Message) → HasSameAt (λ m. m.part) mail kept → (s : SessionId) (p : PartId)
    → count (is_message s p) (items_at (λ m. m.part) p kept) ≡ count (is_message s p) mail
mail_counted mail kept same s p = counted (λ m. m.part) p (is_message s p) (λ m e. second (m.session.0 == s.0) (part_eq m.part p) e) mail kept same
