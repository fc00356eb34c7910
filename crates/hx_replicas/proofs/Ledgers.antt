-- The ledger of a participant's fields is that of the plain participant.
use Rattle.std.proofs.Common.{◌≡◌, ℕ, ◌+◌, ◌≤◌, ◌<◌, List, [], ◌∷◌, map, length, get_or, arith, refl, Option, None, Some}
use Rattle.std.specs.List.{sum_by}
use Rattle.std.proofs.lemmas.List.Sums.{sum_by-cons, sum_by-take-drop}
use Rattle.std.proofs.Common.{drop, suc, add-one, drop-cons}
use Rattle.std.specs.Option.{option_map}
use Rattle.hx_cluster.specs.declared.description.Failure.{Failure}
use Rattle.hx_handler.specs.declared.Handler as handler
use Rattle.hx_replicas.specs.declared.slots.Slot.{Slot}
use Rattle.hx_replicas.specs.Ledger.{in_place, held_in}
use Rattle.hx_replicas.specs.Layout.{count_of, plain_slot, IsLaidOut}

in_place-map : {X Y : Type 0} (f : X → Y) (o : Option X) → in_place (option_map f o) ≡ in_place o
in_place-map f None = refl
in_place-map f (Some x) = refl

held-plain : {H : Type 0} (k : handler.Ghosts H) (xs : List (Slot H)) → sum_by held_in (map (plain_slot k) xs) ≡ sum_by count_of xs
held-plain k [] = refl
held-plain k (x ∷ xs) =
    rw (sum_by-cons held_in (plain_slot k x) (map (plain_slot k) xs), sum_by-cons count_of x xs)
    (omega (arith, held-plain k xs, in_place-map (λ h. k.runs h) x.handler))

pub ledger : {H : Type 0} (k : handler.Ghosts H) (told : Option (List Failure)) (xs : List (Slot H)) (made retired : ℕ) → IsLaidOut k told xs made retired → made ≡ retired + sum_by held_in (map (plain_slot k) xs)
ledger k told xs made retired laid = rw (held-plain k xs) laid.balanced

pub sum_by-drop-one : {X : Type 0} (f : X → ℕ) (xs : List X) (i : ℕ) (d : X) → i < length xs → sum_by f (drop i xs) ≡ f (get_or xs i d) + sum_by f (drop (i + 1) xs)
sum_by-drop-one f xs i d lt = rw (add-one, drop-cons xs i d) (sum_by-cons f (get_or xs i d) (drop (suc i) xs))

pub sum_by-ge : {X : Type 0} (f : X → ℕ) (xs : List X) (i : ℕ) (d : X) → i < length xs → f (get_or xs i d) ≤ sum_by f xs
sum_by-ge f xs i d lt = omega (arith, sum_by-take-drop f xs i, sum_by-drop-one f xs i d lt)
