-- What emptied slots are as plain slots, and that they are laid out.
use Rattle.std.proofs.Common.{◌≡◌, ℕ, ◌<◌, ◌++◌, ◌∷◌, [], List, map, take, drop, length, get_or, arith, refl, false, zero, suc, Option}
use Rattle.std.specs.List.{sum_by, All, list_any}
use Rattle.std.proofs.lemmas.List.Sums.{sum_by-cons}
use Rattle.std.proofs.lemmas.Grind.{common_steps}
use Rattle.hx_cluster.specs.declared.description.Failure.{Failure}
use Rattle.hx_handler.specs.declared.Handler as handler
use Rattle.hx_replicas.specs.declared.slots.Work.{Work}
use Rattle.hx_replicas.specs.declared.slots.Work.TheVariants.{Idle, Accepted, Out}
use Rattle.hx_replicas.specs.declared.slots.Slot.{Slot}
use Rattle.hx_replicas.specs.Participants.{is_out, emptied}
use Rattle.hx_replicas.specs.Ledger.{lent}
use Rattle.hx_replicas.specs.Layout.{wiped, count_of, plain_slot, IsQuiet, IsBare, IsSlot, IsLaidOut}

-- a loop that writes f x over each x hasn't changed those behind it
pub get_or-map_over : {X : Type 0} (f : X → X) (xs ys : List X) (i : ℕ) (x : X) → i < length xs → ys ≡ map f (take i xs) ++ drop i xs → get_or ys i x ≡ get_or xs i x
get_or-map_over f xs ys i x lt is = grind (arith, common_steps)

pub lent-quiet : (w : Work) → is_out w ≡ false → lent w ≡ 0
lent-quiet Idle quiet = refl
lent-quiet (Accepted m) quiet = refl
lent-quiet (Out m is_held) quiet = (cc)

pub none_out-plain : {H : Type 0} (k : handler.Ghosts H) (xs : List (Slot H)) → list_any (λ x. is_out x.work) (map (plain_slot k) xs) ≡ false → All IsQuiet xs
none_out-plain k [] none j d lt = absurd (omega arith)
none_out-plain k (x ∷ xs) none zero d lt = grind (arith, common_steps)
none_out-plain k (x ∷ xs) none (suc j) d lt = none_out-plain k xs (grind (arith, common_steps)) j d (omega arith)

pub bare-wiped : {H : Type 0} (xs : List (Slot H)) → All IsBare (map wiped xs)
bare-wiped [] j d lt = absurd (omega arith)
bare-wiped (x ∷ xs) zero d lt = refl
bare-wiped (x ∷ xs) (suc j) d lt = bare-wiped xs j d (omega arith)

pub map-emptied : {H : Type 0} (k : handler.Ghosts H) (xs : List (Slot H)) → map (plain_slot k) (map wiped xs) ≡ map emptied (map (plain_slot k) xs)
map-emptied k [] = refl
map-emptied k (x ∷ xs) = rw (map-emptied k xs) refl

pub quiet-emptied : {H : Type 0} (k : handler.Ghosts H) (xs : List (Slot H)) → list_any (λ x. is_out x.work) (map (plain_slot k) (map wiped xs)) ≡ false
quiet-emptied k [] = refl
quiet-emptied k (x ∷ xs) = quiet-emptied k xs

parts-wiped : {H : Type 0} (xs : List (Slot H)) → map (λ x. x.part) (map wiped xs) ≡ map (λ x. x.part) xs
parts-wiped [] = refl
parts-wiped (x ∷ xs) = rw (parts-wiped xs) refl

sum_by-wiped : {H : Type 0} (xs : List (Slot H)) → sum_by count_of (map wiped xs) ≡ 0
sum_by-wiped [] = refl
sum_by-wiped (x ∷ xs) = rw (sum_by-cons count_of (wiped x) (map wiped xs)) (omega (arith, sum_by-wiped xs))

fits-wiped : {H : Type 0} (k : handler.Ghosts H) (told : Option (List Failure)) (xs : List (Slot H)) → All (IsSlot k told) (map wiped xs)
fits-wiped k told [] j d lt = absurd (omega arith)
fits-wiped k told (x ∷ xs) zero d lt = record { handler = λ z a b. absurd (b refl); work = tt; out = λ z. refl }
fits-wiped k told (x ∷ xs) (suc j) d lt = fits-wiped k told xs j d (omega arith)

pub IsLaidOut-wiped : {H : Type 0} {k : handler.Ghosts H} {told : Option (List Failure)} {made retired : ℕ} (xs : List (Slot H)) → IsLaidOut k told xs made retired → IsLaidOut k told (map wiped xs) made made
IsLaidOut-wiped {k = k} {told = told} xs was = record {
  distinct = rw (parts-wiped xs) was.distinct;
  fits = fits-wiped k told xs;
  balanced = rw (sum_by-wiped xs) (omega arith);
}
