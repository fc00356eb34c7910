-- Slots stay laid out when one is put or added.
use Rattle.std.proofs.Common.{◌≡◌, ℕ, ◌+◌, ◌<◌, ◌++◌, ◌∷◌, [], List, zero, suc, map, length, get_or, set, arith, refl, false, Option}
use Rattle.std.specs.List.{All, list_any}
use Rattle.std.proofs.Math.Seq.{map-set_same}
use Rattle.std.proofs.lemmas.List.Elements.{All-set}
use Rattle.std.proofs.lemmas.List.Sums.{sum_by-set, sum_by-cons, sum_by-append}
use Rattle.std.proofs.lemmas.Grind.{common_steps}
use Rattle.hx_ids.specs.declared.PartId.{PartId}
use Rattle.hx_cluster.specs.declared.description.Failure.{Failure}
use Rattle.hx_cluster.specs.Ends.{part_eq}
use Rattle.hx_handler.specs.declared.Handler as handler
use Rattle.hx_replicas.specs.declared.slots.Slot.{Slot}
use Rattle.hx_replicas.specs.Layout.{count_of, IsSlot, IsLaidOut, AreDistinct, has_part}

not_among : {H : Type 0} (q : PartId) (xs : List (Slot H)) (y : Slot H) → list_any (part_eq q) (map (λ x. x.part) xs) ≡ false → part_eq q y.part ≡ false → list_any (part_eq q) (map (λ x. x.part) (xs ++ y ∷ [])) ≡ false
not_among q [] y none other = grind (arith, common_steps)
not_among q (x ∷ xs) y none other = grind (arith, common_steps, not_among q xs y)

AreDistinct-push : {H : Type 0} (xs : List (Slot H)) (y : Slot H) → list_any (has_part y.part) xs ≡ false → AreDistinct (map (λ x. x.part) xs) → AreDistinct (map (λ x. x.part) (xs ++ y ∷ []))
AreDistinct-push [] y new was = (refl, tt)
AreDistinct-push (x ∷ xs) y new was =
    (not_among x.part xs y was.0 (grind (arith, common_steps)), AreDistinct-push xs y (grind (arith, common_steps)) was.1)

module _ {H : Type 0} {k : handler.Ghosts H} {told : Option (List Failure)} where
  pub IsLaidOut-set : {made retired made' retired' : ℕ} (xs : List (Slot H)) (i : ℕ) (y d : Slot H) → i < length xs → y.part ≡ (get_or xs i d).part → IsSlot k told y → made' + retired + count_of (get_or xs i d) ≡ made + retired' + count_of y → IsLaidOut k told xs made retired → IsLaidOut k told (set xs i y) made' retired'
  IsLaidOut-set xs i y d lt same fits counts was = record {
    distinct = rw (map-set_same (λ (x : Slot H). x.part) xs i y d same) was.distinct;
    fits = All-set (IsSlot k told) xs i y fits was.fits;
    balanced = omega (arith, sum_by-set count_of xs i y d lt, counts, was.balanced);
  }

  fits-push : (xs : List (Slot H)) (y : Slot H) → IsSlot k told y → All (IsSlot k told) xs → All (IsSlot k told) (xs ++ y ∷ [])
  fits-push [] y fits was zero d lt = fits
  fits-push [] y fits was (suc j) d lt = absurd (omega arith)
  fits-push (x ∷ xs) y fits was zero d lt = was 0 d (omega arith)
  fits-push (x ∷ xs) y fits was (suc j) d lt = fits-push xs y fits (λ n e below. was (suc n) e (omega arith)) j d (omega arith)

  pub IsLaidOut-push : {made retired : ℕ} (xs : List (Slot H)) (y : Slot H) → list_any (has_part y.part) xs ≡ false → IsSlot k told y → count_of y ≡ 0 → IsLaidOut k told xs made retired → IsLaidOut k told (xs ++ y ∷ []) made retired
  IsLaidOut-push xs y new fits none was = record {
    distinct = AreDistinct-push xs y new was.distinct;
    fits = fits-push xs y fits was.fits;
    balanced = rw (sum_by-append count_of xs (y ∷ [])) (omega (arith, sum_by-cons count_of y [], none, was.balanced));
  }
