-- Entries without a fault are known ones.
use Rattle.std.proofs.Common.{◌≡◌, ℕ, ◌+◌, ◌<◌, eqb, not, Bool, true, false, List, [], ◌∷◌, ◌++◌, length, map, take, get_or, Some, None, refl, sym, subst, add-one, arith}
use Rattle.std.specs.Prelude.{nat_lt, if◌then◌else◌}
use Rattle.std.specs.List.{list_any}
use Rattle.std.proofs.lemmas.Bool.Decides.{nat_tests}
use Rattle.std.proofs.Math.Seq.{take-suc}
use Rattle.hx_ids.specs.declared.InstanceId.{InstanceId}
use Rattle.hx_ids.specs.declared.StateId.{StateId}
use Rattle.hx_ideal.specs.declared.IdealFault.TheVariants.{UnknownInstance, UnknownState, TwiceInList}
use Rattle.hx_ideal.specs.Faults.{id_fault, entry_fault}
use Rattle.hx_lists.proofs.Known.{AreKnown, known_item}

pub known_id : (n part : ℕ) (xs : List InstanceId) (i : InstanceId) → id_fault n part xs i ≡ None → AreKnown n (map (λ x. x.0) xs) → AreKnown n (map (λ x. x.0) (xs ++ i ∷ []))
known_id n part xs i e k = one (nat_lt i.0 n) (list_any (λ b. eqb b.0 i.0) xs) refl refl e
  where
    one : (a b : Bool) → nat_lt i.0 n ≡ a → list_any (λ b. eqb b.0 i.0) xs ≡ b
        → (if not a then Some (UnknownInstance part (length xs)) else if b then Some (TwiceInList part (length xs)) else None) ≡ None
        → AreKnown n (map (λ x. x.0) (xs ++ i ∷ []))
    one false b u v e = cc
    one true true u v e = cc
    one true false u v e = known_item (λ x. x.0) n xs i k (grind (arith, nat_tests)) v

pub known_entry : (n : ℕ) (states : List StateId) (part : ℕ) (xs : List (InstanceId × StateId)) (x : InstanceId × StateId) → entry_fault n states part xs x ≡ None → AreKnown n (map (λ x. x.0.0) xs) → AreKnown n (map (λ x. x.0.0) (xs ++ x ∷ []))
known_entry n states part xs x e k = one (nat_lt x.0.0 n) (list_any (λ s. eqb s.0 x.1.0) states) (list_any (λ b. eqb b.0.0 x.0.0) xs) refl refl refl e
  where
    one : (a b c : Bool) → nat_lt x.0.0 n ≡ a → list_any (λ s. eqb s.0 x.1.0) states ≡ b → list_any (λ b. eqb b.0.0 x.0.0) xs ≡ c
        → (if not a then Some (UnknownInstance part (length xs)) else if not b then Some (UnknownState part (length xs)) else if c then Some (TwiceInList part (length xs)) else None) ≡ None
        → AreKnown n (map (λ x. x.0.0) (xs ++ x ∷ []))
    one false b c u v w e = cc
    one true false c u v w e = cc
    one true true true u v w e = cc
    one true true false u v w e = known_item (λ x. x.0.0) n xs x k (grind (arith, nat_tests)) w

-- the entries so far, at the next one
pub known_ids : (n part : ℕ) (xs : List InstanceId) (i : ℕ) (d : InstanceId) → i < length xs → id_fault n part (take i xs) (get_or xs i d) ≡ None → AreKnown n (map (λ x. x.0) (take i xs)) → AreKnown n (map (λ x. x.0) (take (i + 1) xs))
known_ids n part xs i d lt e k =
    let P : List InstanceId → Type 0 = λ ys. AreKnown n (map (λ x. x.0) ys) in
    let one : take (i + 1) xs ≡ take i xs ++ get_or xs i d ∷ [] = rw add-one (take-suc xs i d lt) in
    subst P (sym one) (known_id n part (take i xs) (get_or xs i d) e k)

pub known_entries : (n : ℕ) (states : List StateId) (part : ℕ) (xs : List (InstanceId × StateId)) (i : ℕ) (d : InstanceId × StateId) → i < length xs → entry_fault n states part (take i xs) (get_or xs i d) ≡ None → AreKnown n (map (λ x. x.0.0) (take i xs)) → AreKnown n (map (λ x. x.0.0) (take (i + 1) xs))
known_entries n states part xs i d lt e k =
    let P : List (InstanceId × StateId) → Type 0 = λ ys. AreKnown n (map (λ x. x.0.0) ys) in
    let one : take (i + 1) xs ≡ take i xs ++ get_or xs i d ∷ [] = rw add-one (take-suc xs i d lt) in
    subst P (sym one) (known_entry n states part (take i xs) (get_or xs i d) e k)
