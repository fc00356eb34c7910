-- A transition as one number.
use Rattle.std.proofs.Common.{◌≡◌, ℕ, ◌+◌, ◌*◌, ◌<◌, ◌==◌, ◌&&◌, eqb, Bool, true, false, List, [], ◌∷◌, ◌++◌, length, map, take, get_or, ◌≤◌, length-take-le, ◌∙◌, refl, sym, subst, add-one, arith}
use Rattle.std.specs.List.{list_any, list_all}
use Rattle.std.specs.Prelude.{nat_lt}
use Rattle.std.proofs.lemmas.List.Folds.{list_all-append}
use Rattle.std.proofs.Math.Seq.{take-suc}
use Rattle.std.proofs.lemmas.Bool.Decides.{nat_tests}
use Rattle.hx_ids.specs.declared.StateId.{StateId}
use Rattle.hx_lists.proofs.Known.{AreKnown, known_none, known_item, place-known}
use Rattle.hx_model.specs.Model.{is_between}

abbrev pub pair_number : StateId × StateId → ℕ
pair_number t = 256 * t.0.0 + t.1.0

same_bytes : (a b c d : ℕ) → b < 256 → d < 256 → 256 * a + b ≡ 256 * c + d → (a ≡ c) × (b ≡ d)
same_bytes a b c d lb ld e = let one : a ≡ c = omega arith in (one, omega (arith, one))

differs : (a b c d : ℕ) → b < 256 → d < 256 → ((a == c) && (b == d)) ≡ false → eqb (256 * a + b) (256 * c + d) ≡ false
differs a b c d lb ld e = one (eqb (256 * a + b) (256 * c + d)) refl
  where
    one : (v : Bool) → eqb (256 * a + b) (256 * c + d) ≡ v → v ≡ false
    one false is = refl
    one true is =
        let same : 256 * a + b ≡ 256 * c + d = grind (arith, nat_tests) in
        let both = same_bytes a b c d lb ld same in
        grind (arith, nat_tests, both.0, both.1)

no_number : (ts : List (StateId × StateId)) (t : StateId × StateId) → list_all (λ b. nat_lt b.1.0 256) ts ≡ true → t.1.0 < 256 → list_any (is_between t.0 t.1) ts ≡ false → list_any (λ b. eqb (pair_number b) (pair_number t)) ts ≡ false
no_number [] t low lt none = refl
no_number (b ∷ ts) t low lt none =
    let here : ((b.0.0 == t.0.0) && (b.1.0 == t.1.0)) ≡ false = grind (arith, nat_tests, none) in
    let byte : b.1.0 < 256 = grind (arith, nat_tests, low) in
    let other : eqb (pair_number b) (pair_number t) ≡ false = differs b.0.0 b.1.0 t.0.0 t.1.0 byte lt here in
    grind (arith, nat_tests, other, no_number ts t, low, none)

pub record ArePairs (ts : List (StateId × StateId)) : Type 0 where
  pub bytes : list_all (λ b. nat_lt b.1.0 256) ts ≡ true
  pub known : AreKnown 65536 (map pair_number ts)

pub pairs_none : ArePairs []
pairs_none = record { bytes = refl; known = known_none 65536 }

pairs_push : (ts : List (StateId × StateId)) (t : StateId × StateId) → ArePairs ts → t.0.0 < 256 → t.1.0 < 256 → list_any (is_between t.0 t.1) ts ≡ false → ArePairs (ts ++ t ∷ [])
pairs_push ts t p from to none = record {
  bytes = list_all-append (λ b. nat_lt b.1.0 256) ts (t ∷ []) ∙ grind (arith, nat_tests, p.bytes);
  known = known_item pair_number 65536 ts t p.known (omega arith) (no_number ts t p.bytes to none);
}

-- distinct transitions so far, and one more
pub pairs_more : (ts : List (StateId × StateId)) (i : ℕ) (d : StateId × StateId) → i < length ts → ArePairs (take i ts) → (get_or ts i d).0.0 < 256 → (get_or ts i d).1.0 < 256 → list_any (is_between (get_or ts i d).0 (get_or ts i d).1) (take i ts) ≡ false → ArePairs (take (i + 1) ts)
pairs_more ts i d lt p from to none =
    let P : List (StateId × StateId) → Type 0 = λ xs. ArePairs xs in
    let one : take (i + 1) ts ≡ take i ts ++ get_or ts i d ∷ [] = rw add-one (take-suc ts i d lt) in
    subst P (sym one) (pairs_push (take i ts) (get_or ts i d) p from to none)

pub length-pairs : (ts : List (StateId × StateId)) (i : ℕ) → i ≤ length ts → length ts ≤ i → ArePairs (take i ts) → length ts ≤ 65536
length-pairs ts i le ge p = omega (arith, place-known pair_number 65536 i ts le p.known, length-take-le i ts le)
