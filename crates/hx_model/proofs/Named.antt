-- Places of names, before and after more names come.
use Rattle.std.proofs.Common.{◌≡◌, ℕ, ◌+◌, ◌≤◌, ◌<◌, Bool, true, false, List, [], ◌∷◌, ◌++◌, length, refl, sym, ap, ◌∙◌, arith, length-append, subst, length-take, codes, ◌≢◌, get_or, take, true≢false}
use Rattle.std.specs.Prelude.{if◌then◌else◌, nat_lt}
use Rattle.std.specs.List.{list_any, position_or_len}
use Rattle.std.specs.Str.{bytes_eq}
use Rattle.std.proofs.lemmas.Bool.Decides.{nat_tests}
use Rattle.std.proofs.lemmas.List.{take-append-le}
use Rattle.std.proofs.lemmas.List.Sums.{prefix_len-le-length, passes_at_first}
use Rattle.std.proofs.lemmas.Slice.Eq.{bytes_eq-Decides}
use Rattle.std.proofs.lemmas.List.Folds.{position_or_len_push}
use Rattle.hx_ids.specs.Names.{place_after, interned}
use Rattle.hx_model.specs.Builtin.{AreStates, state_named}

pub place_after-le : (names : List (List ℕ)) (n : List ℕ) → place_after names n ≤ length names
place_after-le names n = prefix_len-le-length _ names

pub length-interned-le : (names : List (List ℕ)) (n : List ℕ) → length (interned names n) ≤ length names + 1
length-interned-le names n = one (list_any (bytes_eq n) names)
  where
    one : (b : Bool) → length (if b then names else names ++ n ∷ []) ≤ length names + 1
    one true = omega arith
    one false = omega (arith, length-append names (n ∷ []))

-- a test that finds an item finds it before the end, and no item where it finds none
any_place : {X : Type 0} (p : X → Bool) (xs : List X) → list_any p xs ≡ nat_lt (position_or_len p xs) (length xs)
any_place p [] = refl
any_place p (x ∷ xs) = grind (arith, nat_tests, any_place p xs)

-- a name keeps its place when it is interned, and has one from then on
pub place_after-interned : (names : List (List ℕ)) (n : List ℕ) → bytes_eq n n ≡ true → place_after (interned names n) n ≡ place_after names n
place_after-interned names n same = one (list_any (bytes_eq n) names) refl
  where
    most : place_after names n ≤ length names
    most = place_after-le names n

    one : (b : Bool) → list_any (bytes_eq n) names ≡ b → place_after (if b then names else names ++ n ∷ []) n ≡ place_after names n
    one true is = refl
    one false is = grind (arith, nat_tests, position_or_len_push (bytes_eq n) names n, any_place (bytes_eq n) names, most, same)

pub interned-has : (names : List (List ℕ)) (n : List ℕ) → bytes_eq n n ≡ true → place_after (interned names n) n < length (interned names n)
interned-has names n same = one (list_any (bytes_eq n) names) refl
  where
    most : place_after names n ≤ length names
    most = place_after-le names n

    one : (b : Bool) → list_any (bytes_eq n) names ≡ b → place_after (if b then names else names ++ n ∷ []) n < length (if b then names else names ++ n ∷ [])
    one true is = grind (arith, nat_tests, any_place (bytes_eq n) names)
    one false is = grind (arith, nat_tests, position_or_len_push (bytes_eq n) names n, any_place (bytes_eq n) names, most, same, length-append names (n ∷ []))

-- a name that has a place keeps it
pub place_after-more : (names : List (List ℕ)) (n x : List ℕ) → place_after names n < length names → place_after (interned names x) n ≡ place_after names n
place_after-more names n x has = one (list_any (bytes_eq x) names)
  where
    one : (b : Bool) → place_after (if b then names else names ++ x ∷ []) n ≡ place_after names n
    one true = refl
    one false = grind (arith, nat_tests, position_or_len_push (bytes_eq n) names x, has)

pub bytes_same : (n : List ℕ) → bytes_eq n n ≡ true
bytes_same [] = refl
bytes_same (x ∷ n) = grind (arith, nat_tests, bytes_same n)

-- a name that has a place has the same state once more names come
pub record IsKept (old new : List (List ℕ)) (n : List ℕ) : Type 0 where
  pub has : place_after new n < length new
  pub state : state_named old n ≡ state_named new n

interned-longer : (names : List (List ℕ)) (x : List ℕ) → length names ≤ length (interned names x)
interned-longer names x = one (list_any (bytes_eq x) names)
  where
    one : (b : Bool) → length names ≤ length (if b then names else names ++ x ∷ [])
    one true = omega arith
    one false = omega (arith, length-append names (x ∷ []))

pub kept_more : (old new : List (List ℕ)) (n x : List ℕ) → new ≡ interned old x → place_after old n < length old → IsKept old new n
kept_more old new n x is has =
    let P : List (List ℕ) → Type 0 = λ v. IsKept old v n in
    let same = place_after-more old n x has in
    subst P (sym is) (record { has = omega (arith, same, interned-longer old x); state = ap (λ (i : ℕ). record { 0 = i }) (sym same) })

-- one that is interned has a place
pub has_interned : (old new : List (List ℕ)) (n : List ℕ) → new ≡ interned old n → place_after new n < length new
has_interned old new n is =
    let P : List (List ℕ) → Type 0 = λ v. place_after v n < length v in
    subst P (sym is) (interned-has old n (bytes_same n))

-- the first two names stay, and so do all that stood before
pub states_more : (old new : List (List ℕ)) (x : List ℕ) → new ≡ interned old x → AreStates old → AreStates new
states_more old new x is h =
    let P : List (List ℕ) → Type 0 = λ v. AreStates v in
    subst P (sym is) (one (list_any (bytes_eq x) old) old h)
  where
    one : (b : Bool) (names : List (List ℕ)) → AreStates names → AreStates (if b then names else names ++ x ∷ [])
    one true names h = h
    one false [] h = cc
    one false (a ∷ []) h = cc
    one false (a ∷ b ∷ names) h = h

pub take_more : (first old new : List (List ℕ)) (x : List ℕ) → new ≡ interned old x → take (length first) old ≡ first → take (length first) new ≡ first
take_more first old new x is h =
    let P : List (List ℕ) → Type 0 = λ v. take (length first) v ≡ first in
    subst P (sym is) (one (list_any (bytes_eq x) old))
  where
    longer : length first ≤ length old
    longer = omega (arith, length-take (length first) old, ap length h)

    one : (b : Bool) → take (length first) (if b then old else old ++ x ∷ []) ≡ first
    one true = h
    one false = let fits = longer in rw take-append-le h

-- a name that no model shares has no state of theirs
pub state-low : (names : List (List ℕ)) (n : List ℕ) → AreStates names → bytes_eq n (codes "ERROR") ≡ false → bytes_eq n (codes "DROPPED") ≡ false → 2 ≤ place_after names n
state-low [] n h e d = cc
state-low (a ∷ []) n h e d = cc
state-low (a ∷ b ∷ names) n h e d =
    let one : a ≡ codes "ERROR" = cc in
    let two : b ≡ codes "DROPPED" = cc in
    let first : bytes_eq n a ≡ false = ap (bytes_eq n) one ∙ e in
    let second : bytes_eq n b ≡ false = ap (bytes_eq n) two ∙ d in
    rw (first, second) (omega arith)

-- different names have different places
pub places_differ : (names : List (List ℕ)) (n k : List ℕ) → bytes_eq n k ≡ false → place_after names n < length names → place_after names n ≢ place_after names k
places_differ names n k other has same =
    let one : bytes_eq n (get_or names (place_after names n) []) ≡ true = passes_at_first (bytes_eq n) names [] has in
    let two : bytes_eq k (get_or names (place_after names k) []) ≡ true = passes_at_first (bytes_eq k) names [] (omega (arith, same)) in
    let is = (bytes_eq-Decides n (get_or names (place_after names n) [])).0 one in
    let was = (bytes_eq-Decides k (get_or names (place_after names k) [])).0 two in
    let names_same : n ≡ k = is ∙ ap (λ i. get_or names i []) same ∙ sym was in
    true≢false (sym (ap (bytes_eq n) (sym names_same) ∙ bytes_same n) ∙ other)
