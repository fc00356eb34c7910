-- Lists in order of key.
use Rattle.std.proofs.Common.{Less, ◌≡◌, ℕ, ◌<◌, ◌⊎◌, inl, inr, Bool, true, false, cond, not, List, [], ◌∷◌, map, filter, Some, None, Option, refl, sym, ap, ◌∙◌, subst, arith}
use Rattle.std.specs.Prelude.{◌==◌, ◌||◌, nat_lt, if◌then◌else◌, is_some, IsSome}
use Rattle.std.specs.List.{AllByRecursion, list_any}
use Rattle.std.specs.List.Sorted.{IsStrictlySortedBy}
use Rattle.std.specs.Ordering.{nat_cmp}
use Rattle.std.specs.Cmp.{nat_cmp_total}
use Rattle.std.specs.Map.{lookup, keys_of}
use Rattle.std.proofs.lemmas.Bool.{eq-eqb, eqb-true}
use Rattle.std.proofs.lemmas.Bool.Decides.{nat_tests}
use Rattle.std.proofs.lemmas.List.Kept.{IsStrictlySortedBy-filter}
use Rattle.std.proofs.lemmas.Map.{lookup-none}
use Rattle.std.proofs.lemmas.Map.Keys.{sorted_tail, IsDistinct-from_sorted}
use Rattle.std.proofs.lemmas.Map.Entries.{none_below_head}
use Rattle.hx_lists.specs.Lists.{insert_by}
use Rattle.hx_store.proofs.Entries.{lookup-at, lookup-insert_by, absent-past_head}

-- a key is found where it stands first
found_first : {X : Type 0} (e : ℕ × X) (es : List (ℕ × X)) → lookup (λ k. e.0 == k) (e ∷ es) ≡ Some e.1
found_first e es = rw (eq-eqb e.0 e.0 refl) refl

-- a key below the first isn't there
pub below_first : {X : Type 0} (q : ℕ) (e : ℕ × X) (es : List (ℕ × X)) → IsStrictlySortedBy nat_cmp (keys_of (e ∷ es)) → q < e.0 → lookup (λ k. q == k) (e ∷ es) ≡ None
below_first q e es ordered h =
    let less : nat_cmp q e.0 ≡ Less = grind (arith, nat_tests) in
    sym (lookup-at q (e ∷ es)) ∙ lookup-none _ (e ∷ es) (none_below_head nat_cmp_total q e es ordered less)

pub not_some : {X : Type 0} (o : Option X) → o ≡ None → IsSome o → ⊥
not_some None e h = cc
not_some (Some x) e h = cc

some_is : {X : Type 0} (x y : X) → Some x ≡ Some y → x ≡ y
some_is x y h = cc

pub which : (a b : ℕ) → (a < b) ⊎ ((a ≡ b) ⊎ (b < a))
which a b = grind (arith, nat_tests)

-- lists in order of key that answer alike are the same
pub same_records : {X : Type 0} (es fs : List (ℕ × X)) → IsStrictlySortedBy nat_cmp (keys_of es) → IsStrictlySortedBy nat_cmp (keys_of fs) → ((q : ℕ) → lookup (λ k. q == k) es ≡ lookup (λ k. q == k) fs) → es ≡ fs
same_records [] [] s t same = refl
same_records [] (f ∷ fs) s t same = let h : None ≡ Some f.1 = same f.0 ∙ found_first f fs in cc
same_records (e ∷ es) [] s t same = let h : None ≡ Some e.1 = sym (same e.0) ∙ found_first e es in cc
same_records {X = X} (e ∷ es) (f ∷ fs) s t same = by (which e.0 f.0) (λ h. same_records es fs (sorted_tail _ _ _ s) (sorted_tail _ _ _ t) h)
  where
    rest : e.0 ≡ f.0 → (q : ℕ) (b : Bool) → (q == e.0) ≡ b → lookup (λ k. q == k) es ≡ lookup (λ k. q == k) fs
    rest key q true i = absent-past_head q e es (IsDistinct-from_sorted _ _ s) i ∙ sym (absent-past_head q f fs (IsDistinct-from_sorted _ _ t) (ap (λ k. q == k) (sym key) ∙ i))
    rest key q false i =
        let j : (q == f.0) ≡ false = ap (λ k. q == k) (sym key) ∙ i in
        let a : lookup (λ k. q == k) (e ∷ es) ≡ lookup (λ k. q == k) es = rw i refl in
        let b : lookup (λ k. q == k) (f ∷ fs) ≡ lookup (λ k. q == k) fs = rw j refl in
        sym a ∙ same q ∙ b

    by : (e.0 < f.0) ⊎ ((e.0 ≡ f.0) ⊎ (f.0 < e.0)) → (((q : ℕ) → lookup (λ k. q == k) es ≡ lookup (λ k. q == k) fs) → es ≡ fs) → e ∷ es ≡ f ∷ fs
    by (inl h) again = let i : Some e.1 ≡ None = sym (found_first e es) ∙ same e.0 ∙ below_first e.0 f fs t h in cc
    by (inr (inr h)) again = let i : Some f.1 ≡ None = sym (found_first f fs) ∙ sym (same f.0) ∙ below_first f.0 e es s h in cc
    by (inr (inl key)) again =
        let P : ℕ → Type 0 = λ j. lookup (λ k. j == k) (f ∷ fs) ≡ Some f.1 in
        let there = subst P (sym key) (found_first f fs) in
        let value : e.1 ≡ f.1 = some_is e.1 f.1 (sym (found_first e es) ∙ same e.0 ∙ there) in
        let head : e ≡ f = λ i. (key i, value i) in
        let tail : es ≡ fs = again (λ q. rest key q (q == e.0) refl) in
        λ i. head i ∷ tail i

-- the keys of entries
pub any-keys : {X : Type 0} (q : ℕ) (es : List (ℕ × X)) → list_any (λ k. q == k) (keys_of es) ≡ is_some (lookup (λ k. q == k) es)
any-keys q [] = refl
any-keys {X = X} q (e ∷ es) = one (q == e.0) (any-keys q es)
  where
    one : (b : Bool) → list_any (λ k. q == k) (keys_of es) ≡ is_some (lookup (λ k. q == k) es) → (b || list_any (λ k. q == k) (keys_of es)) ≡ is_some (cond b (Some e.1) (lookup (λ k. q == k) es))
    one true rest = refl
    one false rest = rest

-- so are lists of keys in order that have the same
abbrev as_entries : List ℕ → List (ℕ × Unit {0})
as_entries ks = map (λ k. (k, tt)) ks

keys-as_entries : (ks : List ℕ) → keys_of (as_entries ks) ≡ ks
keys-as_entries [] = refl
keys-as_entries (k ∷ ks) = ap (λ xs. k ∷ xs) (keys-as_entries ks)

found-as_entries : (q : ℕ) (ks : List ℕ) → lookup (λ k. q == k) (as_entries ks) ≡ (if list_any (λ k. q == k) ks then Some tt else None)
found-as_entries q [] = refl
found-as_entries q (k ∷ ks) = one (q == k) (found-as_entries q ks)
  where
    one : (b : Bool) → lookup (λ j. q == j) (as_entries ks) ≡ (if list_any (λ j. q == j) ks then Some tt else None)
        → cond b (Some tt) (lookup (λ j. q == j) (as_entries ks)) ≡ (if b || list_any (λ j. q == j) ks then Some tt else None)
    one true rest = refl
    one false rest = rest

pub same_keys : (ks js : List ℕ) → IsStrictlySortedBy nat_cmp ks → IsStrictlySortedBy nat_cmp js → ((q : ℕ) → list_any (λ k. q == k) ks ≡ list_any (λ k. q == k) js) → ks ≡ js
same_keys ks js s t same =
    let both = same_records (as_entries ks) (as_entries js) (rw (keys-as_entries ks) s) (rw (keys-as_entries js) t) (λ q. found-as_entries q ks ∙ rw (same q) (sym (found-as_entries q js))) in
    sym (keys-as_entries ks) ∙ ap (λ (es : List (ℕ × Unit {0})). keys_of es) both ∙ keys-as_entries js

-- what holds of each key and of a new one holds with it
all-insert_by : {X : Type 0} (P : ℕ → Type 0) (key : ℕ) (x : X) (es : List (ℕ × X)) → AllByRecursion P (keys_of es) → P key → AllByRecursion P (keys_of (insert_by (λ a b. nat_lt a.0 b.0) (key, x) es))
all-insert_by P key x [] all p = (p, tt)
all-insert_by {X = X} P key x (e ∷ es) all p = one (nat_lt e.0 key) (all-insert_by P key x es all.1 p)
  where
    one : (b : Bool) → AllByRecursion P (keys_of (insert_by (λ a b. nat_lt a.0 b.0) (key, x) es)) → AllByRecursion P (keys_of (if b then e ∷ insert_by (λ a b. nat_lt a.0 b.0) (key, x) es else (key, x) ∷ e ∷ es))
    one true rest = (all.0, rest)
    one false rest = (p, (all.0, all.1))

all-below : (a b : ℕ) (ks : List ℕ) → nat_cmp a b ≡ Less → AllByRecursion (λ y. nat_cmp b y ≡ Less) ks → AllByRecursion (λ y. nat_cmp a y ≡ Less) ks
all-below a b [] h all = tt
all-below a b (k ∷ ks) h all = (nat_cmp_total.trans a b k h all.0, all-below a b ks h all.1)

-- a new key keeps the order
pub sorted-insert_by : {X : Type 0} (key : ℕ) (x : X) (es : List (ℕ × X)) → lookup (λ k. key == k) es ≡ None → IsStrictlySortedBy nat_cmp (keys_of es) → IsStrictlySortedBy nat_cmp (keys_of (insert_by (λ a b. nat_lt a.0 b.0) (key, x) es))
unfolding IsStrictlySortedBy
sorted-insert_by key x [] absent ordered = (tt, tt)
sorted-insert_by {X = X} key x (e ∷ es) absent ordered = one (nat_lt e.0 key) refl (key == e.0) refl absent (λ none. sorted-insert_by key x es none ordered.1)
  where
    one : (b : Bool) → nat_lt e.0 key ≡ b → (d : Bool) → (key == e.0) ≡ d → cond d (Some e.1) (lookup (λ k. key == k) es) ≡ None
        → (lookup (λ k. key == k) es ≡ None → IsStrictlySortedBy nat_cmp (keys_of (insert_by (λ a b. nat_lt a.0 b.0) (key, x) es)))
        → IsStrictlySortedBy nat_cmp (keys_of (if b then e ∷ insert_by (λ a b. nat_lt a.0 b.0) (key, x) es else (key, x) ∷ e ∷ es))
    one b i true j none rest = cc
    one true i false j none rest = let less : nat_cmp e.0 key ≡ Less = grind (arith, nat_tests) in (all-insert_by (λ y. nat_cmp e.0 y ≡ Less) key x es ordered.0 less, rest none)
    one false i false j none rest = let less : nat_cmp key e.0 ≡ Less = grind (arith, nat_tests) in ((less, all-below key e.0 (keys_of es) less ordered.0), ordered)

-- a new entry is put in order
pub inserted : {X : Type 0} (key : ℕ) (x : X) (old new : List (ℕ × X)) → lookup (λ k. key == k) old ≡ None → IsStrictlySortedBy nat_cmp (keys_of old) → IsStrictlySortedBy nat_cmp (keys_of new)
    → ((q : ℕ) → lookup (λ k. q == k) new ≡ (if key == q then Some x else lookup (λ k. q == k) old)) → new ≡ insert_by (λ a b. nat_lt a.0 b.0) (key, x) old
inserted key x old new absent s t is = same_records new _ t (sorted-insert_by key x old absent s) (λ q. is q ∙ sym (lookup-insert_by key x q old))

keys-map : {X : Type 0} (key : ℕ) (f : X → X) (es : List (ℕ × X)) → keys_of (map (λ e. if key == e.0 then (e.0, f e.1) else e) es) ≡ keys_of es
keys-map key f [] = refl
keys-map {X = X} key f (e ∷ es) = one (key == e.0) (keys-map key f es)
  where
    one : (b : Bool) → keys_of (map (λ e. if key == e.0 then (e.0, f e.1) else e) es) ≡ keys_of es → keys_of ((if b then (e.0, f e.1) else e) ∷ map (λ e. if key == e.0 then (e.0, f e.1) else e) es) ≡ e.0 ∷ keys_of es
    one true rest = ap (λ ks. e.0 ∷ ks) rest
    one false rest = ap (λ ks. e.0 ∷ ks) rest

-- so does another value
pub sorted-map : {X : Type 0} (key : ℕ) (f : X → X) (es : List (ℕ × X)) → IsStrictlySortedBy nat_cmp (keys_of es) → IsStrictlySortedBy nat_cmp (keys_of (map (λ e. if key == e.0 then (e.0, f e.1) else e) es))
sorted-map key f es ordered = rw (keys-map key f es) ordered

pub keys-filter : {X : Type 0} (p : ℕ → Bool) (es : List (ℕ × X)) → keys_of (filter (λ e. p e.0) es) ≡ filter p (keys_of es)
keys-filter p [] = refl
keys-filter {X = X} p (e ∷ es) = one (p e.0) (keys-filter p es)
  where
    one : (b : Bool) → keys_of (filter (λ e. p e.0) es) ≡ filter p (keys_of es) → keys_of (cond b (e ∷ filter (λ e. p e.0) es) (filter (λ e. p e.0) es)) ≡ cond b (e.0 ∷ filter p (keys_of es)) (filter p (keys_of es))
    one true rest = ap (λ ks. e.0 ∷ ks) rest
    one false rest = rest

-- and an entry less
pub sorted-filter : {X : Type 0} (key : ℕ) (es : List (ℕ × X)) → IsStrictlySortedBy nat_cmp (keys_of es) → IsStrictlySortedBy nat_cmp (keys_of (filter (λ e. not (key == e.0)) es))
sorted-filter key es ordered = rw (keys-filter (λ k. not (key == k)) es) (IsStrictlySortedBy-filter nat_cmp (λ k. not (key == k)) (keys_of es) ordered)

-- and any entries that are left out
all-where : {X : Type 0} (P : ℕ → Type 0) (p : ℕ × X → Bool) (es : List (ℕ × X)) → AllByRecursion P (keys_of es) → AllByRecursion P (keys_of (filter p es))
all-where P p [] all = tt
all-where {X = X} P p (e ∷ es) all = one (p e) (all-where P p es all.1)
  where
    one : (b : Bool) → AllByRecursion P (keys_of (filter p es)) → AllByRecursion P (keys_of (cond b (e ∷ filter p es) (filter p es)))
    one true rest = (all.0, rest)
    one false rest = rest

pub sorted-where : {X : Type 0} (p : ℕ × X → Bool) (es : List (ℕ × X)) → IsStrictlySortedBy nat_cmp (keys_of es) → IsStrictlySortedBy nat_cmp (keys_of (filter p es))
unfolding IsStrictlySortedBy
sorted-where p [] ordered = tt
sorted-where {X = X} p (e ∷ es) ordered = one (p e) (all-where (λ y. nat_cmp e.0 y ≡ Less) p es ordered.0) (sorted-where p es ordered.1)
  where
    one : (b : Bool) → AllByRecursion (λ y. nat_cmp e.0 y ≡ Less) (keys_of (filter p es)) → IsStrictlySortedBy nat_cmp (keys_of (filter p es)) → IsStrictlySortedBy nat_cmp (keys_of (cond b (e ∷ filter p es) (filter p es)))
    one true all rest = (all, rest)
    one false all rest = rest

-- the keys that are still to come of all
pub record IsRest {X : Type 0} (all rest : List (ℕ × X)) : Type 0 where
  pub ordered : IsStrictlySortedBy nat_cmp (keys_of rest)
  pub same : (q : ℕ) → IsSome (lookup (λ k. q == k) rest) → lookup (λ k. q == k) rest ≡ lookup (λ k. q == k) all

pub rest_start : {X : Type 0} (all rest : List (ℕ × X)) → IsStrictlySortedBy nat_cmp (keys_of all) → rest ≡ all → IsRest all rest
rest_start all rest ordered e = rw e (record { ordered = ordered; same = λ q some. refl })

-- the next of them
pub rest_here : {X : Type 0} (rest left : List (ℕ × X)) (e : ℕ × X) → rest ≡ e ∷ left → lookup (λ k. e.0 == k) rest ≡ Some e.1
rest_here rest left e next = rw next (found_first e left)

pub rest_key : {X : Type 0} (all rest left : List (ℕ × X)) (e : ℕ × X) → IsRest all rest → rest ≡ e ∷ left → lookup (λ k. e.0 == k) all ≡ Some e.1
rest_key {X = X} all rest left e is next =
    let there = rest_here rest left e next in
    sym (is.same e.0 (rw there refl)) ∙ there

pub rest_once : {X : Type 0} (all rest left : List (ℕ × X)) (e : ℕ × X) → IsRest all rest → rest ≡ e ∷ left → lookup (λ k. e.0 == k) left ≡ None
rest_once {X = X} all rest left e is next =
    let P : List (ℕ × X) → Type 0 = λ xs. IsStrictlySortedBy nat_cmp (keys_of xs) in
    absent-past_head e.0 e left (IsDistinct-from_sorted _ _ (subst P next is.ordered)) (eq-eqb e.0 e.0 refl)

pub rest_other : {X : Type 0} (all rest left : List (ℕ × X)) (e : ℕ × X) (q : ℕ) → rest ≡ e ∷ left → (e.0 == q) ≡ false → lookup (λ k. q == k) rest ≡ lookup (λ k. q == k) left
rest_other all rest left e q next other = let j : (q == e.0) ≡ false = grind (arith, nat_tests) in rw (next, j) refl

pub rest_next : {X : Type 0} (all rest left : List (ℕ × X)) (e : ℕ × X) → IsRest all rest → rest ≡ e ∷ left → IsRest all left
rest_next {X = X} all rest left e is next =
    let P : List (ℕ × X) → Type 0 = λ xs. IsStrictlySortedBy nat_cmp (keys_of xs) in
    record { ordered = sorted_tail _ _ _ (subst P next is.ordered); same = λ q some. one q (e.0 == q) refl some }
  where
    one : (q : ℕ) (b : Bool) → (e.0 == q) ≡ b → IsSome (lookup (λ k. q == k) left) → lookup (λ k. q == k) left ≡ lookup (λ k. q == k) all
    one q true i some =
        let key : e.0 ≡ q = eqb-true e.0 q i in
        let N : ℕ → Type 0 = λ j. lookup (λ k. j == k) left ≡ None in
        let none = subst N key (rest_once all rest left e is next) in
        absurd (not_some _ none some)
    one q false i some = let same = rest_other all rest left e q next i in sym same ∙ is.same q (rw same some)
