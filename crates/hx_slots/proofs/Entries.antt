-- Entries of records in order of key, and what holds of all.
use Rattle.std.proofs.Common.{◌≡◌, ℕ, Bool, true, false, cond, not, List, [], ◌∷◌, filter, find, Some, None, Option, refl, sym, ap, ◌∙◌, subst}
use Rattle.std.specs.Prelude.{◌==◌, ◌&&◌, ◌||◌, if◌then◌else◌, IfSome, option_map}
use Rattle.std.specs.List.{list_any, AllByRecursion}
use Rattle.std.specs.List.Sorted.{IsStrictlySortedBy}
use Rattle.std.specs.Ordering.{nat_cmp}
use Rattle.std.specs.Map.{keys_of}
use Rattle.std.proofs.lemmas.Bool.{eqb-true}
use Rattle.std.proofs.lemmas.Map.Keys.{sorted_tail, IsDistinct-from_sorted}
use Rattle.hx_lists.specs.Lists.{insert_by}
use Rattle.hx_store.specs.declared.Record.{Record}
use Rattle.hx_store.specs.Records.{record_at, set_to, changed}
use Rattle.hx_store.proofs.Entries.{absent-past_head}
use Rattle.hx_safe.proofs.Counting.{find-passes}
use Rattle.hx_slots.specs.Slots.{values_of}

-- what a look-up told of a record
pub some_is : {X : Type 0} (x y : X) → Some x ≡ Some y → x ≡ y
some_is x y h = cc

pub none_of : {X Y : Type 0} (f : X → Y) (o : Option X) → None ≡ option_map f o → o ≡ None
none_of f None h = refl
none_of f (Some x) h = cc

pub value_of : {X : Type 0} (w : X) (o : Option (Record X)) → Some w ≡ option_map (λ r. r.value) o → (r : Record X) × (o ≡ Some r) × (r.value ≡ w)
value_of w None h = cc
value_of w (Some r) h = (r, refl, some_is r.value w (sym h))

-- of all
pub all-insert : {X : Type 0} (P : X → Type 0) (before : X → X → Bool) (x : X) (xs : List X) → AllByRecursion P xs → P x → AllByRecursion P (insert_by before x xs)
all-insert P before x [] all p = (p, tt)
all-insert {X = X} P before x (y ∷ ys) all p = one (before y x) (all-insert P before x ys all.1 p)
  where
    one : (b : Bool) → AllByRecursion P (insert_by before x ys) → AllByRecursion P (if b then y ∷ insert_by before x ys else x ∷ y ∷ ys)
    one true rest = (all.0, rest)
    one false rest = (p, all)

pub all-filter : {X : Type 0} (P : X → Type 0) (p : X → Bool) (xs : List X) → AllByRecursion P xs → AllByRecursion P (filter p xs)
all-filter P p [] all = tt
all-filter {X = X} P p (x ∷ xs) all = one (p x) (all-filter P p xs all.1)
  where
    one : (b : Bool) → AllByRecursion P (filter p xs) → AllByRecursion P (cond b (x ∷ filter p xs) (filter p xs))
    one true rest = (all.0, rest)
    one false rest = rest

pub all-also : {X : Type 0} (P Q R : X → Type 0) → ((x : X) → P x → Q x → R x) → (xs : List X) → AllByRecursion P xs → AllByRecursion Q xs → AllByRecursion R xs
all-also P Q R h [] ps qs = tt
all-also P Q R h (x ∷ xs) ps qs = (h x ps.0 qs.0, all-also P Q R h xs ps.1 qs.1)

pub all-weaker : {X : Type 0} (P R : X → Type 0) → ((x : X) → P x → R x) → (xs : List X) → AllByRecursion P xs → AllByRecursion R xs
all-weaker P R h [] ps = tt
all-weaker P R h (x ∷ xs) ps = (h x ps.0, all-weaker P R h xs ps.1)

-- what holds of all holds of the record of a key
pub all-at : {X : Type 0} (P : ℕ × Record X → Type 0) (k : ℕ) (r : Record X) (es : List (ℕ × Record X)) → AllByRecursion P es → record_at es k ≡ Some r → P (k, r)
all-at P k r [] all there = cc
all-at {X = X} P k r (e ∷ es) all there = one (k == e.0) refl there (all-at P k r es all.1)
  where
    some_is : (x y : Record X) → Some x ≡ Some y → x ≡ y
    some_is x y h = cc

    one : (b : Bool) → (k == e.0) ≡ b → cond b (Some e.1) (record_at es k) ≡ Some r → (record_at es k ≡ Some r → P (k, r)) → P (k, r)
    one true i h rest =
        let key : k ≡ e.0 = eqb-true k e.0 i in
        let same : e.1 ≡ r = some_is e.1 r h in
        let IsAt : ℕ → Type 0 = λ j. P (j, r) in
        let Is : Record X → Type 0 = λ x. P (e.0, x) in
        subst IsAt (sym key) (subst Is same all.0)
    one false i h rest = rest h

-- only the record of a key has it
pub only_at : {X : Type 0} (P : Record X → Type 0) (k : ℕ) (es : List (ℕ × Record X)) → IsStrictlySortedBy nat_cmp (keys_of es) → IfSome (record_at es k) P → AllByRecursion (λ e. (k == e.0) ≡ true → P e.1) es
only_at P k [] ordered h = tt
only_at {X = X} P k (e ∷ es) ordered h = one (k == e.0) refl h (only_at P k es (sorted_tail _ _ _ ordered))
  where
    All : Type 0
    All = AllByRecursion (λ (x : ℕ × Record X). (k == x.0) ≡ true → P x.1) es

    none : (o : Option (Record X)) → o ≡ None → IfSome o P
    none None g = tt
    none (Some r) g = cc

    first : (b : Bool) → (k == e.0) ≡ b → (b ≡ true → P e.1) → (k == e.0) ≡ true → P e.1
    first b i f j = f (sym i ∙ j)

    one : (b : Bool) → (k == e.0) ≡ b → IfSome (cond b (Some e.1) (record_at es k)) P → (IfSome (record_at es k) P → All) → ((k == e.0) ≡ true → P e.1) × All
    one true i g rest = (first true i (λ _. g), rest (none _ (absent-past_head k e es (IsDistinct-from_sorted _ _ ordered) i)))
    one false i g rest = (first false i (λ f. cc), rest g)

-- what holds of all, and of another value at a key
pub all-set : {X : Type 0} (P : ℕ × Record X → Type 0) (k : ℕ) (v : X) (r : Record X) (es : List (ℕ × Record X)) → IsStrictlySortedBy nat_cmp (keys_of es) → AllByRecursion P es → record_at es k ≡ Some r
    → P (k, changed r v) → AllByRecursion P (set_to es k v)
all-set {X = X} P k v r es ordered all there here = go es all (only_at (λ x. x ≡ r) k es ordered (rw there refl))
  where
    Is : ℕ × Record X → Type 0
    Is e = (k == e.0) ≡ true → e.1 ≡ r

    one : (e : ℕ × Record X) (b : Bool) → (k == e.0) ≡ b → P e → Is e → P (if b then (e.0, changed e.1 v) else e)
    one e false i p is = p
    one e true i p is =
        let key : k ≡ e.0 = eqb-true k e.0 i in
        let IsAt : ℕ → Type 0 = λ j. P (j, changed r v) in
        let OfRecord : Record X → Type 0 = λ x. P (e.0, changed x v) in
        subst OfRecord (sym (is i)) (subst IsAt key here)

    go : (xs : List (ℕ × Record X)) → AllByRecursion P xs → AllByRecursion Is xs → AllByRecursion P (set_to xs k v)
    go [] ps qs = tt
    go (e ∷ xs) ps qs = (one e (k == e.0) refl ps.0 qs.0, go xs ps.1 qs.1)

-- tests on plain lists
pub filter-none : {X : Type 0} (p : X → Bool) (xs : List X) → list_any p xs ≡ false → filter (λ x. not (p x)) xs ≡ xs
filter-none p [] h = refl
filter-none {X = X} p (x ∷ xs) h = one (p x) h (filter-none p xs)
  where
    one : (b : Bool) → (b || list_any p xs) ≡ false → (list_any p xs ≡ false → filter (λ y. not (p y)) xs ≡ xs) → cond (not b) (x ∷ filter (λ y. not (p y)) xs) (filter (λ y. not (p y)) xs) ≡ x ∷ xs
    one true g rest = cc
    one false g rest = ap (λ ys. x ∷ ys) (rest g)

pub none_any : {X : Type 0} (p : X → Bool) (xs : List X) → find p xs ≡ None → list_any p xs ≡ false
none_any p [] h = refl
none_any {X = X} p (x ∷ xs) h = one (p x) h (none_any p xs)
  where
    one : (b : Bool) → cond b (Some x) (find p xs) ≡ None → (find p xs ≡ None → list_any p xs ≡ false) → (b || list_any p xs) ≡ false
    one true g rest = cc
    one false g rest = rest g

-- values among which none is found
pub none_found : {X : Type 0} (p : X → Bool) (es : List (ℕ × Record X)) → find p (values_of es) ≡ None → AllByRecursion (λ e. p e.1.value ≡ false) es
none_found p [] h = tt
none_found {X = X} p (e ∷ es) h = one (p e.1.value) refl h (none_found p es)
  where
    one : (b : Bool) → p e.1.value ≡ b → cond b (Some e.1.value) (find p (values_of es)) ≡ None → (find p (values_of es) ≡ None → AllByRecursion (λ (x : ℕ × Record X). p x.1.value ≡ false) es)
        → (p e.1.value ≡ false) × AllByRecursion (λ (x : ℕ × Record X). p x.1.value ≡ false) es
    one true i g rest = cc
    one false i g rest = (i, rest g)

-- the first of a list's filter
abbrev pub first_of : {X : Type 0} → List X → Option X
first_of [] = None
first_of (x ∷ xs) = Some x

pub find-first : {X : Type 0} (p : X → Bool) (xs : List X) → find p xs ≡ first_of (filter p xs)
find-first p [] = refl
find-first {X = X} p (x ∷ xs) = one (p x) (find-first p xs)
  where
    one : (b : Bool) → find p xs ≡ first_of (filter p xs) → cond b (Some x) (find p xs) ≡ first_of (cond b (x ∷ filter p xs) (filter p xs))
    one true rest = refl
    one false rest = rest

-- a test of what passes another
pub any-filter : {X : Type 0} (p q : X → Bool) (xs : List X) → list_any p (filter q xs) ≡ list_any (λ x. p x && q x) xs
any-filter p q [] = refl
any-filter {X = X} p q (x ∷ xs) = one (p x) refl (q x) (any-filter p q xs)
  where
    one : (a : Bool) → p x ≡ a → (b : Bool) → list_any p (filter q xs) ≡ list_any (λ y. p y && q y) xs → list_any p (cond b (x ∷ filter q xs) (filter q xs)) ≡ ((a && b) || list_any (λ y. p y && q y) xs)
    one true i true rest = rw i refl
    one true i false rest = rest
    one false i true rest = rw i rest
    one false i false rest = rest

-- an entry of a value that is found
pub entry_of : {X : Type 0} (P : ℕ × Record X → Type 0) (p : X → Bool) (v : X) (es : List (ℕ × Record X)) → AllByRecursion P es → find p (values_of es) ≡ Some v → (e : ℕ × Record X) × P e × (e.1.value ≡ v)
entry_of P p v [] all h = cc
entry_of {X = X} P p v (e ∷ es) all h = one (p e.1.value) h (entry_of P p v es all.1)
  where
    one : (b : Bool) → cond b (Some e.1.value) (find p (values_of es)) ≡ Some v → (find p (values_of es) ≡ Some v → (x : ℕ × Record X) × P x × (x.1.value ≡ v)) → (x : ℕ × Record X) × P x × (x.1.value ≡ v)
    one true g rest = (e, all.0, some_is e.1.value v g)
    one false g rest = rest g

-- the first that passes
pub first_passes : {X : Type 0} (p : X → Bool) (x : X) (xs ys : List X) → filter p xs ≡ x ∷ ys → p x ≡ true
first_passes p x xs ys h = find-passes p xs x (find-first p xs ∙ ap first_of h)
