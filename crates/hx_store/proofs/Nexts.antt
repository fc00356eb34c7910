-- The first key of an owner from a key on.
use Rattle.std.proofs.Common.{◌≡◌, ℕ, ◌≤◌, ◌<◌, ◌⊎◌, inl, inr, Bool, true, false, cond, List, [], ◌∷◌, Some, None, Option, find, filter, ◌+◌, Less, refl, sym, ap, ◌∙◌, subst, arith}
use Rattle.std.specs.Prelude.{◌==◌, ◌&&◌, nat_le, option_map}
use Rattle.std.specs.List.Sorted.{IsStrictlySortedBy}
use Rattle.std.specs.Map.{keys_of}
use Rattle.std.specs.Ordering.{nat_cmp}
use Rattle.std.proofs.lemmas.Bool.{eq-eqb}
use Rattle.std.proofs.lemmas.Bool.Decides.{nat_tests}
use Rattle.std.proofs.lemmas.Map.Keys.{sorted_tail, sorted_head, IsDistinct-from_sorted}
use Rattle.std.specs.List.{AllByRecursion}
use Rattle.hx_ids.specs.declared.SessionId.{SessionId}
use Rattle.hx_store.specs.declared.Record.{Record}
use Rattle.hx_store.specs.Records.{record_at, owns, is_owned_by, next_owned, owned_from}
use Rattle.hx_store.specs.Owners.{has, owner_of, IsStore, IsFirstFrom}
use Rattle.hx_store.proofs.Entries.{absent-past_head}
use Rattle.hx_store.proofs.Sorted.{below_first, which}

-- whether a session owns the record of a key
abbrev owned_at : {X : Type 0} → List (ℕ × Record X) → SessionId → ℕ → Bool
owned_at es owner k = owns (owner_of (record_at es k)) owner

-- at the head
at_head : {X : Type 0} (owner : SessionId) (e : ℕ × Record X) (es : List (ℕ × Record X)) → owned_at (e ∷ es) owner e.0 ≡ is_owned_by owner e
at_head owner e es = rw (eq-eqb e.0 e.0 refl) refl

-- below the head
below_head : {X : Type 0} (owner : SessionId) (k : ℕ) (e : ℕ × Record X) (es : List (ℕ × Record X)) → IsStrictlySortedBy nat_cmp (keys_of (e ∷ es)) → k < e.0 → owned_at (e ∷ es) owner k ≡ false
below_head owner k e es ordered less = rw (below_first k e es ordered less) refl

-- past a head that isn't owned
past_free : {X : Type 0} (owner : SessionId) (k : ℕ) (e : ℕ × Record X) (es : List (ℕ × Record X)) → IsStrictlySortedBy nat_cmp (keys_of (e ∷ es)) → (k ≡ e.0 → is_owned_by owner e ≡ false) → owned_at es owner k ≡ owned_at (e ∷ es) owner k
past_free owner k e es ordered free = one (k == e.0) refl
  where
    one : (b : Bool) → (k == e.0) ≡ b → owned_at es owner k ≡ owns (owner_of (cond (k == e.0) (Some e.1) (record_at es k))) owner
    one true is = rw (is, absent-past_head k e es (IsDistinct-from_sorted _ _ ordered) is) (sym (free (grind (arith, nat_tests))))
    one false is = rw is refl

first_along : (from : ℕ) (f g : ℕ → Bool) (r : Option ℕ) → ((k : ℕ) → from ≤ k → g k ≡ f k) → IsFirstFrom f from r → IsFirstFrom g from r
first_along from f g None same first = λ k up. same k up ∙ first k up
first_along from f g (Some k) same first = (first.0, same k first.0 ∙ first.1, λ q up less. same q up ∙ first.2 q up less)

pub first_is : {X : Type 0} (owner : SessionId) (from : ℕ) (es : List (ℕ × Record X)) (r : Option ℕ) → IsStrictlySortedBy nat_cmp (keys_of es) → IsFirstFrom (owned_at es owner) from r → r ≡ next_owned es owner from
first_is owner from [] None ordered first = refl
first_is owner from [] (Some k) ordered first = let no : false ≡ true = first.1 in cc
first_is {X = X} owner from (e ∷ es) r ordered first = one (is_owned_by owner e) refl (nat_le from e.0) refl r first (λ s f. first_is owner from es s (sorted_tail _ _ _ ordered) f)
  where
    here : is_owned_by owner e ≡ true → from ≤ e.0 → (s : Option ℕ) → IsFirstFrom (owned_at (e ∷ es) owner) from s → s ≡ Some e.0
    here own up None f = let no : true ≡ false = sym own ∙ sym (at_head owner e es) ∙ f e.0 up in cc
    here own up (Some k) f = by (which k e.0)
      where
        by : (k < e.0) ⊎ ((k ≡ e.0) ⊎ (e.0 < k)) → Some k ≡ Some e.0
        by (inl less) = let no : true ≡ false = sym f.1 ∙ below_head owner k e es ordered less in cc
        by (inr (inl is)) = ap (λ j. Some j) is
        by (inr (inr more)) = let no : true ≡ false = sym own ∙ sym (at_head owner e es) ∙ f.2 e.0 up more in cc

    Rest : Type 0
    Rest = (s : Option ℕ) → IsFirstFrom (owned_at es owner) from s → s ≡ next_owned es owner from

    past : ((k : ℕ) → from ≤ k → k ≡ e.0 → is_owned_by owner e ≡ false) → (s : Option ℕ) → IsFirstFrom (owned_at (e ∷ es) owner) from s → Rest → s ≡ next_owned es owner from
    past free s f rest = rest s (first_along from (owned_at (e ∷ es) owner) (owned_at es owner) s (λ k up. past_free owner k e es ordered (free k up)) f)

    one : (b : Bool) → is_owned_by owner e ≡ b → (d : Bool) → nat_le from e.0 ≡ d → (s : Option ℕ) → IsFirstFrom (owned_at (e ∷ es) owner) from s → Rest → s ≡ next_owned (e ∷ es) owner from
    one true own true up s f rest = rw (own, up) (here own (grind (arith, nat_tests)) s f)
    one true own false up s f rest = rw (own, up) (past (λ k least is. absurd (grind (arith, nat_tests))) s f rest)
    one false own d up s f rest = rw own (past (λ k least is. own) s f rest)

pub next_is : {X : Type 0} (owner : SessionId) (from : ℕ) (es now : List (ℕ × Record X)) (pairs : List (SessionId × List ℕ)) (r : Option ℕ) → es ≡ now → IsStore es pairs → IsFirstFrom (has pairs owner) from r → r ≡ next_owned now owner from
next_is {X = X} owner from es now pairs r same is first =
    first_is owner from es r is.ordered (first_along from (has pairs owner) (owned_at es owner) r (λ k up. sym (is.indexed owner k)) first)
    ∙ ap (λ (xs : List (ℕ × Record X)). next_owned xs owner from) same

-- after the last there is none
pub next_end : {X : Type 0} (owner : SessionId) (from : ℕ) (es : List (ℕ × Record X)) → None ≡ next_owned es owner from → owned_from es owner from ≡ []
next_end owner from [] none = refl
next_end {X = X} owner from (e ∷ es) none = one (is_owned_by owner e && nat_le from e.0) refl none (next_end owner from es)
  where
    one : (b : Bool) → (is_owned_by owner e && nat_le from e.0) ≡ b → None ≡ option_map (λ x. x.0) (cond b (Some e) (find (λ x. is_owned_by owner x && nat_le from x.0) es))
        → (None ≡ next_owned es owner from → owned_from es owner from ≡ []) → owned_from (e ∷ es) owner from ≡ []
    one true i h rest = cc
    one false i h rest = rw i (rest h)

-- where all keys are from there on, the owner's are its own
all_from : {X : Type 0} (owner : SessionId) (from a : ℕ) (es : List (ℕ × Record X)) → from ≤ a + 1 → AllByRecursion (λ y. nat_cmp a y ≡ Less) (keys_of es) → owned_from es owner from ≡ filter (is_owned_by owner) es
all_from owner from a [] low all = refl
all_from {X = X} owner from a (e ∷ es) low all = rw (here, all_from owner from a es low all.1) (two (is_owned_by owner e))
  where
    here : nat_le from e.0 ≡ true
    here = let h : nat_cmp a e.0 ≡ Less = all.0 in grind (arith, nat_tests)

    two : (b : Bool) → cond (b && true) (e ∷ filter (is_owned_by owner) es) (filter (is_owned_by owner) es) ≡ cond b (e ∷ filter (is_owned_by owner) es) (filter (is_owned_by owner) es)
    two true = refl
    two false = refl

-- a key that stands past the head is above it
past_head : {X : Type 0} (k : ℕ) (r : Record X) (e : ℕ × Record X) (es : List (ℕ × Record X)) → IsStrictlySortedBy nat_cmp (keys_of (e ∷ es)) → record_at es k ≡ Some r → e.0 < k
past_head k r e es ordered there = by (which k e.0) (k == e.0) refl
  where
    by : (k < e.0) ⊎ ((k ≡ e.0) ⊎ (e.0 < k)) → (b : Bool) → (k == e.0) ≡ b → e.0 < k
    by h true i = let no : None ≡ Some r = sym (absent-past_head k e es (IsDistinct-from_sorted _ _ ordered) i) ∙ there in cc
    by (inl less) false i = let no : None ≡ Some r = sym (below_first k e es ordered less) ∙ rw i there in cc
    by (inr (inl h)) false i = absurd (grind (arith, nat_tests))
    by (inr (inr more)) false i = more

-- the next key, its record, and those that are left after it
pub next_step : {X : Type 0} (owner : SessionId) (from k : ℕ) (es : List (ℕ × Record X)) → IsStrictlySortedBy nat_cmp (keys_of es) → Some k ≡ next_owned es owner from
    → (r : Record X) × (record_at es k ≡ Some r) × (owned_from es owner from ≡ (k, r) ∷ owned_from es owner (k + 1))
next_step owner from k [] ordered some = cc
next_step {X = X} owner from k (e ∷ es) ordered some = one (is_owned_by owner e && nat_le from e.0) refl some (next_step owner from k es (sorted_tail _ _ _ ordered))
  where
    Is : Type 0
    Is = (r : Record X) × (record_at (e ∷ es) k ≡ Some r) × (owned_from (e ∷ es) owner from ≡ (k, r) ∷ owned_from (e ∷ es) owner (k + 1))

    up : (is_owned_by owner e && nat_le from e.0) ≡ true → from ≤ e.0
    up i = two (is_owned_by owner e) (nat_le from e.0) refl i
      where
        two : (a b : Bool) → nat_le from e.0 ≡ b → (a && b) ≡ true → from ≤ e.0
        two true true h j = grind (arith, nat_tests)
        two true false h j = cc
        two false b h j = cc

    low : (a : Bool) → (a && nat_le (e.0 + 1) e.0) ≡ false
    low a = let h : nat_le (e.0 + 1) e.0 ≡ false = grind (arith, nat_tests) in rw h (three a)
      where
        three : (b : Bool) → (b && false) ≡ false
        three true = refl
        three false = refl

    high : (j : ℕ) → e.0 < j → (a : Bool) → (a && nat_le (j + 1) e.0) ≡ false
    high j more a = let h : nat_le (j + 1) e.0 ≡ false = grind (arith, nat_tests) in rw h (three a)
      where
        three : (b : Bool) → (b && false) ≡ false
        three true = refl
        three false = refl

    apart : (j : ℕ) → e.0 < j → (j == e.0) ≡ false
    apart j more = grind (arith, nat_tests)

    one : (b : Bool) → (is_owned_by owner e && nat_le from e.0) ≡ b → Some k ≡ option_map (λ x. x.0) (cond b (Some e) (find (λ x. is_owned_by owner x && nat_le from x.0) es))
        → (Some k ≡ next_owned es owner from → (r : Record X) × (record_at es k ≡ Some r) × (owned_from es owner from ≡ (k, r) ∷ owned_from es owner (k + 1))) → Is
    one true i h rest =
        let key : k ≡ e.0 = cc in
        let above = sorted_head _ _ _ ordered in
        let least : from ≤ e.0 = up i in
        let IsAt : ℕ → Type 0 = λ j. (r : Record X) × (record_at (e ∷ es) j ≡ Some r) × (owned_from (e ∷ es) owner from ≡ (j, r) ∷ owned_from (e ∷ es) owner (j + 1)) in
        subst IsAt (sym key) (e.1, at_first, rw (i, low (is_owned_by owner e)) (ap (λ xs. e ∷ xs) (all_from owner from e.0 es (omega arith) above ∙ sym (all_from owner (e.0 + 1) e.0 es (omega arith) above))))
      where
        at_first : record_at (e ∷ es) e.0 ≡ Some e.1
        at_first = rw (eq-eqb e.0 e.0 refl) refl
    one false i h rest =
        let found = rest h in
        let more = past_head k found.0 e es ordered found.1 in
        (found.0, rw (apart k more) found.1, rw (i, high k more (is_owned_by owner e)) found.2)
