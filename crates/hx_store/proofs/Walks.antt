-- Walks over what a session owns.
use Rattle.std.proofs.Common.{◌≡◌, ℕ, Bool, true, false, cond, List, [], ◌∷◌, map, filter, Some, None, refl, sym, ap, ◌∙◌, subst, arith}
use Rattle.std.specs.Prelude.{◌==◌, ◌&&◌, nat_le}
use Rattle.std.specs.List.{AllByRecursion, list_any}
use Rattle.std.specs.List.Sorted.{IsStrictlySortedBy}
use Rattle.std.specs.Ordering.{nat_cmp}
use Rattle.std.specs.Map.{keys_of, lookup}
use Rattle.std.proofs.lemmas.Bool.{eq-eqb}
use Rattle.std.proofs.lemmas.Bool.Decides.{nat_tests}
use Rattle.std.proofs.lemmas.Map.Keys.{sorted_tail, IsDistinct-from_sorted}
use Rattle.hx_ids.specs.declared.SessionId.{SessionId}
use Rattle.hx_store.specs.declared.Record.{Record}
use Rattle.hx_store.specs.Records.{record_at, owns, is_owned_by, owned_from}
use Rattle.hx_store.specs.Owners.{has, owner_of, IsStore}
use Rattle.hx_store.specs.Walks.{values_at, HaveRecords, AreThose}
use Rattle.hx_store.proofs.Entries.{absent-past_head}
use Rattle.hx_store.proofs.Sorted.{same_keys, sorted-where}
use Rattle.hx_store.proofs.Listed.{has_none}

-- the keys of a session that has no list, and of one that has
pub no_keys : (s : SessionId) (es now : List (SessionId × List ℕ)) → es ≡ now → None ≡ lookup (λ u. s.0 == u.0) es → AreThose (has now s) []
unfolding IsStrictlySortedBy
no_keys s es now same none = record { ordered = tt; passing = λ k. sym (has_none s es now same none k) }

pub list_keys : (s : SessionId) (list ks : List ℕ) (now : List (SessionId × List ℕ)) → ((k : ℕ) → has now s k ≡ list_any (λ j. k == j) list) → ks ≡ list → IsStrictlySortedBy nat_cmp list → AreThose (has now s) ks
list_keys s list ks now keys is ordered =
    let P : List ℕ → Type 0 = λ xs. AreThose (has now s) xs in
    subst P (sym is) (record { ordered = ordered; passing = λ k. sym (keys k) })

-- the keys of what a session owns
any-owned : {X : Type 0} (owner : SessionId) (q : ℕ) (es : List (ℕ × Record X)) → IsStrictlySortedBy nat_cmp (keys_of es) → list_any (λ k. q == k) (keys_of (owned_from es owner 0)) ≡ owns (owner_of (record_at es q)) owner
any-owned owner q [] ordered = refl
any-owned {X = X} owner q (e ∷ es) ordered = one (q == e.0) refl (is_owned_by owner e) refl (any-owned owner q es (sorted_tail _ _ _ ordered))
  where
    low : nat_le 0 e.0 ≡ true
    low = grind (arith, nat_tests)

    one : (b : Bool) → (q == e.0) ≡ b → (d : Bool) → is_owned_by owner e ≡ d → list_any (λ k. q == k) (keys_of (owned_from es owner 0)) ≡ owns (owner_of (record_at es q)) owner
        → list_any (λ k. q == k) (keys_of (cond (d && nat_le 0 e.0) (e ∷ owned_from es owner 0) (owned_from es owner 0))) ≡ owns (owner_of (cond b (Some e.1) (record_at es q))) owner
    one true i true j rest = rw (low, i, j) refl
    one true i false j rest = rest ∙ rw (absent-past_head q e es (IsDistinct-from_sorted _ _ ordered) i, j) refl
    one false i true j rest = rw (low, i) rest
    one false i false j rest = rest

pub owned_keys : {X : Type 0} (owner : SessionId) (es : List (ℕ × Record X)) (pairs : List (SessionId × List ℕ)) (ks : List ℕ) → IsStore es pairs → AreThose (has pairs owner) ks → ks ≡ keys_of (owned_from es owner 0)
owned_keys owner es pairs ks is keys =
    same_keys ks (keys_of (owned_from es owner 0)) keys.ordered (sorted-where (λ e. is_owned_by owner e && nat_le 0 e.0) es is.ordered) (λ q. keys.passing q ∙ is.indexed owner q ∙ sym (any-owned owner q es is.ordered))

-- each entry is found by its key
abbrev AreFound : {X : Type 0} → List (ℕ × Record X) → List (ℕ × Record X) → Type 0
AreFound es fs = AllByRecursion (λ f. record_at es f.0 ≡ Some f.1) fs

found-where : {X : Type 0} (p : ℕ × Record X → Bool) (es : List (ℕ × Record X)) → IsStrictlySortedBy nat_cmp (keys_of es) → AreFound es (filter p es)
found-where p [] ordered = tt
found-where {X = X} p (e ∷ es) ordered = one (p e) (later (filter p es) (found-where p es (sorted_tail _ _ _ ordered)))
  where
    two : (x : ℕ × Record X) (b : Bool) → (x.0 == e.0) ≡ b → record_at es x.0 ≡ Some x.1 → record_at (e ∷ es) x.0 ≡ Some x.1
    two x true i h = let no : None ≡ Some x.1 = sym (absent-past_head x.0 e es (IsDistinct-from_sorted _ _ ordered) i) ∙ h in cc
    two x false i h = rw i h

    later : (xs : List (ℕ × Record X)) → AreFound es xs → AreFound (e ∷ es) xs
    later [] all = tt
    later (x ∷ xs) all = (two x (x.0 == e.0) refl all.0, later xs all.1)

    one : (b : Bool) → AreFound (e ∷ es) (filter p es) → AreFound (e ∷ es) (cond b (e ∷ filter p es) (filter p es))
    one true rest = (rw (eq-eqb e.0 e.0 refl) refl, rest)
    one false rest = rest

have-found : {X : Type 0} (es fs : List (ℕ × Record X)) → AreFound es fs → HaveRecords es (keys_of fs)
have-found es [] all = tt
have-found es (f ∷ fs) all = (rw (all.0) refl, have-found es fs all.1)

values-found : {X : Type 0} (es fs : List (ℕ × Record X)) → AreFound es fs → values_at es (keys_of fs) ≡ map (λ f. f.1.value) fs
values-found es [] all = refl
values-found es (f ∷ fs) all = rw (all.0) (ap (λ xs. f.1.value ∷ xs) (values-found es fs all.1))

-- a walk's keys have records, and their values are what the session owns
pub walk_has : {X : Type 0} (owner : SessionId) (es : List (ℕ × Record X)) (pairs : List (SessionId × List ℕ)) (ks : List ℕ) → IsStore es pairs → AreThose (has pairs owner) ks → HaveRecords es ks
walk_has {X = X} owner es pairs ks is keys =
    let P : List ℕ → Type 0 = λ js. HaveRecords es js in
    subst P (sym (owned_keys owner es pairs ks is keys)) (have-found es (owned_from es owner 0) (found-where (λ e. is_owned_by owner e && nat_le 0 e.0) es is.ordered))

pub walk_shows : {X : Type 0} (owner : SessionId) (es now : List (ℕ × Record X)) (pairs : List (SessionId × List ℕ)) (ks : List ℕ) → es ≡ now → IsStore es pairs → AreThose (has pairs owner) ks
    → values_at es ks ≡ map (λ e. e.1.value) (owned_from now owner 0)
walk_shows {X = X} owner es now pairs ks same is keys =
    ap (λ (js : List ℕ). values_at es js) (owned_keys owner es pairs ks is keys)
    ∙ values-found es (owned_from es owner 0) (found-where (λ e. is_owned_by owner e && nat_le 0 e.0) es is.ordered)
    ∙ ap (λ (xs : List (ℕ × Record X)). map (λ (e : ℕ × Record X). e.1.value) (owned_from xs owner 0)) same
