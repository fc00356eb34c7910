-- The keys of each session in a list, by plain tests.
use Rattle.std.proofs.Common.{Option, None, Some, Result, Ok, Err, ◌≡◌, ℕ, Bool, true, false, cond, not, List, [], ◌∷◌, refl, sym, ap, ◌∙◌, ◌&&◌, ◌||◌}
use Rattle.std.specs.Prelude.{◌==◌}
use Rattle.std.specs.List.{list_any}
use Rattle.std.specs.Map.{lookup, set_value}
use Rattle.std.specs.Result.{OnErr}
use Rattle.std.proofs.lemmas.Bool.{eqb-true}
use Rattle.hx_ids.specs.declared.SessionId.{SessionId}
use Rattle.hx_store.specs.Owners.{is_among, has, IsFirstFrom}

-- the keys of a session, if it has a list
abbrev pub keys_at : List (SessionId × List ℕ) → SessionId → Option (List ℕ)
keys_at es s = lookup (λ t. s.0 == t.0) es

same_session : (t s : SessionId) (k : ℕ) (es : List (SessionId × List ℕ)) → (t.0 == s.0) ≡ true → has es s k ≡ has es t k
same_session t s k es is = ap (λ (n : ℕ). is_among (lookup (λ (u : SessionId). n == u.0) es) k) (sym (eqb-true t.0 s.0 is))

or_false : (a b : Bool) → a ≡ (a || (false && b))
or_false true b = refl
or_false false b = refl

and_true : (a b : Bool) → a ≡ (a && not (false && b))
and_true true b = refl
and_true false b = refl

-- another list of a session
abbrev pub PutsList : SessionId → Option (List ℕ) → List (SessionId × List ℕ) → List (SessionId × List ℕ) → Type 0
PutsList t w es fs = (q : SessionId) → lookup (λ u. q.0 == u.0) fs ≡ cond (t.0 == q.0) w (lookup (λ u. q.0 == u.0) es)

-- with a key more, or less
abbrev pub PutsKey : ℕ → List ℕ → List ℕ → Type 0
PutsKey key ks js = (k : ℕ) → list_any (λ j. k == j) js ≡ (list_any (λ j. k == j) ks || (key == k))

abbrev pub TakesKey : ℕ → List ℕ → List ℕ → Type 0
TakesKey key ks js = (k : ℕ) → list_any (λ j. k == j) js ≡ (list_any (λ j. k == j) ks && not (key == k))

-- the keys of a session
abbrev pub HasKeys : List (SessionId × List ℕ) → SessionId → List ℕ → Type 0
HasKeys es s ks = (k : ℕ) → has es s k ≡ list_any (λ j. k == j) ks

pub put-key : (t : SessionId) (key : ℕ) (ks w : List ℕ) (es fs now : List (SessionId × List ℕ)) → es ≡ now → HasKeys es t ks → PutsKey key ks w → PutsList t (Some w) es fs
    → (s : SessionId) (k : ℕ) → has fs s k ≡ (has now s k || ((t.0 == s.0) && (key == k)))
put-key t key ks w es fs now same had puts lists s k = ap (λ (o : Option (List ℕ)). is_among o k) (lists s) ∙ one (t.0 == s.0) refl ∙ ap (λ (xs : List (SessionId × List ℕ)). has xs s k || ((t.0 == s.0) && (key == k))) same
  where
    one : (b : Bool) → (t.0 == s.0) ≡ b → is_among (cond b (Some w) (lookup (λ u. s.0 == u.0) es)) k ≡ (has es s k || (b && (key == k)))
    one true i = puts k ∙ rw (same_session t s k es i, had k) refl
    one false i = or_false (has es s k) (key == k)

pub take-key : (t : SessionId) (key : ℕ) (ks w : List ℕ) (es fs now : List (SessionId × List ℕ)) → es ≡ now → HasKeys es t ks → TakesKey key ks w → PutsList t (Some w) es fs
    → (s : SessionId) (k : ℕ) → has fs s k ≡ (has now s k && not ((t.0 == s.0) && (key == k)))
take-key t key ks w es fs now same had takes lists s k = ap (λ (o : Option (List ℕ)). is_among o k) (lists s) ∙ one (t.0 == s.0) refl ∙ ap (λ (xs : List (SessionId × List ℕ)). has xs s k && not ((t.0 == s.0) && (key == k))) same
  where
    one : (b : Bool) → (t.0 == s.0) ≡ b → is_among (cond b (Some w) (lookup (λ u. s.0 == u.0) es)) k ≡ (has es s k && not (b && (key == k)))
    one true i = takes k ∙ rw (same_session t s k es i, had k) refl
    one false i = and_true (has es s k) (key == k)

-- no key is taken from a session that has none
pub take-none : (t : SessionId) (key : ℕ) (es new now : List (SessionId × List ℕ)) → es ≡ now → new ≡ now → lookup (λ u. t.0 == u.0) es ≡ None
    → (s : SessionId) (k : ℕ) → has new s k ≡ (has now s k && not ((t.0 == s.0) && (key == k)))
take-none t key es new now same stays none s k = ap (λ (xs : List (SessionId × List ℕ)). has xs s k) (stays ∙ sym same) ∙ one (t.0 == s.0) refl ∙ ap (λ (xs : List (SessionId × List ℕ)). has xs s k && not ((t.0 == s.0) && (key == k))) same
  where
    one : (b : Bool) → (t.0 == s.0) ≡ b → has es s k ≡ (has es s k && not (b && (key == k)))
    one true i = let free : has es s k ≡ false = same_session t s k es i ∙ rw none refl in rw free refl
    one false i = and_true (has es s k) (key == k)

-- the keys of a list that is there
pub has_keys : (t : SessionId) (o : Option (List ℕ)) (x : List ℕ) (es now : List (SessionId × List ℕ)) → es ≡ now → o ≡ lookup (λ u. t.0 == u.0) es → o ≡ Some x → HasKeys now t x
has_keys t o x es now same is some k = ap (λ (xs : List (SessionId × List ℕ)). has xs t k) (sym same) ∙ rw (← is, some) refl

pub has_none : (t : SessionId) (es now : List (SessionId × List ℕ)) → es ≡ now → None ≡ lookup (λ u. t.0 == u.0) es → (k : ℕ) → has now t k ≡ false
has_none t es now same none k = ap (λ (xs : List (SessionId × List ℕ)). has xs t k) (sym same) ∙ rw (← none) refl

-- the list of a session taken out
pub without_list : (t : SessionId) (es fs now : List (SessionId × List ℕ)) → es ≡ now → PutsList t None es fs → (s : SessionId) (k : ℕ) → has fs s k ≡ (has now s k && not (t.0 == s.0))
without_list t es fs now same lists s k = ap (λ (o : Option (List ℕ)). is_among o k) (lists s) ∙ one (t.0 == s.0) (has es s k) refl ∙ ap (λ (xs : List (SessionId × List ℕ)). has xs s k && not (t.0 == s.0)) same
  where
    one : (b a : Bool) → a ≡ has es s k → is_among (cond b None (lookup (λ u. s.0 == u.0) es)) k ≡ (has es s k && not b)
    one true true i = rw (← i) refl
    one true false i = rw (← i) refl
    one false true i = rw (← i) refl
    one false false i = rw (← i) refl

pub on_err : {T E : Type 0} (r : Result T E) (P : Type 0) → P → OnErr r P
on_err (Ok x) P p = tt
on_err (Err e) P p = p

-- the same list in the place of one
pub same_lists : (test : SessionId → Bool) (w x : List ℕ) (es fs now : List (SessionId × List ℕ)) → es ≡ now → fs ≡ set_value test es w → lookup test es ≡ Some x → w ≡ x → fs ≡ now
same_lists test w x es fs now same is there keys = is ∙ all es there ∙ same
  where
    all : (xs : List (SessionId × List ℕ)) → lookup test xs ≡ Some x → set_value test xs w ≡ xs
    all [] h = refl
    all (e ∷ xs) h = one (test e.0) h (all xs)
      where
        one : (b : Bool) → cond b (Some e.1) (lookup test xs) ≡ Some x → (lookup test xs ≡ Some x → set_value test xs w ≡ xs) → cond b ((e.0, w) ∷ xs) (e ∷ set_value test xs w) ≡ e ∷ xs
        one true g rest = let v : e.1 ≡ x = cc in rw (keys, ← v) refl
        one false g rest = ap (λ ys. e ∷ ys) (rest g)

-- the first key of a session from one on
pub none_first : (s : SessionId) (n : ℕ) (es now : List (SessionId × List ℕ)) → es ≡ now → lookup (λ u. s.0 == u.0) es ≡ None → IsFirstFrom (has now s) n None
none_first s n es now same none k from = has_none s es now same (sym none) k

pub first_of : (s : SessionId) (n : ℕ) (ks : List ℕ) (r : Option ℕ) (now : List (SessionId × List ℕ)) → HasKeys now s ks → IsFirstFrom (λ k. list_any (λ j. k == j) ks) n r → IsFirstFrom (has now s) n r
first_of s n ks None now keys h = λ k from. keys k ∙ h k from
first_of s n ks (Some j) now keys h = (h.0, keys j ∙ h.1, λ q from low. keys q ∙ h.2 q from low)
