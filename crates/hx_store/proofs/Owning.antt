-- Owners of records and their pairs, through changes of the records.
use Rattle.std.proofs.Common.{◌≡◌, ℕ, ◌+◌, Bool, true, false, not, ◌&&◌, ◌||◌, cond, List, [], ◌∷◌, length, Some, None, Option, refl, sym, ap, ◌∙◌, arith}
use Rattle.std.specs.Prelude.{◌==◌, if◌then◌else◌}
use Rattle.std.specs.List.{IsDistinct, list_any}
use Rattle.std.specs.Ordering.{nat_cmp, eq_by_cmp}
use Rattle.std.specs.Map.{keys_of}
use Rattle.std.proofs.lemmas.Bool.Decides.{nat_tests}
use Rattle.std.proofs.lemmas.Map.Keys.{IsDistinct-tail, IsDistinct-from_sorted}
use Rattle.hx_lists.specs.Lists.{insert_by}
use Rattle.hx_ids.specs.declared.SessionId.{SessionId}
use Rattle.hx_store.specs.declared.Record.{Record}
use Rattle.hx_store.specs.Records.{record_at, is_before, deleted, owns, is_owned_by, without_owner, owned_by}
use Rattle.hx_store.specs.Owners.{has, owner_of, IsIndexed, IsStore}
use Rattle.std.specs.List.Sorted.{IsStrictlySortedBy}
use Rattle.hx_store.proofs.Sorted.{same_records, sorted-where}
use Rattle.hx_store.proofs.Entries.{lookup-insert_by, lookup-filter, absent-past_head}

-- nothing is a store
pub empty_store : {X : Type 0} (records : List (ℕ × Record X)) (pairs : List (SessionId × List ℕ)) → records ≡ [] → pairs ≡ [] → IsStore records pairs
unfolding IsStrictlySortedBy
empty_store records pairs none free = rw (none, free) (record { ordered = tt; indexed = λ s k. refl })

-- an index stays where no owner changes
pub indexed-same : {X : Type 0} (es fs : List (ℕ × Record X)) (pairs : List (SessionId × List ℕ)) → ((q : ℕ) → owner_of (record_at fs q) ≡ owner_of (record_at es q)) → IsIndexed es pairs → IsIndexed fs pairs
indexed-same es fs pairs same i = λ s k. i s k ∙ ap (λ o. owns o s) (sym (same k))

or_true : (b : Bool) → (false || (b && true)) ≡ b
or_true true = refl
or_true false = refl

or_false : (a b : Bool) → (a || (b && false)) ≡ a
or_false true true = refl
or_false true false = refl
or_false false true = refl
or_false false false = refl

and_all : (b : Bool) → (b && not (b && true)) ≡ false
and_all true = refl
and_all false = refl

and_none : (a b : Bool) → (a && not (b && false)) ≡ a
and_none true true = refl
and_none true false = refl
and_none false true = refl
and_none false false = refl

-- a record more
pub indexed-inserted : {X : Type 0} (es : List (ℕ × Record X)) (key : ℕ) (x : Record X) (old new : List (SessionId × List ℕ)) → IsIndexed es old → record_at es key ≡ None
    → ((s : SessionId) (k : ℕ) → has new s k ≡ (has old s k || (owns x.owner s && (key == k)))) → IsIndexed (insert_by is_before (key, x) es) new
indexed-inserted es key x old new i absent claims = λ s k. claims s k ∙ rw (lookup-insert_by key x k es, i s k) (one s k (key == k) refl)
  where
    one : (s : SessionId) (k : ℕ) (b : Bool) → (key == k) ≡ b → (owns (owner_of (record_at es k)) s || (owns x.owner s && b)) ≡ owns (owner_of (if b then Some x else record_at es k)) s
    one s k true e = let same : k ≡ key = grind (arith, nat_tests) in rw (same, absent) (or_true (owns x.owner s))
    one s k false e = or_false (owns (owner_of (record_at es k)) s) (owns x.owner s)

-- a record less
pub indexed-deleted : {X : Type 0} (es : List (ℕ × Record X)) (key : ℕ) (x : Record X) (old new : List (SessionId × List ℕ)) → IsIndexed es old → record_at es key ≡ Some x
    → ((s : SessionId) (k : ℕ) → has new s k ≡ (has old s k && not (owns x.owner s && (key == k)))) → IsIndexed (deleted es key) new
indexed-deleted es key x old new i there less = λ s k. less s k ∙ rw (lookup-filter key k es, i s k) (one s k (key == k) refl)
  where
    one : (s : SessionId) (k : ℕ) (b : Bool) → (key == k) ≡ b → (owns (owner_of (record_at es k)) s && not (owns x.owner s && b)) ≡ owns (owner_of (if b then None else record_at es k)) s
    one s k true e = let same : k ≡ key = grind (arith, nat_tests) in rw (same, there) (and_all (owns x.owner s))
    one s k false e = and_none (owns (owner_of (record_at es k)) s) (owns x.owner s)

-- what is owned and what isn't are all
pub owned-and_rest : {X : Type 0} (owner : SessionId) (es : List (ℕ × Record X)) → owned_by es owner + length (without_owner es owner) ≡ length es
owned-and_rest owner [] = omega arith
owned-and_rest owner (e ∷ es) = grind (arith, owned-and_rest owner es)

-- the records without those of an owner, by key
lookup-without : {X : Type 0} (owner : SessionId) (q : ℕ) (es : List (ℕ × Record X)) → IsDistinct (eq_by_cmp nat_cmp) (keys_of es)
    → record_at (without_owner es owner) q ≡ (if owns (owner_of (record_at es q)) owner then None else record_at es q)
lookup-without owner q [] distinct = refl
lookup-without {X = X} owner q (e ∷ es) distinct = one (q == e.0) refl (is_owned_by owner e) refl (lookup-without owner q es (IsDistinct-tail _ _ _ distinct))
  where
    one : (b : Bool) → (q == e.0) ≡ b → (d : Bool) → is_owned_by owner e ≡ d → record_at (without_owner es owner) q ≡ (if owns (owner_of (record_at es q)) owner then None else record_at es q)
        → record_at (cond (not d) (e ∷ without_owner es owner) (without_owner es owner)) q
        ≡ (if owns (owner_of (cond b (Some e.1) (record_at es q))) owner then None else cond b (Some e.1) (record_at es q))
    one true i true j rest = rest ∙ rw (absent-past_head q e es distinct i, j) refl
    one true i false j rest = rw (i, j) refl
    one false i true j rest = rest
    one false i false j rest = rw i rest

-- the keys of an owner are taken out
pub ended : {X : Type 0} (owner : SessionId) (es new : List (ℕ × Record X)) (pairs : List (SessionId × List ℕ)) (ks : List ℕ) → IsStore es pairs → IsStrictlySortedBy nat_cmp (keys_of new)
    → ((k : ℕ) → list_any (λ j. k == j) ks ≡ has pairs owner k) → ((q : ℕ) → record_at new q ≡ (if list_any (λ k. q == k) ks then None else record_at es q)) → new ≡ without_owner es owner
ended owner es new pairs ks is ordered keys taken =
    same_records new (without_owner es owner) ordered (sorted-where (λ e. not (is_owned_by owner e)) es is.ordered)
    (λ q. taken q ∙ rw (keys q, is.indexed owner q) (sym (lookup-without owner q es (IsDistinct-from_sorted _ _ is.ordered))))

apart : (a b c : ℕ) → (a == b) ≡ false → ((a == c) && not (b == c)) ≡ (a == c)
apart a b c other = grind (arith, nat_tests)

alike : (a b c : ℕ) → (a == b) ≡ true → ((a == c) && not (b == c)) ≡ false
alike a b c same = grind (arith, nat_tests)

pub store_ended : {X : Type 0} (owner : SessionId) (es new : List (ℕ × Record X)) (pairs pairs2 : List (SessionId × List ℕ)) → IsStore es pairs → IsStrictlySortedBy nat_cmp (keys_of new) → new ≡ without_owner es owner
    → ((s : SessionId) (k : ℕ) → has pairs2 s k ≡ (has pairs s k && not (owner.0 == s.0))) → IsStore new pairs2
store_ended {X = X} owner es new pairs pairs2 is ordered gone rest = record {
  ordered = ordered;
  indexed = λ s k. rest s k ∙ rw (is.indexed s k, gone, lookup-without owner k es (IsDistinct-from_sorted _ _ is.ordered)) (one s (record_at es k));
}
  where
    two : (s : SessionId) (r : Record X) (w : Option SessionId) → r.owner ≡ w → (owns w s && not (owner.0 == s.0)) ≡ owns (owner_of (if owns w owner then None else Some r)) s
    two s r None e = rw e refl
    two s r (Some t) e = three (t.0 == owner.0) refl
      where
        three : (b : Bool) → (t.0 == owner.0) ≡ b → ((t.0 == s.0) && not (owner.0 == s.0)) ≡ owns (owner_of (if b then None else Some r)) s
        three true j = alike t.0 owner.0 s.0 j
        three false j = apart t.0 owner.0 s.0 j ∙ rw e refl

    one : (s : SessionId) (o : Option (Record X)) → (owns (owner_of o) s && not (owner.0 == s.0)) ≡ owns (owner_of (if owns (owner_of o) owner then None else o)) s
    one s None = refl
    one s (Some r) = two s r r.owner refl
