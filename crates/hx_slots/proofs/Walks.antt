-- The first of what a session owns.
use Rattle.std.proofs.Common.{◌≡◌, ℕ, Bool, true, false, cond, not, List, [], ◌∷◌, Some, Option, refl, sym, ap, ◌∙◌, subst, arith}
use Rattle.std.specs.Prelude.{option_map, MatchOption, ◌&&◌, nat_le}
use Rattle.std.specs.List.Sorted.{IsStrictlySortedBy}
use Rattle.std.specs.Ordering.{nat_cmp}
use Rattle.std.specs.Map.{keys_of}
use Rattle.std.proofs.lemmas.Bool.Decides.{nat_tests}
use Rattle.hx_ids.specs.declared.SessionId.{SessionId}
use Rattle.hx_store.specs.declared.Record.{Record}
use Rattle.hx_store.specs.Records.{record_at, next_owned, owned_from, deleted, is_owned_by, without_owner}
use Rattle.hx_store.proofs.Nexts.{next_step}
use Rattle.hx_slots.specs.Slots.{IsPopped}

-- the value of the first record that a session owns, taken out by its key
pub walk_popped : {X : Type 0} (s : SessionId) (k : ℕ) (o : Option X) (es fs : List (ℕ × Record X)) → IsStrictlySortedBy nat_cmp (keys_of es) → Some k ≡ next_owned es s 0 → o ≡ option_map (λ r. r.value) (record_at es k)
    → fs ≡ deleted es k → MatchOption o ((owned_from es s 0 ≡ []) × (fs ≡ es)) (λ v. IsPopped es s v fs)
walk_popped {X = X} s k o es fs ordered next found left =
    let step = next_step s 0 k es ordered next in
    let Is : Option X → Type 0 = λ w. MatchOption w ((owned_from es s 0 ≡ []) × (fs ≡ es)) (λ v. IsPopped es s v fs) in
    subst Is (sym (found ∙ ap (λ (w : Option (Record X)). option_map (λ (r : Record X). r.value) w) step.1)) (record { entry = (k, step.0); value = refl; first = step.2; there = step.1; rest = left })

-- where a session owns nothing, nothing goes with it
pub none_owned : {X : Type 0} (s : SessionId) (es : List (ℕ × Record X)) → owned_from es s 0 ≡ [] → without_owner es s ≡ es
none_owned s [] none = refl
none_owned s (e ∷ es) none = one (is_owned_by s e) none (none_owned s es)
  where
    low : nat_le 0 e.0 ≡ true
    low = grind (arith, nat_tests)

    one : (b : Bool) → cond (b && nat_le 0 e.0) (e ∷ owned_from es s 0) (owned_from es s 0) ≡ [] → (owned_from es s 0 ≡ [] → without_owner es s ≡ es)
        → cond (not b) (e ∷ without_owner es s) (without_owner es s) ≡ e ∷ es
    one true h rest = let no : e ∷ owned_from es s 0 ≡ [] = subst (λ (b : Bool). cond b (e ∷ owned_from es s 0) (owned_from es s 0) ≡ []) low h in cc
    one false h rest = ap (λ ys. e ∷ ys) (rest h)
