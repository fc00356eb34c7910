-- A name more, unless it is there already, leaves names distinct, and more names leave a description valid.
use Rattle.std.proofs.Common.{◌≡◌, ◌≤◌, ◌||◌, ◌==◌, Bool, true, false, List, [], ◌∷◌, ◌++◌, ℕ, length, if◌then◌else◌, true≢false, refl, sym, ◌∙◌, arith}
use Rattle.std.specs.List.{list_any, list_all}
use Rattle.std.specs.Str.{bytes_eq}
use Rattle.std.proofs.lemmas.Bool.Decides.{nat_tests}
use Rattle.std.proofs.lemmas.Slice.Eq.{bytes_eq-Decides}
use Rattle.hx_lists.specs.Lists.{count}
use Rattle.hx_ids.specs.Names.{interned}
use Rattle.hx_cluster.specs.declared.description.Resource.{Resource}
use Rattle.hx_cluster.specs.declared.description.Spec.{Spec}
use Rattle.hx_cluster.specs.Valid.{are_distinct, are_names, is_valid_resource, IsValid}
use Rattle.hx_safe.proofs.Counting.{and-first, and-second, and-both, count-append, count-none, all-append, all-le}

other_side : (a b : List ℕ) → bytes_eq b a ≡ false → bytes_eq a b ≡ false
other_side a b other = one (bytes_eq a b) refl
  where
    one : (is : Bool) → bytes_eq a b ≡ is → is ≡ false
    one true is = absurd (true≢false (sym ((bytes_eq-Decides b a).1 (sym ((bytes_eq-Decides a b).0 is))) ∙ other))
    one false is = refl

single-more : (all names : List (List ℕ)) (w : List ℕ) → list_all (λ x. count (bytes_eq x) all == 1) names ≡ true → list_any (bytes_eq w) names ≡ false
    → list_all (λ x. count (bytes_eq x) (all ++ w ∷ []) == 1) names ≡ true
single-more all [] w each none = refl
single-more all (x ∷ names) w each none =
    let here : (count (bytes_eq x) all == 1) ≡ true = and-first (count (bytes_eq x) all == 1) (list_all (λ y. count (bytes_eq y) all == 1) names) each in
    let rest = and-second (count (bytes_eq x) all == 1) (list_all (λ y. count (bytes_eq y) all == 1) names) each in
    let other : bytes_eq w x ≡ false = or-not-first (bytes_eq w x) (list_any (bytes_eq w) names) none in
    let more = single-more all names w rest (or-not-second (bytes_eq w x) (list_any (bytes_eq w) names) none) in
    let last : count (bytes_eq x) (w ∷ []) ≡ 0 = count-none (bytes_eq x) (w ∷ []) (none-last (bytes_eq x w) (other_side x w other)) in
    let both = count-append (bytes_eq x) all (w ∷ []) in
    and-both (count (bytes_eq x) (all ++ w ∷ []) == 1) (list_all (λ y. count (bytes_eq y) (all ++ w ∷ []) == 1) names) (grind (arith, nat_tests, here, last, both)) more
  where
    or-not-first : (a b : Bool) → (a || b) ≡ false → a ≡ false
    or-not-first true b e = e
    or-not-first false b e = refl

    or-not-second : (a b : Bool) → (a || b) ≡ false → b ≡ false
    or-not-second true b e = cc
    or-not-second false b e = e

    none-last : (b : Bool) → b ≡ false → (b || false) ≡ false
    none-last true e = e
    none-last false e = refl

pub distinct_interned : (names : List (List ℕ)) (w : List ℕ) → are_distinct bytes_eq names ≡ true → are_distinct bytes_eq (interned names w) ≡ true
distinct_interned names w each = one (list_any (bytes_eq w) names) refl
  where
    one : (b : Bool) → list_any (bytes_eq w) names ≡ b → are_distinct bytes_eq (if b then names else names ++ w ∷ []) ≡ true
    one true is = each
    one false is =
        let all : List (List ℕ) = names ++ w ∷ [] in
        let none = count-none (bytes_eq w) names is in
        let self : bytes_eq w w ≡ true = (bytes_eq-Decides w w).1 refl in
        let last : count (bytes_eq w) (w ∷ []) ≡ 1 = grind (arith, self) in
        let both = count-append (bytes_eq w) names (w ∷ []) in
        all-append (λ x. count (bytes_eq x) all == 1) names (w ∷ [])
        ∙ and-both (list_all (λ x. count (bytes_eq x) all == 1) names) (list_all (λ x. count (bytes_eq x) all == 1) (w ∷ []))
        (single-more names names w each is)
        (and-both (count (bytes_eq w) all == 1) true (grind (arith, nat_tests, none, last, both)) refl)

-- with more names a description stays valid
pub valid_with : (spec : Spec) (names : List (List ℕ)) → IsValid spec → are_names names ≡ true → length spec.resource_names ≤ length names
    → IsValid (record spec { resource_names = names })
valid_with spec names valid named more = record {
  instances = valid.instances;
  some_instances = valid.some_instances;
  controllers = valid.controllers;
  timeout = valid.timeout;
  states = valid.states;
  few_states = valid.few_states;
  builtin_states = valid.builtin_states;
  models = valid.models;
  few_models = valid.few_models;
  builtin_models = valid.builtin_models;
  model_names = valid.model_names;
  builtin_names = valid.builtin_names;
  each_named = valid.each_named;
  rules = valid.rules;
  few_rules = valid.few_rules;
  resource_names = named;
  resources = all-le (is_valid_resource spec) (is_valid_resource (record spec { resource_names = names })) still spec.resources valid.resources;
  few_resources = valid.few_resources;
  apart = valid.apart;
  failures = valid.failures;
  few_failures = valid.few_failures;
}
  where
    still : (r : Resource) → is_valid_resource spec r ≡ true → is_valid_resource (record spec { resource_names = names }) r ≡ true
    still r is = grind (arith, nat_tests, is, more)
