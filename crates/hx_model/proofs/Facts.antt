-- What a model without a fault has.
use Rattle.std.proofs.Common.{◌≡◌, ℕ, ◌+◌, ◌≤◌, ◌==◌, ◌&&◌, ◌||◌, not, Bool, true, false, List, [], ◌∷◌, ◌++◌, length, map, find, position, Option, Some, None, option_map, refl, sym, ap, ◌∙◌, arith}
use Rattle.std.specs.Prelude.{if◌then◌else◌, nat_lt}
use Rattle.std.specs.List.{list_any, list_all, prefix_len, position_or_len}
use Rattle.std.specs.Option.{option_or}
use Rattle.std.proofs.lemmas.Bool.Decides.{nat_tests}
use Rattle.std.proofs.lemmas.List.Sums.{prefix_len-le-length}
use Rattle.hx_ids.specs.declared.StateId.{StateId}
use Rattle.hx_model.specs.declared.Bound.{Bound}
use Rattle.hx_model.specs.declared.ModelFault.{ModelFault}
use Rattle.hx_model.specs.declared.ModelFault.TheVariants.{UnknownState, NoInitial, InitialBounded, NoDrop, CantReach, CantLeave}
use Rattle.hx_model.specs.declared.ModelParts.{ModelParts}
use Rattle.hx_model.specs.Faults.{fault_of, fault_at, found_by, state_tests, transition_tests, walk_tests, is_known, is_free}
use Rattle.hx_model.specs.Model.{dropped, has_state, is_between, bound_of}
use Rattle.hx_model.specs.Walks.{reaches}
use Rattle.hx_model.proofs.Found.{FindNone}

-- no test found a fault
none_found : (tests : List (ModelParts → Option ModelFault)) (m : ModelParts) → found_by tests m ≡ None → FindNone tests m
none_found [] m e = tt
none_found (test ∷ tests) m e = one (test m) refl e (none_found tests m)
  where
    one : (o : Option ModelFault) → test m ≡ o → option_or o (found_by tests m) ≡ None → (found_by tests m ≡ None → FindNone tests m) → (test m ≡ None) × FindNone tests m
    one None is h more = (is, more h)
    one (Some f) is h more = cc

no_place : (f : ℕ → ModelFault) (o : Option ℕ) → fault_at f o ≡ None → o ≡ None
no_place f None e = refl
no_place f (Some i) e = cc

no_state : (f : StateId → ModelFault) (o : Option StateId) → option_map f o ≡ None → o ≡ None
no_state f None e = refl
no_state f (Some s) e = cc

all_pass : {X : Type 0} (p : X → Bool) (xs : List X) → prefix_len p xs ≡ length xs → list_all p xs ≡ true
all_pass p [] e = refl
all_pass p (x ∷ xs) e = grind (arith, all_pass p xs)

-- no place is found, so each item fails the test
none_passes : {X : Type 0} (p : X → Bool) (xs : List X) → position p xs ≡ None → list_all (λ x. not (p x)) xs ≡ true
none_passes p xs e = one (nat_lt (position_or_len p xs) (length xs)) refl e
  where
    most : position_or_len p xs ≤ length xs
    most = prefix_len-le-length _ xs

    one : (b : Bool) → nat_lt (position_or_len p xs) (length xs) ≡ b → (if b then Some (position_or_len p xs) else None) ≡ None → list_all (λ x. not (p x)) xs ≡ true
    one true is h = cc
    one false is h = all_pass (λ x. not (p x)) xs (grind (arith, nat_tests, most))

find_passes : (p : StateId → Bool) (xs : List (StateId × Bound)) (s : StateId) → find (λ t. not (p t)) (map (λ x. x.0) xs) ≡ None → list_any (λ (x : StateId × Bound). x.0.0 == s.0) xs ≡ true → p s ≡ true
find_passes p [] s e any = cc
find_passes p (x ∷ xs) s e any = one (p x.0) (x.0.0 == s.0) refl refl e any (find_passes p xs s)
  where
    one : (a b : Bool) → p x.0 ≡ a → (x.0.0 == s.0) ≡ b
        → (if not a then Some x.0 else find (λ t. not (p t)) (map (λ x. x.0) xs)) ≡ None
        → (b || list_any (λ (x : StateId × Bound). x.0.0 == s.0) xs) ≡ true
        → (find (λ t. not (p t)) (map (λ x. x.0) xs) ≡ None → list_any (λ (x : StateId × Bound). x.0.0 == s.0) xs ≡ true → p s ≡ true)
        → p s ≡ true
    one false b is at h k more = cc
    one true false is at h k more = more h k
    one true true is at h k more =
        let same : x.0.0 ≡ s.0 = grind (arith, nat_tests) in
        let state : x.0 ≡ s = ap (λ (n : ℕ). record { 0 = n }) same in
        sym (ap p state) ∙ is

known_all : (m : ModelParts) (ts : List (StateId × StateId)) → list_all (λ t. not (not (is_known m t))) ts ≡ true → list_all (is_known m) ts ≡ true
known_all m [] e = refl
known_all m (t ∷ ts) e = one (is_known m t) refl e (known_all m ts)
  where
    one : (b : Bool) → is_known m t ≡ b → (not (not b) && list_all (λ t. not (not (is_known m t))) ts) ≡ true → (list_all (λ t. not (not (is_known m t))) ts ≡ true → list_all (is_known m) ts ≡ true) → (is_known m t && list_all (is_known m) ts) ≡ true
    one true is h more = (λ i. is i && more h i)
    one false is h more = cc

pub record IsSound (m : ModelParts) : Type 0 where
  pub known : list_all (is_known m) m.transitions ≡ true
  pub initial : has_state m m.initial ≡ true
  pub free : is_free (bound_of m m.initial) ≡ true
  pub drops : list_any (is_between m.initial dropped) m.transitions ≡ true
  pub reached : (s : StateId) → has_state m s ≡ true → reaches m m.initial s ≡ true
  pub left : (s : StateId) → has_state m s ≡ true → reaches m s m.initial ≡ true

if_none : (b : Bool) (f : ModelFault) → (if b then None else Some f) ≡ None → b ≡ true
if_none true f e = refl
if_none false f e = cc

pub sound_facts : (m : ModelParts) → fault_of m ≡ None → IsSound m
sound_facts m e =
    let none = none_found (state_tests ++ transition_tests ++ walk_tests) m e in
    let rest = none.1.1.1.1.1 in
    record {
      known = known_all m m.transitions (none_passes (λ t. not (is_known m t)) m.transitions (no_place (λ i. UnknownState i) _ rest.1.1.0));
      initial = if_none (has_state m m.initial) NoInitial rest.0;
      free = if_none (is_free (bound_of m m.initial)) InitialBounded rest.1.0;
      drops = if_none (list_any (is_between m.initial dropped) m.transitions) NoDrop rest.1.1.1.1.1.0;
      reached = λ s here. find_passes (reaches m m.initial) m.states s (no_state (λ s. CantReach s) _ rest.1.1.1.1.1.1.0) here;
      left = λ s here. find_passes (λ t. reaches m t m.initial) m.states s (no_state (λ s. CantLeave s) _ rest.1.1.1.1.1.1.1.0) here;
    }
