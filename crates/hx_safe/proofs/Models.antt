-- What holds of a model without faults, as far as a cluster needs it.
use Rattle.std.proofs.Common.{◌≡◌, ℕ, zero, suc, ◌<◌, ◌||◌, ◌&&◌, ◌==◌, not, Bool, true, false, List, [], ◌∷◌, length, find, position, Option, Some, None, get_or, refl, sym, ap, subst, arith}
use Rattle.std.specs.Prelude.{if◌then◌else◌, nat_lt, is_none}
use Rattle.std.specs.List.{list_any, list_all, prefix_len}
use Rattle.std.specs.Option.{option_or, option_map_or}
use Rattle.std.proofs.lemmas.Bool.Decides.{nat_tests}
use Rattle.hx_ids.specs.declared.StateId.{StateId}
use Rattle.hx_model.specs.declared.ModelParts.{ModelParts}
use Rattle.hx_model.specs.declared.ModelFault.{ModelFault}
use Rattle.hx_model.specs.declared.ModelFault.TheVariants.{Reserved, UnknownState, NoInitial, InitialBounded}
use Rattle.hx_model.specs.declared.Bound.{Bound}
use Rattle.hx_model.specs.declared.Bound.TheVariants.{Count, Replicas, Live, Free}
use Rattle.hx_model.specs.Model.{is_legal, is_between, has_state, bound_of}
use Rattle.hx_model.specs.Faults.{fault_of, fault_at, is_free, is_known, too_many_states, reserved_state, reserved_transition, twice_state, zero_bound, no_initial, initial_bounded, unknown_state}
use Rattle.hx_cluster.specs.declared.description.Resource.{Resource}
use Rattle.hx_cluster.specs.Ends.{no_model, model_at, model_of, resource_at}
use Rattle.hx_ids.specs.declared.ResourceId.{ResourceId}
use Rattle.hx_cluster.specs.Valid.{has_no_fault}

-- the initial state isn't limited, nor are ERROR and DROPPED; each legal step leads from a state of the model or from ERROR, and to a
-- state of the model or to DROPPED
pub record IsGood (m : ModelParts) : Type 0 where
  pub initial : bound_of m m.initial ≡ Free
  pub reserved : (t : StateId) → nat_lt t.0 2 ≡ true → bound_of m t ≡ Free
  pub leads : (from to : StateId) → is_legal m from to ≡ true → (has_state m to || (to.0 == 1)) ≡ true
  pub starts : (from to : StateId) → is_legal m from to ≡ true → ((from.0 == 0) || has_state m from) ≡ true

-- no test that was made found a fault
pub or-none : {X : Type 0} (a b : Option X) → option_or a b ≡ None → (a ≡ None) × (b ≡ None)
or-none None b e = (refl, e)
or-none (Some x) b e = cc

at-none : (fault : ℕ → ModelFault) (place : Option ℕ) → fault_at fault place ≡ None → place ≡ None
at-none fault None e = refl
at-none fault (Some n) e = cc

all_fail : {X : Type 0} (p : X → Bool) (xs : List X) → list_any p xs ≡ true → prefix_len (λ x. not (p x)) xs < length xs
all_fail p [] e = cc
all_fail p (x ∷ xs) e = grind (arith, e, all_fail p xs)

position-any : {X : Type 0} (p : X → Bool) (xs : List X) → position p xs ≡ None → list_any p xs ≡ false
position-any p xs e = one (list_any p xs) refl
  where
    one : (b : Bool) → list_any p xs ≡ b → b ≡ false
    one true is = let low = all_fail p xs is in grind (arith, nat_tests, e, low)
    one false is = refl

free_from : (b : Bound) → is_free b ≡ true → b ≡ Free
free_from (Count n) e = cc
free_from Replicas e = cc
free_from Live e = cc
free_from Free e = refl

initial_from : (m : ModelParts) → initial_bounded m ≡ None → bound_of m m.initial ≡ Free
initial_from m e = one (is_free (bound_of m m.initial)) refl e
  where
    one : (b : Bool) → is_free (bound_of m m.initial) ≡ b → (if b then None else Some InitialBounded) ≡ None → bound_of m m.initial ≡ Free
    one true is e = free_from (bound_of m m.initial) is
    one false is e = cc

has_initial : (m : ModelParts) → no_initial m ≡ None → has_state m m.initial ≡ true
has_initial m e = one (has_state m m.initial) refl e
  where
    one : (b : Bool) → has_state m m.initial ≡ b → (if b then None else Some NoInitial) ≡ None → b ≡ true
    one true is e = refl
    one false is e = cc

reserved_from : (states : List (StateId × Bound)) (t : StateId) → list_any (λ p. nat_lt p.0.0 2) states ≡ false → nat_lt t.0 2 ≡ true
    → option_map_or (λ p. p.1) (find (λ p. p.0.0 == t.0) states) Free ≡ Free
reserved_from [] t e low = refl
reserved_from (p ∷ states) t e low = grind (arith, nat_tests, e, low, reserved_from states t)

pub state_same : (a b : StateId) → (a.0 == b.0) ≡ true → a ≡ b
state_same a b e = let same : a.0 ≡ b.0 = grind (arith, nat_tests, e) in ap (λ (n : ℕ). record { 0 = n }) same

known-one : (m : ModelParts) (from to : StateId) (t : StateId × StateId) → is_known m t ≡ true → is_between from to t ≡ true → (has_state m to || (to.0 == 1)) ≡ true
known-one m from to t e w =
    let P : StateId → Type 0 = λ s. (has_state m s || (s.0 == 1)) ≡ true in
    let here : (has_state m t.1 || (t.1.0 == 1)) ≡ true = grind (arith, e) in
    subst P (state_same t.1 to (grind (arith, w))) here

known-leads : (m : ModelParts) (from to : StateId) (ts : List (StateId × StateId)) → list_any (λ t. not (is_known m t)) ts ≡ false
    → list_any (is_between from to) ts ≡ true → (has_state m to || (to.0 == 1)) ≡ true
known-leads m from to [] e w = cc
known-leads m from to (t ∷ ts) e w = one (is_between from to t) refl w (known-leads m from to ts (grind (arith, e)))
  where
    one : (b : Bool) → is_between from to t ≡ b → (b || list_any (is_between from to) ts) ≡ true
        → (list_any (is_between from to) ts ≡ true → (has_state m to || (to.0 == 1)) ≡ true) → (has_state m to || (to.0 == 1)) ≡ true
    one true is w more = known-one m from to t (grind (arith, e)) is
    one false is w more = more w

known-starts : (m : ModelParts) (from to : StateId) (ts : List (StateId × StateId)) → list_any (λ t. not (is_known m t)) ts ≡ false
    → list_any (is_between from to) ts ≡ true → has_state m from ≡ true
known-starts m from to [] e w = cc
known-starts m from to (t ∷ ts) e w = one (is_between from to t) refl w (known-starts m from to ts (grind (arith, e)))
  where
    here : is_between from to t ≡ true → has_state m from ≡ true
    here is =
        let known : has_state m t.0 ≡ true = grind (arith, e) in
        subst (λ (s : StateId). has_state m s ≡ true) (state_same t.0 from (grind (arith, is))) known

    one : (b : Bool) → is_between from to t ≡ b → (b || list_any (is_between from to) ts) ≡ true
        → (list_any (is_between from to) ts ≡ true → has_state m from ≡ true) → has_state m from ≡ true
    one true is w more = here is
    one false is w more = more w

initial-leads : (m : ModelParts) (to : StateId) → has_state m m.initial ≡ true → (to.0 == m.initial.0) ≡ true → (has_state m to || (to.0 == 1)) ≡ true
initial-leads m to e is =
    let P : StateId → Type 0 = λ s. (has_state m s || (s.0 == 1)) ≡ true in
    subst P (sym (state_same to m.initial is)) (grind (arith, e))

pub good_from : (m : ModelParts) → fault_of m ≡ None → IsGood m
good_from m e =
    let one = or-none (too_many_states m) _ e in
    let two = or-none (reserved_state m) _ one.1 in
    let three = or-none (reserved_transition m) _ two.1 in
    let four = or-none (twice_state m) _ three.1 in
    let five = or-none (zero_bound m) _ four.1 in
    let six = or-none (no_initial m) _ five.1 in
    let seven = or-none (initial_bounded m) _ six.1 in
    let eight = or-none (unknown_state m) _ seven.1 in
    let plain = position-any (λ (p : StateId × Bound). nat_lt p.0.0 2) m.states (at-none (λ i. Reserved i) _ two.0) in
    let known = position-any (λ t. not (is_known m t)) m.transitions (at-none (λ i. UnknownState i) _ eight.0) in
    record {
      initial = initial_from m seven.0;
      reserved = λ t low. reserved_from m.states t plain low;
      leads = λ from to is. leads (has_initial m six.0) known from to (list_any (is_between from to) m.transitions) refl is;
      starts = λ from to is. starts known from to (list_any (is_between from to) m.transitions) refl is;
    }
  where
    leads : has_state m m.initial ≡ true → list_any (λ t. not (is_known m t)) m.transitions ≡ false → (from to : StateId) (b : Bool)
        → list_any (is_between from to) m.transitions ≡ b → (b || ((from.0 == 0) && (to.0 == m.initial.0))) ≡ true → (has_state m to || (to.0 == 1)) ≡ true
    leads first known from to true listed is = known-leads m from to m.transitions known listed
    leads first known from to false listed is = initial-leads m to first (grind (arith, is))

    starts : list_any (λ t. not (is_known m t)) m.transitions ≡ false → (from to : StateId) (b : Bool)
        → list_any (is_between from to) m.transitions ≡ b → (b || ((from.0 == 0) && (to.0 == m.initial.0))) ≡ true → ((from.0 == 0) || has_state m from) ≡ true
    starts known from to true listed is = let there = known-starts m from to m.transitions known listed in grind (arith, there)
    starts known from to false listed is = grind (arith, is)

pub good_none : IsGood no_model
good_none = record { initial = refl; reserved = λ t low. refl; leads = λ from to e. grind (arith, nat_tests, e); starts = λ from to e. grind (arith, nat_tests, e) }

-- each model that a resource can have is good
good_listed : (models : List ModelParts) (n : ℕ) → list_all has_no_fault models ≡ true → IsGood (get_or models n no_model)
good_listed [] n e = good_none
good_listed (m ∷ models) zero e = good_from m (none_from (fault_of m) (grind (arith, e)))
  where
    none_from : (o : Option ModelFault) → is_none o ≡ true → o ≡ None
    none_from None e = refl
    none_from (Some f) e = cc
good_listed (m ∷ models) (suc n) e = good_listed models n (grind (arith, e))

pub good_model : (models : List ModelParts) (resources : List Resource) (r : ResourceId) → list_all has_no_fault models ≡ true → IsGood (model_of models resources r)
good_model models resources r e = one (resource_at resources r)
  where
    one : (o : Option Resource) → IsGood (option_map_or (λ x. model_at models x.model) o no_model)
    one None = good_none
    one (Some x) = good_listed models x.model.0 e
