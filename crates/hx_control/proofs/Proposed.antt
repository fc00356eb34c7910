-- A plan proposes, and a post shows, what the cluster has: instances, parts and states with names.
use Rattle.std.proofs.Common.{◌≡◌, ℕ, zero, suc, ◌+◌, ◌≤◌, ◌<◌, ◌||◌, ◌&&◌, ◌==◌, Bool, true, false, List, [], ◌∷◌, map, length, find, Option, Some, None, refl, ◌∙◌, subst, arith}
use Rattle.std.specs.Prelude.{nat_lt, nat_le, slice_get, unwrap_or, option_map}
use Rattle.std.specs.List.{list_any, list_all}
use Rattle.std.specs.Option.{option_map_or}
use Rattle.std.proofs.lemmas.Bool.Decides.{nat_tests}
use Rattle.hx_lists.specs.Lists.{numbers_from, numbers_below, count}
use Rattle.hx_ids.specs.declared.InstanceId.{InstanceId}
use Rattle.hx_ids.specs.declared.StateId.{StateId}
use Rattle.hx_ids.specs.declared.SessionId.{SessionId}
use Rattle.hx_ids.specs.declared.ResourceId.{ResourceId}
use Rattle.hx_ids.specs.declared.PartId.{PartId}
use Rattle.hx_model.specs.declared.ModelParts.{ModelParts}
use Rattle.hx_model.specs.Model.{has_state, states_of}
use Rattle.hx_model.specs.declared.Bound.{Bound}
use Rattle.hx_cluster.specs.declared.description.Resource.{Resource}
use Rattle.hx_cluster.specs.declared.description.Spec.{Spec}
use Rattle.hx_cluster.specs.declared.state.Row.{Row}
use Rattle.hx_cluster.specs.declared.state.Cluster.{Cluster}
use Rattle.hx_cluster.specs.declared.planning.View.{View}
use Rattle.hx_cluster.specs.declared.planning.Candidate.{Candidate}
use Rattle.hx_cluster.specs.Ends.{resource_at, model_at, no_model, model_of, parts_of, is_shown, instance_in, is_row}
use Rattle.hx_cluster.specs.Steps.{has_instance}
use Rattle.hx_cluster.specs.Events.{has_part, has_state_name, is_proposable, is_postable}
use Rattle.hx_cluster.specs.Valid.{has_no_fault, is_named_state, is_valid_model}
use Rattle.hx_cluster.specs.Views.{is_good_session, is_good_part, is_good_state, is_good_row, is_good_message, is_good_resource, is_well_formed}
use Rattle.hx_pass.specs.Plans.{throttled_of, proposal, plan}
use Rattle.hx_pass.specs.Turns.{seen_of, seen_before, posted_of}
use Rattle.hx_control.specs.Steps.{has_parts_of, is_of_cluster}
use Rattle.hx_safe.proofs.Counting.{and-first, and-second, and-both, and-six, all-le, all-map, all-find}
use Rattle.hx_safe.proofs.Models.{good_model}
use Rattle.hx_lawful.proofs.Sorting.{all-sort}
use Rattle.hx_lawful.specs.Gate.{IsFit}
use Rattle.hx_lawful.proofs.Fitting.{fits, fits_all, fit_from}

-- what a cluster has of its description
pub record HasGiven (spec : Spec) (c : Cluster) : Type 0 where
  pub models : list_all (is_valid_model c.states) spec.models ≡ true
  pub states : 2 ≤ c.states
  pub instances : 1 ≤ length c.instances

-- states with names
named-state : (n : ℕ) (s : StateId) (xs : List (StateId × Bound)) → list_all (is_named_state n) (map (λ p. p.0) xs) ≡ true
    → list_any (λ p. p.0.0 == s.0) xs ≡ true → nat_lt s.0 n ≡ true
named-state n s [] all is = cc
named-state n s (p ∷ xs) all is = grind (arith, nat_tests, all, is, named-state n s xs)

named-model : (n : ℕ) (models : List ModelParts) (k : ℕ) → list_all (is_valid_model n) models ≡ true → list_all (is_named_state n) (states_of (model_at models (record { 0 = k }))) ≡ true
named-model n [] k valid = refl
named-model n (m ∷ models) zero valid =
    and-second (has_no_fault m) (list_all (is_named_state n) (states_of m)) (and-first (is_valid_model n m) (list_all (is_valid_model n) models) valid)
named-model n (m ∷ models) (suc k) valid = named-model n models k (and-second (is_valid_model n m) (list_all (is_valid_model n) models) valid)

named-resource : (n : ℕ) (models : List ModelParts) (resources : List Resource) (r : ResourceId) → list_all (is_valid_model n) models ≡ true
    → list_all (is_named_state n) (states_of (model_of models resources r)) ≡ true
named-resource n models resources r valid = one (resource_at resources r)
  where
    one : (o : Option Resource) → list_all (is_named_state n) (states_of (option_map_or (λ x. model_at models x.model) o no_model)) ≡ true
    one None = refl
    one (Some x) = named-model n models x.model.0 valid

-- a state of the model, or one of the first two
named-there : (n : ℕ) (models : List ModelParts) (resources : List Resource) (r : ResourceId) (t : StateId) → list_all (is_valid_model n) models ≡ true → 2 ≤ n
    → (nat_lt t.0 2 || has_state (model_of models resources r) t) ≡ true → nat_lt t.0 n ≡ true
named-there n models resources r t valid few is = one (nat_lt t.0 2) refl is
  where
    one : (b : Bool) → nat_lt t.0 2 ≡ b → (b || has_state (model_of models resources r) t) ≡ true → nat_lt t.0 n ≡ true
    one true low is = grind (arith, nat_tests, low, few)
    one false low is = named-state n t (model_of models resources r).states (named-resource n models resources r valid) is

-- parts that the cluster has
low-part : (xs : List Resource) (k i : ℕ) → nat_lt i (option_map_or (λ x. x.ideal.parts) (slice_get xs k) 0) ≡ true → k < length xs
low-part [] k i is = absurd (grind (arith, nat_tests, is))
low-part (x ∷ xs) zero i is = omega arith
low-part (x ∷ xs) (suc k) i is = let less = low-part xs k i is in omega arith

number-from : (p : ℕ → Bool) (a n k : ℕ) → list_all p (numbers_from a n) ≡ true → a ≤ k → k < a + n → p k ≡ true
number-from p a zero k all low high = absurd (omega arith)
number-from p a (suc n) k all low high = one (a == k) refl (λ more less. number-from p (a + 1) n k (and-second (p a) (list_all p (numbers_from (a + 1) n)) all) more less)
  where
    one : (b : Bool) → (a == k) ≡ b → (a + 1 ≤ k → k < (a + 1) + n → p k ≡ true) → p k ≡ true
    one true is more =
        let same : a ≡ k = grind (arith, nat_tests, is) in
        subst (λ (j : ℕ). p j ≡ true) same (and-first (p a) (list_all p (numbers_from (a + 1) n)) all)
    one false is more =
        let other : a + 1 ≤ k = grind (arith, nat_tests, is) in
        let less : k < (a + 1) + n = omega arith in
        more other less

part-there : (c : Cluster) (view : View) (p : PartId) → list_all (has_parts_of c view) (numbers_below (length view.ideals.resources)) ≡ true
    → nat_lt p.index (parts_of view.ideals.resources p.resource) ≡ true → has_part c p ≡ true
part-there c view p all is =
    let low : p.resource.0 < length view.ideals.resources = low-part view.ideals.resources p.resource.0 p.index is in
    let less : p.resource.0 < 0 + length view.ideals.resources = omega arith in
    let most : nat_le (parts_of view.ideals.resources p.resource) (parts_of c.resources p.resource) ≡ true =
    number-from (has_parts_of c view) 0 (length view.ideals.resources) p.resource.0 all (omega arith) less in
    grind (arith, nat_tests, is, most)

-- a candidate that fits
fit-proposable : (spec : Spec) (c : Cluster) (view : View) (x : Candidate) → HasGiven spec c
    → list_all (has_parts_of c view) (numbers_below (length view.ideals.resources)) ≡ true → IsFit spec.models view x → is_proposable c (proposal x) ≡ true
fit-proposable spec c view x g parts fit =
    let good = good_model spec.models view.ideals.resources x.part.resource (all-le (is_valid_model c.states) has_no_fault sound spec.models g.models) in
    let from : nat_lt x.from.0 c.states ≡ true =
    named-there c.states spec.models view.ideals.resources x.part.resource x.from g.models g.states (first x.from (has_state (model_of spec.models view.ideals.resources x.part.resource) x.from) (good.starts x.from x.to fit.legal)) in
    let to : nat_lt x.to.0 c.states ≡ true =
    named-there c.states spec.models view.ideals.resources x.part.resource x.to g.models g.states (last x.to (has_state (model_of spec.models view.ideals.resources x.part.resource) x.to) (good.leads x.from x.to fit.legal)) in
    and-both (has_part c x.part && has_state_name c x.from) (has_state_name c x.to)
    (and-both (has_part c x.part) (has_state_name c x.from) (part-there c view x.part parts fit.part) from) to
  where
    sound : (m : ModelParts) → is_valid_model c.states m ≡ true → has_no_fault m ≡ true
    sound m valid = and-first (has_no_fault m) (list_all (is_named_state c.states) (states_of m)) valid

    first : (t : StateId) (b : Bool) → ((t.0 == 0) || b) ≡ true → (nat_lt t.0 2 || b) ≡ true
    first t b is = grind (arith, nat_tests, is)

    last : (t : StateId) (b : Bool) → (b || (t.0 == 1)) ≡ true → (nat_lt t.0 2 || b) ≡ true
    last t b is = grind (arith, nat_tests, is)

pub proposed : (spec : Spec) (c : Cluster) (view : View) → HasGiven spec c → is_of_cluster spec c view ≡ true
    → list_all (is_proposable c) (plan spec.models spec.rules view).proposals ≡ true
proposed spec c view g of =
    let parts : list_all (has_parts_of c view) (numbers_below (length view.ideals.resources)) ≡ true =
    and-second (is_well_formed spec.models (length c.instances) view) (list_all (has_parts_of c view) (numbers_below (length view.ideals.resources))) of in
    let sent : List Candidate = (throttled_of spec.models spec.rules view).sent in
    all-map (is_proposable c) proposal sent
    ∙ all-le (fits spec.models view) (λ (x : Candidate). is_proposable c (proposal x))
    (λ (x : Candidate) (is : fits spec.models view x ≡ true). fit-proposable spec c view x g parts (fit_from spec.models view x is)) sent (fits_all spec.models spec.rules view)

-- rows that were shown
instance-there : (n : ℕ) (all live : List (SessionId × InstanceId)) (s : SessionId) → 1 ≤ n → list_all (is_good_session n all) live ≡ true
    → nat_lt (unwrap_or (instance_in live s) (record { 0 = 0 })).0 n ≡ true
instance-there n all live s some good = one (find (λ e. e.0.0 == s.0) live) refl
  where
    one : (o : Option (SessionId × InstanceId)) → find (λ e. e.0.0 == s.0) live ≡ o → nat_lt (unwrap_or (option_map (λ e. e.1) o) (record { 0 = 0 })).0 n ≡ true
    one None is = grind (arith, nat_tests, some)
    one (Some e) is =
        and-first (nat_lt e.1.0 n) (count (λ o. o.0.0 == e.0.0) all == 1)
        (and-first (nat_lt e.1.0 n && (count (λ o. o.0.0 == e.0.0) all == 1)) (count (λ o. o.1.0 == e.1.0) all == 1)
        (all-find (is_good_session n all) (λ e. e.0.0 == s.0) live e good is))

row-postable : (spec : Spec) (c : Cluster) (view : View) (r : Row) → HasGiven spec c
    → list_all (has_parts_of c view) (numbers_below (length view.ideals.resources)) ≡ true → list_all (is_good_session (length c.instances) view.live) view.live ≡ true
    → is_good_row spec.models view r ≡ true → is_postable c (seen_of view r) ≡ true
row-postable spec c view r g parts sessions good =
    let both = and-first (is_good_part view r.session r.part && is_good_state spec.models view r.part r.state) (count (is_row r.session r.part) view.rows == 1) good in
    let first = and-first (is_good_part view r.session r.part) (is_good_state spec.models view r.part r.state) both in
    let state = and-second (is_good_part view r.session r.part) (is_good_state spec.models view r.part r.state) both in
    let index = and-second (is_shown view.live r.session) (nat_lt r.part.index (parts_of view.ideals.resources r.part.resource)) first in
    let named : nat_lt r.state.0 c.states ≡ true =
    named-there c.states spec.models view.ideals.resources r.part.resource r.state g.models g.states
    (low r.state (has_state (model_of spec.models view.ideals.resources r.part.resource) r.state) state) in
    and-both (has_instance c (seen_of view r).instance && has_part c r.part) (has_state_name c r.state)
    (and-both (has_instance c (seen_of view r).instance) (has_part c r.part)
    (instance-there (length c.instances) view.live view.live r.session g.instances sessions) (part-there c view r.part parts index)) named
  where
    low : (t : StateId) (b : Bool) → ((t.0 == 0) || b) ≡ true → (nat_lt t.0 2 || b) ≡ true
    low t b is = grind (arith, nat_tests, is)

pub posted : (spec : Spec) (c : Cluster) (view : View) → HasGiven spec c → is_of_cluster spec c view ≡ true → list_all (is_postable c) (posted_of view) ≡ true
posted spec c view g of =
    let formed : is_well_formed spec.models (length c.instances) view ≡ true =
    and-first (is_well_formed spec.models (length c.instances) view) (list_all (has_parts_of c view) (numbers_below (length view.ideals.resources))) of in
    let parts : list_all (has_parts_of c view) (numbers_below (length view.ideals.resources)) ≡ true =
    and-second (is_well_formed spec.models (length c.instances) view) (list_all (has_parts_of c view) (numbers_below (length view.ideals.resources))) of in
    let six = and-six (list_all (is_good_session (length c.instances) view.live) view.live) (list_all (is_good_message spec.models view) view.mail)
    (list_all (is_good_row spec.models view) view.rows) (nat_le (length view.ideals.resources) 256) (length view.ideals.drained == length c.instances)
    (list_all (is_good_resource spec.models (length c.instances)) view.ideals.resources) formed in
    all-sort (is_postable c) seen_before (map (seen_of view) view.rows)
    ∙ all-map (is_postable c) (seen_of view) view.rows
    ∙ all-le (is_good_row spec.models view) (λ (r : Row). is_postable c (seen_of view r)) (λ (r : Row) (good : is_good_row spec.models view r ≡ true). row-postable spec c view r g parts six.0 good) view.rows six.2
