-- Each target that isn't at its goal has a next transition.
use Rattle.std.proofs.Common.{◌≡◌, ℕ, zero, suc, ◌+◌, ◌<◌, ◌&&◌, ◌||◌, ◌==◌, not, Bool, true, false, List, [], ◌∷◌, length, filter, find, Option, Some, None, refl, sym, ap, ◌∙◌, ◌⊎◌, inl, inr, subst, arith}
use Rattle.std.specs.Prelude.{if◌then◌else◌, nat_lt, unwrap_or, slice_index_or, slice_get, IsSomeAnd, ◌-◌}
use Rattle.std.specs.List.{All, list_any, list_all, flat_map}
use Rattle.std.specs.Option.{option_map, option_map_or}
use Rattle.std.proofs.lemmas.Bool.Decides.{nat_tests}
use Rattle.std.proofs.lemmas.List.Elements.{All-nil, All-cons, All-append, All-map, All-weaker}
use Rattle.hx_lists.specs.Lists.{count, numbers_below}
use Rattle.hx_ids.specs.declared.InstanceId.{InstanceId}
use Rattle.hx_ids.specs.declared.ResourceId.{ResourceId}
use Rattle.hx_ids.specs.declared.StateId.{StateId}
use Rattle.hx_ids.specs.declared.SessionId.{SessionId}
use Rattle.hx_ids.specs.declared.PartId.{PartId}
use Rattle.hx_model.specs.declared.Bound.{Bound}
use Rattle.hx_model.specs.declared.ModelParts.{ModelParts}
use Rattle.hx_model.specs.declared.ModelFault.TheVariants.{Reserved}
use Rattle.hx_model.specs.Faults.{fault_of, too_many_states, reserved_state}
use Rattle.hx_model.specs.Model.{error, dropped, has_state, is_legal}
use Rattle.hx_model.specs.Walks.{has_walk, dist}
use Rattle.hx_model.proofs.Facts.{sound_facts}
use Rattle.hx_hops.specs.Hops.{hop, is_from, is_goal}
use Rattle.hx_hops.proofs.Legal.{step_exists, dist_walk}
use Rattle.hx_hops.proofs.Shortest.{dist-reached, hop_first, hop_none}
use Rattle.hx_ideal.specs.declared.Mode.{Mode}
use Rattle.hx_ideal.specs.declared.Mode.TheVariants as modes
use Rattle.hx_cluster.specs.declared.description.Resource.{Resource}
use Rattle.hx_cluster.specs.declared.state.Row.{Row}
use Rattle.hx_cluster.specs.declared.planning.View.{View}
use Rattle.hx_cluster.specs.declared.planning.Target.{Target}
use Rattle.hx_cluster.specs.declared.planning.Candidate.{Candidate}
use Rattle.hx_cluster.specs.Ends.{part_eq, is_row, row_of, state_of, resource_at, no_model, model_at, model_of}
use Rattle.hx_cluster.specs.Steps.{is_error, is_drained}
use Rattle.hx_cluster.specs.Reads.{instance_before}
use Rattle.hx_cluster.specs.Valid.{has_no_fault}
use Rattle.hx_cluster.specs.Views.{is_good_part, is_good_state, is_good_row, is_good_mode, is_good_resource, is_well_formed}
use Rattle.hx_best.specs.Wants.{wants_in, wants_of, is_wanted, by_instance, open_instances, in_turn}
use Rattle.hx_best.specs.Goals.{room_in, best_among, best_state, is_in_error, is_asked, eligible_before, wanted_goal, goal}
use Rattle.hx_best.specs.Targets.{is_target, target, targets_at, targets_in, targets, all_targets, is_shown_as, IsTargetIn, IsTargetOf, AreTargets}
use Rattle.hx_gen.specs.Candidates.{is_at_goal}
use Rattle.hx_safe.proofs.Counting.{and-first, and-second, and-both, and-three, all-find, all-both, all-filter, find-passes}
use Rattle.hx_safe.proofs.Ends.{part_same, same-self}
use Rattle.hx_safe.proofs.Ideals.{none_from}
use Rattle.hx_safe.proofs.Models.{good_from, or-none, state_same}
use Rattle.hx_lawful.proofs.Sorting.{all-sort, each_there, all-passed}
use Rattle.hx_lawful.proofs.Viewing.{good_view}
use Rattle.hx_lawful.proofs.Choosing.{numbers-below}
use Rattle.hx_settled.specs.Hops.{IsHop, HasHop, HaveHops}
use Rattle.hx_model.proofs.Places.{no_place, none_passes}
use Rattle.hx_safe.proofs.Counting.{or-swap}

-- facts of all items
pub all-from : {X : Type 0} (P : X → Type 0) (q : X → Bool) → ((x : X) → q x ≡ true → P x) → (xs : List X) → list_all q xs ≡ true → All P xs
all-from P q h [] e = All-nil P
all-from P q h (x ∷ xs) e = All-cons P x xs (h x (and-first (q x) (list_all q xs) e)) (all-from P q h xs (and-second (q x) (list_all q xs) e))

pub all-flat : {X Y : Type 0} (P : Y → Type 0) (f : X → List Y) (q : X → Bool) → ((x : X) → q x ≡ true → All P (f x)) → (xs : List X) → list_all q xs ≡ true → All P (flat_map f xs)
all-flat P f q h [] e = All-nil P
all-flat P f q h (x ∷ xs) e = All-append P (f x) (flat_map f xs) (h x (and-first (q x) (list_all q xs) e)) (all-flat P f q h xs (and-second (q x) (list_all q xs) e))

-- all targets are targets of their own session, instance and part
targets_here : (models : List ModelParts) (view : View) (r : Resource) (p : PartId) → resource_at view.ideals.resources p.resource ≡ Some r → nat_lt p.index r.ideal.parts ≡ true
    → All (IsTargetOf models view) (targets_at models view r p)
targets_here models view r p at low =
    All-map (IsTargetOf models view) (target models view r p) (filter (is_target view r p) (by_instance view.live))
    (all-from (λ e. IsTargetOf models view (target models view r p e)) (λ e. list_any (is_shown_as e.0 e.1) view.live && is_target view r p e)
    (λ e both. each e (and-first (list_any (is_shown_as e.0 e.1) view.live) (is_target view r p e) both) (and-second (list_any (is_shown_as e.0 e.1) view.live) (is_target view r p e) both))
    (filter (is_target view r p) (by_instance view.live))
    (all-both (λ e. list_any (is_shown_as e.0 e.1) view.live) (is_target view r p) (filter (is_target view r p) (by_instance view.live))
    (all-filter (λ e. list_any (is_shown_as e.0 e.1) view.live) (is_target view r p) (by_instance view.live)
    (all-sort (λ e. list_any (is_shown_as e.0 e.1) view.live) instance_before view.live
    ∙ each_there (λ (e : SessionId × InstanceId). is_shown_as e.0 e.1) (λ e. and-both (e.0.0 == e.0.0) (e.1.0 == e.1.0) (same-self e.0.0) (same-self e.1.0)) view.live))
    (all-passed (is_target view r p) (by_instance view.live))))
  where
    each : (e : SessionId × InstanceId) → list_any (is_shown_as e.0 e.1) view.live ≡ true → is_target view r p e ≡ true → IsTargetOf models view (target models view r p e)
    each e shown wanted = subst (λ (o : Option Resource). IsSomeAnd o (IsTargetIn models view (target models view r p e))) (sym at) inside
      where
        inside : IsTargetIn models view (target models view r p e) r
        inside = record { shown = shown; part = low; wanted = wanted; own = refl }

targets_inside : (models : List ModelParts) (view : View) (n : ResourceId) (o : Option Resource) → resource_at view.ideals.resources n ≡ o
    → All (IsTargetOf models view) (option_map_or (targets_in models view n) o [])
targets_inside models view n None at = All-nil (IsTargetOf models view)
targets_inside models view n (Some r) at =
    all-flat (IsTargetOf models view) (λ k. targets_at models view r (record { resource = n; index = k })) (λ k. nat_lt k r.ideal.parts)
    (λ k low. targets_here models view r (record { resource = n; index = k }) at low) (numbers_below r.ideal.parts) (numbers-below r.ideal.parts)

pub are_targets : (models : List ModelParts) (view : View) → AreTargets models view (all_targets models view)
are_targets models view =
    all-flat (IsTargetOf models view) (λ n. targets models view (record { 0 = n })) (λ n. nat_lt n (length view.ideals.resources))
    (λ n low. targets_inside models view (record { 0 = n }) (resource_at view.ideals.resources (record { 0 = n })) refl)
    (numbers_below (length view.ideals.resources)) (numbers-below (length view.ideals.resources))

-- a model without a fault lists neither ERROR nor DROPPED, so nothing leads from DROPPED, or to ERROR
any-none : {X : Type 0} (p q : X → Bool) → ((x : X) → p x ≡ true → q x ≡ true) → (xs : List X) → list_any q xs ≡ false → list_any p xs ≡ false
any-none p q h [] e = refl
any-none p q h (x ∷ xs) e = grind (arith, e, h x, any-none p q h xs)

pub listed_plain : (m : ModelParts) → fault_of m ≡ None → (t : StateId) → nat_lt t.0 2 ≡ true → has_state m t ≡ false
listed_plain m e t low =
    let one = or-none (too_many_states m) _ e in
    let two = or-none (reserved_state m) _ one.1 in
    let plain = none_passes (λ (p : StateId × Bound). nat_lt p.0.0 2) m.states (no_place (λ i. Reserved i) _ two.0) in
    any-none (λ (p : StateId × Bound). p.0.0 == t.0) (λ (p : StateId × Bound). nat_lt p.0.0 2) (λ p at. lower p.0.0 t.0 at low) m.states plain
  where
    lower : (a b : ℕ) → (a == b) ≡ true → nat_lt b 2 ≡ true → nat_lt a 2 ≡ true
    lower a b e low = grind (arith, nat_tests, e, low)

pub to_no_error : (m : ModelParts) → fault_of m ≡ None → (from to : StateId) → is_legal m from to ≡ true → (to.0 == error.0) ≡ false
to_no_error m e from to legal = one (to.0 == error.0) refl
  where
    one : (b : Bool) → (to.0 == error.0) ≡ b → b ≡ false
    one false is = refl
    one true is = clash (has_state m to) (to.0 == 1) ((good_from m e).leads from to legal) (listed_plain m e to (low is)) (other is)
      where
        low : (to.0 == 0) ≡ true → nat_lt to.0 2 ≡ true
        low is = grind (arith, nat_tests, is)

        other : (to.0 == 0) ≡ true → (to.0 == 1) ≡ false
        other is = grind (arith, nat_tests, is)

        clash : (a b : Bool) → (a || b) ≡ true → a ≡ false → b ≡ false → true ≡ false
        clash true b e one two = one
        clash false b e one two = sym e ∙ two

from_no_dropped : (m : ModelParts) → fault_of m ≡ None → (to : StateId) → is_legal m dropped to ≡ true → ⊥
from_no_dropped m e to legal = clash (has_state m dropped) ((good_from m e).starts dropped to legal) (listed_plain m e dropped refl)
  where
    clash : (b : Bool) → (false || b) ≡ true → b ≡ false → ⊥
    clash true e w = absurd (let no : true ≡ false = w in cc)
    clash false e w = absurd (let no : false ≡ true = e in cc)

only_dropped : (m : ModelParts) (to goal : StateId) → fault_of m ≡ None → dist m to goal < length m.states + 2 → (to.0 == dropped.0) ≡ true → (goal.0 == dropped.0) ≡ true
only_dropped m to goal e low is = walk (dist m to goal) (dist_walk m to goal low)
  where
    same : to ≡ dropped
    same = state_same to dropped is

    walk : (n : ℕ) → has_walk m n to goal ≡ true → (goal.0 == dropped.0) ≡ true
    walk zero w = let at : (dropped.0 == goal.0) ≡ true = subst (λ (t : StateId). has_walk m zero t goal ≡ true) same w in grind (arith, nat_tests, at)
    walk (suc n) w =
        let step = step_exists m (λ t. has_walk m n t goal) dropped (subst (λ (t : StateId). has_walk m (suc n) t goal ≡ true) same w) in
        absurd (from_no_dropped m e step.0 step.1)

-- a hop from a state that a replica may be in to one that it may be wanted in
pub hop_there : (m : ModelParts) (t : Target) → fault_of m ≡ None → is_from m (unwrap_or t.state m.initial) ≡ true → is_goal m t.goal ≡ true
    → ((unwrap_or t.state m.initial).0 == t.goal.0) ≡ false → (x : Candidate) × IsHop m t x
hop_there m t e from end ne = one (hop m (unwrap_or t.state m.initial) t.goal) refl
  where
    s : StateId
    s = unwrap_or t.state m.initial

    one : (o : Option StateId) → hop m s t.goal ≡ o → (x : Candidate) × IsHop m t x
    one None is =
        let same : s ≡ t.goal = hop_none m s t.goal e from end is in
        let at : (t.goal.0 == t.goal.0) ≡ false = subst (λ (u : StateId). (u.0 == t.goal.0) ≡ false) same ne in
        absurd (let both = sym (same-self t.goal.0) ∙ at in cc)
    one (Some to) is =
        let first = hop_first m s t.goal to is in
        let far = dist-reached m s t.goal e from end in
        let near : dist m to t.goal < length m.states + 2 = omega (arith, first.nearer, far) in (
          record { session = t.session; instance = t.instance; part = t.part; from = s; to = to; place = t.place },
          record {
            next = ap (option_map (λ u. record { session = t.session; instance = t.instance; part = t.part; from = s; to = u; place = t.place })) is;
            legal = first.legal;
            nearer = first.nearer;
            drops = only_dropped m to t.goal e near;
            plain = to_no_error m e s to first.legal;
          },
        )

-- goals are states of the model or DROPPED, but for a replica in ERROR that nobody asked to reset
pub item_at : {X : Type 0} (q : X → Bool) (d : X) → q d ≡ true → (xs : List X) (n : ℕ) → list_all q xs ≡ true → q (slice_index_or xs n d) ≡ true
item_at q d e [] n all = e
item_at q d e (x ∷ xs) zero all = and-first (q x) (list_all q xs) all
item_at q d e (x ∷ xs) (suc n) all = item_at q d e xs n (and-second (q x) (list_all q xs) all)

best_listed : (m : ModelParts) (states : List (StateId × Bound)) (replicas live k : ℕ) → list_all (λ p. has_state m p.0) states ≡ true → has_state m m.initial ≡ true
    → has_state m (best_among states m.initial replicas live k) ≡ true
best_listed m [] replicas live k all first = first
best_listed m (p ∷ states) replicas live k all first =
    one (nat_lt k (room_in p.1 replicas live)) (best_among states m.initial replicas live (k - room_in p.1 replicas live)) (best_listed m states replicas live (k - room_in p.1 replicas live) (and-second (has_state m p.0) (list_all (λ x. has_state m x.0) states) all) first)
  where
    one : (b : Bool) (u : StateId) → has_state m u ≡ true → has_state m (if b then p.0 else u) ≡ true
    one true u rest = and-first (has_state m p.0) (list_all (λ x. has_state m x.0) states) all
    one false u rest = rest

listed_goal : (m : ModelParts) (t : StateId) → has_state m t ≡ true → is_goal m t ≡ true
listed_goal m t e = ap (λ (b : Bool). b || (t.0 == 1)) e

dropped_goal : (m : ModelParts) → is_goal m dropped ≡ true
dropped_goal m = one (has_state m dropped)
  where
    one : (b : Bool) → (b || true) ≡ true
    one true = refl
    one false = refl

wanted_good : (m : ModelParts) (view : View) (r : Resource) (p : PartId) (instances : ℕ) (i : InstanceId) → fault_of m ≡ None → is_good_mode instances m r.ideal.mode ≡ true
    → is_goal m (wanted_goal m view r p (wants_of view r p.index) i) ≡ true
wanted_good m view r p instances i e good = of_mode r.ideal.mode good
  where
    first : has_state m m.initial ≡ true
    first = (sound_facts m e).initial

    below : (k : ℕ) (b : Bool) → is_goal m (if b then best_state m r.ideal.replicas (length view.live) k else dropped) ≡ true
    below k true =
        listed_goal m (best_state m r.ideal.replicas (length view.live) k)
        (best_listed m m.states r.ideal.replicas (length view.live) k (each_there (λ (x y : StateId × Bound). y.0.0 == x.0.0) (λ x. same-self x.0.0) m.states) first)
    below k false = dropped_goal m

    found : (entries : List (InstanceId × StateId)) → list_all (λ e. nat_lt e.0.0 instances && has_state m e.1) entries ≡ true → (o : Option (InstanceId × StateId))
        → find (λ e. e.0.0 == i.0) entries ≡ o → is_goal m (option_map_or (λ e. e.1) o dropped) ≡ true
    found entries all None is = dropped_goal m
    found entries all (Some x) is =
        listed_goal m x.1
        (and-second (nat_lt x.0.0 instances) (has_state m x.1)
        (all-find (λ (e : InstanceId × StateId). nat_lt e.0.0 instances && has_state m e.1) (λ (e : InstanceId × StateId). e.0.0 == i.0) entries x all is))

    of_mode : (mode : Mode) → is_good_mode instances m mode ≡ true → is_goal m (wanted_goal m view r p (wants_in mode view r.ideal.replicas p.index) i) ≡ true
    of_mode modes.Full good = below (eligible_before view p (in_turn (open_instances view) r.ideal.replicas p.index) i) (nat_lt (eligible_before view p (in_turn (open_instances view) r.ideal.replicas p.index) i) r.ideal.replicas)
    of_mode (modes.Semi lists) good = below (eligible_before view p (slice_index_or lists p.index []) i) (nat_lt (eligible_before view p (slice_index_or lists p.index []) i) r.ideal.replicas)
    of_mode (modes.Custom maps) good =
        let entries : List (InstanceId × StateId) = slice_index_or maps p.index [] in
        found entries (item_at (list_all (λ (e : InstanceId × StateId). nat_lt e.0.0 instances && has_state m e.1)) [] refl maps p.index good) (find (λ e. e.0.0 == i.0) entries) refl

pub goal_good : (models : List ModelParts) (view : View) (r : Resource) (p : PartId) (s : SessionId) (i : InstanceId) (instances : ℕ) → fault_of (model_at models r.model) ≡ None
    → is_good_mode instances (model_at models r.model) r.ideal.mode ≡ true
    → (is_goal (model_at models r.model) (goal models view r p s i) ≡ true) ⊎ ((is_in_error view s p ≡ true) × (goal models view r p s i ≡ error))
goal_good models view r p s i instances e good = in_error (is_in_error view s p) refl (is_asked view s p)
  where
    m : ModelParts
    m = model_at models r.model

    first : is_goal m m.initial ≡ true
    first = listed_goal m m.initial (sound_facts m e).initial

    wanted : Bool → Bool → StateId
    wanted a b = if a then dropped else if b then m.initial else wanted_goal m view r p (wants_of view r p.index) i

    there : (a b : Bool) → is_goal m (wanted a b) ≡ true
    there true b = dropped_goal m
    there false true = first
    there false false = wanted_good m view r p instances i e good

    rest : StateId
    rest = wanted (r.dropped || not (is_wanted (wants_of view r p.index) i)) (is_drained view.ideals.drained i)

    in_error : (a : Bool) → is_in_error view s p ≡ a → (b : Bool)
        → (is_goal m (if a then (if b then m.initial else error) else rest) ≡ true) ⊎ ((a ≡ true) × ((if a then (if b then m.initial else error) else rest) ≡ error))
    in_error true is true = inl first
    in_error true is false = inr (refl, refl)
    in_error false is b = inl (there (r.dropped || not (is_wanted (wants_of view r p.index) i)) (is_drained view.ideals.drained i))

-- replicas are in states of the model, or in ERROR
state_good : (models : List ModelParts) (view : View) (s : SessionId) (p : PartId) (t : StateId) → list_all (is_good_row models view) view.rows ≡ true → state_of view.rows s p ≡ Some t
    → is_good_state models view p t ≡ true
state_good models view s p t good is = one (row_of view.rows s p) refl is
  where
    one : (o : Option Row) → row_of view.rows s p ≡ o → option_map (λ r. r.state) o ≡ Some t → is_good_state models view p t ≡ true
    one None at e = cc
    one (Some r) at e =
        let same : r.state ≡ t = head e in
        let row : is_good_row models view r ≡ true = all-find (is_good_row models view) (is_row s p) view.rows r good at in
        let parts = and-three (is_good_part view r.session r.part) (is_good_state models view r.part r.state) (count (is_row r.session r.part) view.rows == 1) row in
        let part : r.part ≡ p = part_same r.part p (and-second (r.session.0 == s.0) (part_eq r.part p) (find-passes (is_row s p) view.rows r at)) in
        subst (λ (q : PartId). is_good_state models view q t ≡ true) part (subst (λ (u : StateId). is_good_state models view r.part u ≡ true) same parts.1)
      where
        head : Some r.state ≡ Some t → r.state ≡ t
        head e = cc

-- so each target has its hop
model_sound : (models : List ModelParts) (n : ℕ) → list_all has_no_fault models ≡ true → nat_lt n (length models) ≡ true → fault_of (slice_index_or models n no_model) ≡ None
model_sound [] n all low = absurd (grind (arith, nat_tests, low))
model_sound (m ∷ models) zero all low = none_from (fault_of m) (and-first (has_no_fault m) (list_all has_no_fault models) all)
model_sound (m ∷ models) (suc n) all low = model_sound models n (and-second (has_no_fault m) (list_all has_no_fault models) all) (grind (arith, nat_tests, low))

get-all : {X : Type 0} (q : X → Bool) (xs : List X) (n : ℕ) (x : X) → list_all q xs ≡ true → slice_get xs n ≡ Some x → q x ≡ true
get-all q [] n x all is = cc
get-all q (y ∷ xs) zero x all is = let same : y ≡ x = grind (arith, is) in subst (λ z. q z ≡ true) same (and-first (q y) (list_all q xs) all)
get-all q (y ∷ xs) (suc n) x all is = get-all q xs n x (and-second (q y) (list_all q xs) all) is

-- the model of a shown resource has no fault, and its mode is good
pub good_in : (models : List ModelParts) (instances : ℕ) (view : View) → list_all has_no_fault models ≡ true → is_well_formed models instances view ≡ true → (r : Resource) (n : ResourceId)
    → resource_at view.ideals.resources n ≡ Some r → (fault_of (model_at models r.model) ≡ None) × (is_good_mode instances (model_at models r.model) r.ideal.mode ≡ true)
good_in models instances view sound formed r n at =
    let good = get-all (is_good_resource models instances) view.ideals.resources n.0 r (good_view models instances view formed).resources at in (
      model_sound models r.model.0 sound (and-first (nat_lt r.model.0 (length models)) (is_good_mode instances (model_at models r.model) r.ideal.mode) good),
      and-second (nat_lt r.model.0 (length models)) (is_good_mode instances (model_at models r.model) r.ideal.mode) good,
    )

-- a target away from its goal stands in a state that a replica may be in, and goes to one that it may be wanted in
pub record IsAway (m : ModelParts) (t : Target) : Type 0 where
  pub from : is_from m (unwrap_or t.state m.initial) ≡ true
  pub end : is_goal m t.goal ≡ true
  pub apart : ((unwrap_or t.state m.initial).0 == t.goal.0) ≡ false

pub away_in : (models : List ModelParts) (instances : ℕ) (view : View) → list_all has_no_fault models ≡ true → is_well_formed models instances view ≡ true → (r : Resource) (t : Target)
    → resource_at view.ideals.resources t.part.resource ≡ Some r → IsTargetIn models view t r → is_at_goal (model_at models r.model) t ≡ false → IsAway (model_at models r.model) t
away_in models instances view sound formed r t at is away = from_goal (goal_good models view r t.part t.session t.instance instances none modes)
  where
    m : ModelParts
    m = model_at models r.model

    none : fault_of (model_at models r.model) ≡ None
    none = (good_in models instances view sound formed r t.part.resource at).0

    modes : is_good_mode instances (model_at models r.model) r.ideal.mode ≡ true
    modes = (good_in models instances view sound formed r t.part.resource at).1

    its_goal : t.goal ≡ goal models view r t.part t.session t.instance
    its_goal = ap (λ (u : Target). u.goal) is.own

    its_state : t.state ≡ state_of view.rows t.session t.part
    its_state = ap (λ (u : Target). u.state) is.own

    initial : has_state m m.initial ≡ true
    initial = (sound_facts m none).initial

    stands : (o : Option StateId) → t.state ≡ o → is_from m (unwrap_or o m.initial) ≡ true
    stands None e = ap (λ (b : Bool). b || (m.initial.0 == 0)) initial
    stands (Some u) e =
        let state = state_good models view t.session t.part u (good_view models instances view formed).rows (sym its_state ∙ e) in
        let model : model_of models view.ideals.resources t.part.resource ≡ m = ap (λ (o : Option Resource). option_map_or (λ x. model_at models x.model) o no_model) at in
        or-swap (u.0 == 0) (has_state m u) (sym (ap (λ (x : ModelParts). (u.0 == 0) || has_state x u) model) ∙ state)

    apart : (o : Option StateId) → option_map_or (λ (s : StateId). s.0 == t.goal.0) o ((t.goal.0 == m.initial.0) || (t.goal.0 == dropped.0)) ≡ false → ((unwrap_or o m.initial).0 == t.goal.0) ≡ false
    apart None e = let ne : (t.goal.0 == m.initial.0) ≡ false = first (t.goal.0 == m.initial.0) (t.goal.0 == dropped.0) e in grind (arith, nat_tests, ne)
      where
        first : (a b : Bool) → (a || b) ≡ false → a ≡ false
        first true b e = e
        first false b e = refl
    apart (Some s) e = e

    failed : (o : Option StateId) → is_error o ≡ true → t.goal ≡ error → option_map_or (λ (s : StateId). s.0 == t.goal.0) o ((t.goal.0 == m.initial.0) || (t.goal.0 == dropped.0)) ≡ false → ⊥
    failed None e g ne = absurd (let no : false ≡ true = e in cc)
    failed (Some s) e g ne =
        let at_it : (s.0 == t.goal.0) ≡ true = subst (λ (u : StateId). (s.0 == u.0) ≡ true) (sym g) e in
        absurd (let no : true ≡ false = sym at_it ∙ ne in cc)

    from_goal : (is_goal m (goal models view r t.part t.session t.instance) ≡ true)
        ⊎ ((is_in_error view t.session t.part ≡ true) × (goal models view r t.part t.session t.instance ≡ error)) → IsAway m t
    from_goal (inl end) = record { from = stands t.state refl; end = ap (is_goal m) its_goal ∙ end; apart = apart t.state away }
    from_goal (inr is) = absurd (failed t.state (ap is_error its_state ∙ is.0) (its_goal ∙ is.1) away)

pub have_hops : (models : List ModelParts) (instances : ℕ) (view : View) → list_all has_no_fault models ≡ true → is_well_formed models instances view ≡ true → HaveHops models view
have_hops models instances view sound formed =
    All-weaker (IsTargetOf models view) (λ t. HasHop (model_of models view.ideals.resources t.part.resource) t)
    (λ t is. each t (resource_at view.ideals.resources t.part.resource) refl is) (all_targets models view) (are_targets models view)
  where
    each : (t : Target) (o : Option Resource) → resource_at view.ideals.resources t.part.resource ≡ o → IsSomeAnd o (IsTargetIn models view t)
        → HasHop (option_map_or (λ x. model_at models x.model) o no_model) t
    each t None at is away = absurd is
    each t (Some r) at is away =
        let far = away_in models instances view sound formed r t at is away in
        hop_there (model_at models r.model) t (good_in models instances view sound formed r t.part.resource at).0 far.from far.end far.apart
