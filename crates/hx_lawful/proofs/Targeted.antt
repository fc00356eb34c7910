-- The targets of a plan are of shown sessions and of parts that are there, and each replica has at most one.
use Rattle.std.proofs.Common.{◌≡◌, ℕ, ◌≤◌, ◌&&◌, ◌==◌, Bool, true, false, List, [], ◌∷◌, length, filter, Option, Some, None, refl, ap, ◌∙◌, subst, arith}
use Rattle.std.specs.Prelude.{nat_lt}
use Rattle.std.specs.List.{list_any, list_all}
use Rattle.std.specs.Option.{option_map_or}
use Rattle.std.proofs.lemmas.Bool.Decides.{nat_tests}
use Rattle.hx_lists.specs.Lists.{count, numbers_below}
use Rattle.hx_ids.specs.declared.InstanceId.{InstanceId}
use Rattle.hx_ids.specs.declared.ResourceId.{ResourceId}
use Rattle.hx_ids.specs.declared.SessionId.{SessionId}
use Rattle.hx_ids.specs.declared.PartId.{PartId}
use Rattle.hx_ids.specs.declared.StateId.{StateId}
use Rattle.hx_model.specs.declared.ModelParts.{ModelParts}
use Rattle.hx_cluster.specs.declared.description.Resource.{Resource}
use Rattle.hx_cluster.specs.declared.planning.View.{View}
use Rattle.hx_cluster.specs.declared.planning.Target.{Target}
use Rattle.hx_cluster.specs.Ends.{part_eq, is_shown, state_of, resource_at, parts_of}
use Rattle.hx_cluster.specs.Reads.{instance_before}
use Rattle.hx_cluster.specs.Views.{is_good_session, is_well_formed}
use Rattle.hx_best.specs.Wants.{by_instance}
use Rattle.hx_best.specs.Targets.{is_target, target, targets_at, targets_in, targets, all_targets}
use Rattle.hx_safe.proofs.Counting.{and-first, and-both, and-three, count-filter, count-le, count-map, count-none, all-le, all-filter, all-map, none-from-all}
use Rattle.hx_safe.proofs.Ends.{session_same, same-self}
use Rattle.hx_safe.specs.Calm.{is_same_state}
use Rattle.hx_safe.proofs.Waiting.{any-one}
use Rattle.hx_lawful.proofs.Sorting.{count-sort, all-sort, each_there}
use Rattle.hx_lawful.proofs.Viewing.{good_view}
use Rattle.hx_lawful.proofs.Choosing.{all-pieces, pieces-once, numbers-below, numbers-once}

-- a target is of a shown session and of a part that is there, in the state of its row
abbrev pub is_own : View → Target → Bool
is_own view t =
    is_shown view.live t.session && nat_lt t.part.index (parts_of view.ideals.resources t.part.resource) && is_same_state t.state (state_of view.rows t.session t.part)

-- it is of a session's part
abbrev pub is_of_replica : SessionId → PartId → Target → Bool
is_of_replica s p t = (t.session.0 == s.0) && part_eq t.part p

same_state-self : (o : Option StateId) → is_same_state o o ≡ true
same_state-self None = refl
same_state-self (Some s) = same-self s.0

own_at : (models : List ModelParts) (view : View) (r : Resource) (p : PartId) → nat_lt p.index (parts_of view.ideals.resources p.resource) ≡ true
    → list_all (is_own view) (targets_at models view r p) ≡ true
own_at models view r p low =
    all-map (is_own view) (target models view r p) (filter (is_target view r p) (by_instance view.live))
    ∙ all-filter (λ e. is_own view (target models view r p e)) (is_target view r p) (by_instance view.live)
    (all-sort (λ e. is_own view (target models view r p e)) instance_before view.live
    ∙ all-le (λ (e : SessionId × InstanceId). is_shown view.live e.0) (λ e. is_own view (target models view r p e)) (λ e shown. each e shown) view.live
    (each_there (λ (a b : SessionId × InstanceId). b.0.0 == a.0.0) (λ a. same-self a.0.0) view.live))
  where
    each : (e : SessionId × InstanceId) → is_shown view.live e.0 ≡ true → is_own view (target models view r p e) ≡ true
    each e shown =
        and-both (is_shown view.live e.0 && nat_lt p.index (parts_of view.ideals.resources p.resource)) (is_same_state (state_of view.rows e.0 p) (state_of view.rows e.0 p))
        (and-both (is_shown view.live e.0) (nat_lt p.index (parts_of view.ideals.resources p.resource)) shown low) (same_state-self (state_of view.rows e.0 p))

own_in : (models : List ModelParts) (view : View) (n : ResourceId) → (o : Option Resource) → resource_at view.ideals.resources n ≡ o
    → list_all (is_own view) (option_map_or (targets_in models view n) o []) ≡ true
own_in models view n None is = refl
own_in models view n (Some r) is =
    all-pieces (is_own view) (λ k. targets_at models view r (record { resource = n; index = k })) (λ k. nat_lt k r.ideal.parts)
    (λ k low. own_at models view r (record { resource = n; index = k }) (ap (λ (o : Option Resource). nat_lt k (option_map_or (λ x. x.ideal.parts) o 0)) is ∙ low))
    (numbers_below r.ideal.parts) (numbers-below r.ideal.parts)

pub own_targets : (models : List ModelParts) (view : View) → list_all (is_own view) (all_targets models view) ≡ true
own_targets models view =
    all-pieces (is_own view) (λ n. targets models view (record { 0 = n })) (λ n. nat_lt n (length view.ideals.resources))
    (λ n low. own_in models view (record { 0 = n }) (resource_at view.ideals.resources (record { 0 = n })) refl)
    (numbers_below (length view.ideals.resources)) (numbers-below (length view.ideals.resources))

-- the targets of a part are of that part
part_at : (q : PartId → Bool) (models : List ModelParts) (view : View) (r : Resource) (p : PartId) → q p ≡ true → list_all (λ t. q t.part) (targets_at models view r p) ≡ true
part_at q models view r p e =
    all-map (λ t. q t.part) (target models view r p) (filter (is_target view r p) (by_instance view.live)) ∙ each (filter (is_target view r p) (by_instance view.live))
  where
    each : (xs : List (SessionId × InstanceId)) → list_all (λ x. q p) xs ≡ true
    each [] = refl
    each (x ∷ xs) = and-both (q p) (list_all (λ y. q p) xs) e (each xs)

part_in : (models : List ModelParts) (view : View) (n : ResourceId) (o : Option Resource) → list_all (λ t. t.part.resource.0 == n.0) (option_map_or (targets_in models view n) o []) ≡ true
part_in models view n None = refl
part_in models view n (Some r) =
    all-pieces (λ (t : Target). t.part.resource.0 == n.0) (λ k. targets_at models view r (record { resource = n; index = k })) (λ k. nat_lt k r.ideal.parts)
    (λ k low. part_at (λ (p : PartId). p.resource.0 == n.0) models view r (record { resource = n; index = k }) (same-self n.0))
    (numbers_below r.ideal.parts) (numbers-below r.ideal.parts)

-- a shown session stands once
pub shown_single : (models : List ModelParts) (instances : ℕ) (view : View) → is_well_formed models instances view ≡ true → (s : SessionId)
    → count (λ (e : SessionId × InstanceId). e.0.0 == s.0) view.live ≤ 1
shown_single models instances view formed s = one (list_any (λ (e : SessionId × InstanceId). e.0.0 == s.0) view.live) refl
  where
    one : (b : Bool) → list_any (λ (e : SessionId × InstanceId). e.0.0 == s.0) view.live ≡ b → count (λ (e : SessionId × InstanceId). e.0.0 == s.0) view.live ≤ 1
    one false is = let none = count-none (λ (e : SessionId × InstanceId). e.0.0 == s.0) view.live is in omega (arith, none)
    one true is =
        let found = any-one (λ (e : SessionId × InstanceId). e.0.0 == s.0) view.live is in
        let x = found.0 in
        let good : is_good_session instances view.live x ≡ true = found.2 (is_good_session instances view.live) (good_view models instances view formed).sessions in
        let parts = and-three (nat_lt x.1.0 instances) (count (λ (o : SessionId × InstanceId). o.0.0 == x.0.0) view.live == 1) (count (λ (o : SessionId × InstanceId). o.1.0 == x.1.0) view.live == 1) good in
        let here : (count (λ (o : SessionId × InstanceId). o.0.0 == s.0) view.live == 1) ≡ true
        = subst (λ (u : SessionId). (count (λ (o : SessionId × InstanceId). o.0.0 == u.0) view.live == 1) ≡ true) (session_same x.0 s found.1) parts.1 in
        grind (arith, nat_tests, here)

-- so a part has at most one target of a session
once_at : (models : List ModelParts) (instances : ℕ) (view : View) → is_well_formed models instances view ≡ true → (r : Resource) (q : PartId) (s : SessionId) (p : PartId)
    → count (is_of_replica s p) (targets_at models view r q) ≤ 1
once_at models instances view formed r q s p =
    let all = by_instance view.live in
    let mapped = count-map (is_of_replica s p) (target models view r q) (filter (is_target view r q) all) in
    let some = count-filter (λ (e : SessionId × InstanceId). is_of_replica s p (target models view r q e)) (is_target view r q) all in
    let sorted = count-sort (λ (e : SessionId × InstanceId). is_of_replica s p (target models view r q e)) instance_before view.live in
    let less = count-le (λ (e : SessionId × InstanceId). is_of_replica s p (target models view r q e)) (λ (e : SessionId × InstanceId). e.0.0 == s.0)
    (λ e here. and-first (e.0.0 == s.0) (part_eq q p) here) view.live in
    omega (arith, mapped, some, sorted, less, shown_single models instances view formed s)

other_part : (s : SessionId) (p : PartId) (n : ℕ) (t : Target) → (t.part.resource.0 == n) ≡ true → (n == p.resource.0) ≡ false → is_of_replica s p t ≡ false
other_part s p n t at ne = grind (arith, nat_tests, at, ne)

other_index : (s : SessionId) (p : PartId) (n : ℕ) (t : Target) → (t.part.index == n) ≡ true → (n == p.index) ≡ false → is_of_replica s p t ≡ false
other_index s p n t at ne = grind (arith, nat_tests, at, ne)

once_in : (models : List ModelParts) (instances : ℕ) (view : View) → is_well_formed models instances view ≡ true → (n : ResourceId) (o : Option Resource) (s : SessionId) (p : PartId)
    → count (is_of_replica s p) (option_map_or (targets_in models view n) o []) ≤ 1
once_in models instances view formed n None s p = omega arith
once_in models instances view formed n (Some r) s p =
    pieces-once (is_of_replica s p) (λ k. targets_at models view r (record { resource = n; index = k })) p.index
    (λ k ne. count-none (is_of_replica s p) (targets_at models view r (record { resource = n; index = k }))
    (none-from-all (λ (t : Target). t.part.index == k) (is_of_replica s p) (λ t at. other_index s p k t at ne) (targets_at models view r (record { resource = n; index = k }))
    (part_at (λ (x : PartId). x.index == k) models view r (record { resource = n; index = k }) (same-self k))))
    (λ k at. once_at models instances view formed r (record { resource = n; index = k }) s p)
    (numbers_below r.ideal.parts) (numbers-once r.ideal.parts p.index)

pub once_targets : (models : List ModelParts) (instances : ℕ) (view : View) → is_well_formed models instances view ≡ true → (s : SessionId) (p : PartId)
    → count (is_of_replica s p) (all_targets models view) ≤ 1
once_targets models instances view formed s p =
    pieces-once (is_of_replica s p) (λ n. targets models view (record { 0 = n })) p.resource.0
    (λ n ne. count-none (is_of_replica s p) (targets models view (record { 0 = n }))
    (none-from-all (λ (t : Target). t.part.resource.0 == n) (is_of_replica s p) (λ t at. other_part s p n t at ne) (targets models view (record { 0 = n }))
    (part_in models view (record { 0 = n }) (resource_at view.ideals.resources (record { 0 = n })))))
    (λ n at. once_in models instances view formed (record { 0 = n }) (resource_at view.ideals.resources (record { 0 = n })) s p)
    (numbers_below (length view.ideals.resources)) (numbers-once (length view.ideals.resources) p.resource.0)
