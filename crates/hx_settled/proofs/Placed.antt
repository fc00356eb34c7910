-- The replicas of a cluster, place by place: how far they are from their goals, and how many places there are.
use Rattle.std.proofs.Common.{◌≡◌, ℕ, ◌+◌, ◌*◌, ◌≤◌, ◌||◌, ◌==◌, not, Bool, true, false, List, [], length, filter, Option, Some, None, mul_comm, refl, sym, ap, ◌∙◌, subst, arith}
use Rattle.std.specs.Prelude.{if◌then◌else◌, nat_lt, nat_le, unwrap_or}
use Rattle.std.specs.List.{All, list_any, list_all, sum_by}
use Rattle.std.specs.Option.{option_map, option_map_or, is_some}
use Rattle.std.proofs.lemmas.Bool.Decides.{nat_tests}
use Rattle.std.proofs.lemmas.List.{length-map}
use Rattle.std.proofs.lemmas.List.Sums.{sum_by-le}
use Rattle.std.proofs.lemmas.List.Elements.{All-map, All-weaker}
use Rattle.hx_lists.specs.Lists.{numbers_below}
use Rattle.hx_ids.specs.declared.InstanceId.{InstanceId}
use Rattle.hx_ids.specs.declared.SessionId.{SessionId}
use Rattle.hx_ids.specs.declared.PartId.{PartId}
use Rattle.hx_model.specs.declared.ModelParts.{ModelParts}
use Rattle.hx_model.specs.Model.{error, dropped}
use Rattle.hx_model.specs.Walks.{dist}
use Rattle.hx_hops.proofs.Shortest.{dist-reached}
use Rattle.hx_cluster.specs.declared.description.Resource.{Resource}
use Rattle.hx_cluster.specs.declared.state.Row.{Row}
use Rattle.hx_cluster.specs.declared.state.Cluster.{Cluster}
use Rattle.hx_cluster.specs.declared.planning.Target.{Target}
use Rattle.hx_cluster.specs.Ends.{row_of, state_of, resource_at, no_model, model_at, model_of, parts_of}
use Rattle.hx_cluster.specs.Steps.{is_error, is_drained}
use Rattle.hx_cluster.specs.Reads.{instance_before, live_shown}
use Rattle.hx_cluster.specs.Safe.{IsSafe}
use Rattle.hx_cluster.specs.Ranged.{IsRanged}
use Rattle.hx_best.specs.Wants.{wants_of, is_wanted, by_instance}
use Rattle.hx_best.specs.Goals.{is_asked, wanted_goal, goal}
use Rattle.hx_best.specs.Targets.{is_target, target, targets_at, targets_in, targets, is_shown_as, IsTargetIn}
use Rattle.hx_gen.specs.Candidates.{is_at_goal}
use Rattle.hx_pass.specs.Left.{steps_left, left_of}
use Rattle.hx_pass.specs.Explained.{view_at}
use Rattle.hx_safe.proofs.Counting.{and-both}
use Rattle.hx_safe.proofs.Ends.{same-self}
use Rattle.hx_lawful.proofs.Sorting.{each_there}
use Rattle.hx_lawful.proofs.Choosing.{numbers-below}
use Rattle.hx_settled.specs.Places.{Place, place_on, places_at, places_in, places_over, places_of, left_at, tries_at, tries_of, tries_left}
use Rattle.hx_settled.proofs.Summing.{sum-map, sum-flat, sum-filter, sum-sort, sum-same, sum-places, sum-times, length-flat, sum-even, length-numbers}
use Rattle.hx_settled.proofs.Moments.{sound_of, view_formed}
use Rattle.hx_settled.proofs.Explaining.{many_shown}
use Rattle.hx_settled.proofs.Hopping.{all-from, all-flat, away_in, good_in, item_at}

-- where there is neither a row nor a wish, nothing is left
or_true : (b : Bool) → (b || true) ≡ true
or_true true = refl
or_true false = refl

pub no_target : (c : Cluster) (m : ModelParts) (r : Resource) (p : PartId) (e : SessionId × InstanceId) → is_target (view_at c) r p e ≡ false → is_at_goal m (target c.models (view_at c) r p e) ≡ true
no_target c m r p e none = one (row_of c.rows e.0 p) refl (is_wanted (wants_of (view_at c) r p.index) e.1) refl none
  where
    one : (o : Option Row) → row_of c.rows e.0 p ≡ o → (b : Bool) → is_wanted (wants_of (view_at c) r p.index) e.1 ≡ b → (is_some o || b) ≡ false → is_at_goal m (target c.models (view_at c) r p e) ≡ true
    one (Some row) at b is none = absurd (let no_one : true ≡ false = none in cc)
    one None at true is none = absurd (let no_one : true ≡ false = none in cc)
    one None at false is none =
        let state : state_of c.rows e.0 p ≡ None = ap (option_map (λ x. x.state)) at in
        let its_goal : goal c.models (view_at c) r p e.0 e.1 ≡ dropped
        = (λ i. if is_error (state i) then (if is_asked (view_at c) e.0 p then (model_at c.models r.model).initial else error)
        else if r.dropped || not (is i) then dropped
        else if is_drained c.instances e.1 then (model_at c.models r.model).initial
        else wanted_goal (model_at c.models r.model) (view_at c) r p (wants_of (view_at c) r p.index) e.1)
        ∙ ap (λ (b : Bool). if b then dropped
        else if is_drained c.instances e.1 then (model_at c.models r.model).initial
        else wanted_goal (model_at c.models r.model) (view_at c) r p (wants_of (view_at c) r p.index) e.1) (or_true r.dropped) in
        (λ i. option_map_or (λ s. s.0 == (its_goal i).0) (state i) (((its_goal i).0 == m.initial.0) || ((its_goal i).0 == dropped.0))) ∙ or_true (dropped.0 == m.initial.0)

nothing_left : (c : Cluster) (m : ModelParts) (r : Resource) (p : PartId) (e : SessionId × InstanceId) → is_target (view_at c) r p e ≡ false → steps_left m (target c.models (view_at c) r p e) ≡ 0
nothing_left c m r p e none =
    ap (λ (b : Bool). if b then 0 else dist m (unwrap_or (state_of c.rows e.0 p) m.initial) (goal c.models (view_at c) r p e.0 e.1)) (no_target c m r p e none)

-- the sum over all targets is that over all places
module _ (c : Cluster) where
  abbrev live : List (SessionId × InstanceId)
  live = live_shown c

  abbrev f : Target → ℕ
  f t = steps_left (model_of c.models c.resources t.part.resource) t

  part_left : (r : Resource) (p : PartId) → resource_at c.resources p.resource ≡ Some r → sum_by f (targets_at c.models (view_at c) r p) ≡ sum_by (left_at c) (places_at live p)
  part_left r p at =
      sum-map f (target c.models (view_at c) r p) (filter (is_target (view_at c) r p) (by_instance live))
      ∙ sum-filter (λ e. f (target c.models (view_at c) r p e)) (is_target (view_at c) r p) (nothing_left c (model_of c.models c.resources p.resource) r p) (by_instance live)
      ∙ sum-sort (λ e. f (target c.models (view_at c) r p e)) instance_before live
      ∙ sum-same (λ e. f (target c.models (view_at c) r p e)) (λ e. left_at c (place_on p e)) here live
      ∙ sym (sum-map (left_at c) (place_on p) live)
    where
      here : (e : SessionId × InstanceId) → f (target c.models (view_at c) r p e) ≡ left_at c (place_on p e)
      here e = sym (ap (λ (o : Option Resource). option_map_or (λ x. steps_left (model_of c.models c.resources p.resource) (target c.models (view_at c) x p (e.0, e.1))) o 0) at)

  resource_left : (n : ℕ) (o : Option Resource) → resource_at c.resources (record { 0 = n }) ≡ o
      → sum_by f (option_map_or (targets_in c.models (view_at c) (record { 0 = n })) o []) ≡ sum_by (left_at c) (places_in live n (option_map_or (λ x. x.ideal.parts) o 0))
  resource_left n None at = refl
  resource_left n (Some r) at =
      sum-flat f (λ k. targets_at c.models (view_at c) r (record { resource = record { 0 = n }; index = k })) (numbers_below r.ideal.parts)
      ∙ sum-same (λ k. sum_by f (targets_at c.models (view_at c) r (record { resource = record { 0 = n }; index = k })))
      (λ k. sum_by (left_at c) (places_at live (record { resource = record { 0 = n }; index = k }))) (λ k. part_left r (record { resource = record { 0 = n }; index = k }) at) (numbers_below r.ideal.parts)
      ∙ sym (sum-flat (left_at c) (λ k. places_at live (record { resource = record { 0 = n }; index = k })) (numbers_below r.ideal.parts))

  pub left_all : left_of c ≡ sum_by (left_at c) (places_of c)
  left_all =
      sum-flat f (λ n. targets c.models (view_at c) (record { 0 = n })) (numbers_below (length c.resources))
      ∙ sum-same (λ n. sum_by f (targets c.models (view_at c) (record { 0 = n }))) (λ n. sum_by (left_at c) (places_in live n (parts_of c.resources (record { 0 = n }))))
      (λ n. resource_left n (resource_at c.resources (record { 0 = n })) refl) (numbers_below (length c.resources))
      ∙ sym (sum-flat (left_at c) (λ n. places_in live n (parts_of c.resources (record { 0 = n }))) (numbers_below (length c.resources)))

-- how many places there are
length_in : (live : List (SessionId × InstanceId)) (n parts : ℕ) → length (places_in live n parts) ≡ parts * length live
length_in live n parts =
    length-flat (λ k. places_at live (record { resource = record { 0 = n }; index = k })) (numbers_below parts)
    ∙ sum-even (λ k. length (places_at live (record { resource = record { 0 = n }; index = k }))) (length live) (λ k. length-map live (place_on (record { resource = record { 0 = n }; index = k })))
    (numbers_below parts)
    ∙ ap (λ m. m * length live) (length-numbers 0 parts)

pub length_over : (live : List (SessionId × InstanceId)) (resources : List Resource) → length (places_over live resources) ≡ length live * sum_by (λ r. r.ideal.parts) resources
length_over live resources =
    length-flat (λ n. places_in live n (parts_of resources (record { 0 = n }))) (numbers_below (length resources))
    ∙ sum-same (λ n. length (places_in live n (parts_of resources (record { 0 = n })))) (λ n. parts_of resources (record { 0 = n }) * length live)
    (λ n. length_in live n (parts_of resources (record { 0 = n }))) (numbers_below (length resources))
    ∙ sum-times (λ n. parts_of resources (record { 0 = n })) (length live) (numbers_below (length resources))
    ∙ ap (λ m. m * length live) (sum-places (λ (o : Option Resource). option_map_or (λ x. x.ideal.parts) o 0) resources)
    ∙ mul_comm (sum_by (λ r. r.ideal.parts) resources) (length live)

-- each is of a live session and of a part that is there
pub record IsPlaceOf (c : Cluster) (x : Place) : Type 0 where
  pub part : nat_lt x.part.index (parts_of c.resources x.part.resource) ≡ true
  pub shown : list_any (is_shown_as x.session x.instance) (live_shown c) ≡ true

are_at : (c : Cluster) (p : PartId) → nat_lt p.index (parts_of c.resources p.resource) ≡ true → All (IsPlaceOf c) (places_at (live_shown c) p)
are_at c p low =
    All-map (IsPlaceOf c) (place_on p) (live_shown c)
    (all-from (λ e. IsPlaceOf c (place_on p e)) (λ e. list_any (is_shown_as e.0 e.1) (live_shown c)) (λ e shown. record { part = low; shown = shown }) (live_shown c)
    (each_there (λ (e : SessionId × InstanceId). is_shown_as e.0 e.1) (λ e. and-both (e.0.0 == e.0.0) (e.1.0 == e.1.0) (same-self e.0.0) (same-self e.1.0)) (live_shown c)))

pub are_places : (c : Cluster) → All (IsPlaceOf c) (places_of c)
are_places c =
    all-flat (IsPlaceOf c) (λ n. places_in (live_shown c) n (parts_of c.resources (record { 0 = n }))) (λ n. nat_lt n (length c.resources))
    (λ n some. all-flat (IsPlaceOf c) (λ k. places_at (live_shown c) (record { resource = record { 0 = n }; index = k })) (λ k. nat_lt k (parts_of c.resources (record { 0 = n })))
    (λ k low. are_at c (record { resource = record { 0 = n }; index = k }) low) (numbers_below (parts_of c.resources (record { 0 = n }))) (numbers-below (parts_of c.resources (record { 0 = n }))))
    (numbers_below (length c.resources)) (numbers-below (length c.resources))

-- none is further from its goal than the states of its model allow
none_far : (c : Cluster) (most : ℕ) → IsSafe c → IsRanged c → list_all (λ m. nat_le (length m.states) most) c.models ≡ true → (x : Place) → IsPlaceOf c x → left_at c x ≤ most + 1
none_far c most safe ranged few x is = of_resource (resource_at c.resources x.part.resource) refl
  where
    e : SessionId × InstanceId
    e = (x.session, x.instance)

    of_resource : (o : Option Resource) → resource_at c.resources x.part.resource ≡ o
        → option_map_or (λ r. steps_left (model_of c.models c.resources x.part.resource) (target c.models (view_at c) r x.part (x.session, x.instance))) o 0 ≤ most + 1
    of_resource None at = omega arith
    of_resource (Some r) at = two (is_target (view_at c) r x.part (x.session, x.instance)) refl
      where
        t : Target
        t = target c.models (view_at c) r x.part (x.session, x.instance)

        model : model_of c.models c.resources x.part.resource ≡ model_at c.models r.model
        model = ap (λ (o : Option Resource). option_map_or (λ y. model_at c.models y.model) o no_model) at

        low : length (model_at c.models r.model).states ≤ most
        low = below (item_at (λ m. nat_le (length m.states) most) no_model (zero_low most) c.models r.model.0 few)
          where
            zero_low : (n : ℕ) → nat_le 0 n ≡ true
            zero_low n = grind (arith, nat_tests)

            below : {a b : ℕ} → nat_le a b ≡ true → a ≤ b
            below e = grind (arith, nat_tests, e)

        three : (b : Bool) → is_at_goal (model_at c.models r.model) (target c.models (view_at c) r x.part (x.session, x.instance)) ≡ b → is_target (view_at c) r x.part (x.session, x.instance) ≡ true
            → (if b then 0 else dist (model_at c.models r.model) (unwrap_or (state_of c.rows x.session x.part) (model_at c.models r.model).initial) (goal c.models (view_at c) r x.part x.session x.instance)) ≤ most + 1
        three true here wanted = omega arith
        three false here wanted =
            let formed = view_formed c safe ranged in
            let inside : IsTargetIn c.models (view_at c) (target c.models (view_at c) r x.part (x.session, x.instance)) r
            = record {
              shown = is.shown;
              part = sym (ap (λ (o : Option Resource). nat_lt x.part.index (option_map_or (λ y. y.ideal.parts) o 0)) at) ∙ is.part;
              wanted = wanted;
              own = refl;
            } in
            let away = away_in c.models (length c.instances) (view_at c) (sound_of c safe ranged) formed r (target c.models (view_at c) r x.part (x.session, x.instance)) at inside here in
            let none = (good_in c.models (length c.instances) (view_at c) (sound_of c safe ranged) formed r x.part.resource at).0 in
            let far = dist-reached (model_at c.models r.model) (unwrap_or (state_of c.rows x.session x.part) (model_at c.models r.model).initial) (goal c.models (view_at c) r x.part x.session x.instance) none away.from away.end in
            omega (arith, far, low)

        two : (b : Bool) → is_target (view_at c) r x.part (x.session, x.instance) ≡ b
            → steps_left (model_of c.models c.resources x.part.resource) (target c.models (view_at c) r x.part (x.session, x.instance)) ≤ most + 1
        two false none = let zero_left = nothing_left c (model_of c.models c.resources x.part.resource) r x.part (x.session, x.instance) none in omega (arith, zero_left)
        two true wanted =
            subst (λ (m : ModelParts). steps_left m (target c.models (view_at c) r x.part (x.session, x.instance)) ≤ most + 1) (sym model)
            (three (is_at_goal (model_at c.models r.model) (target c.models (view_at c) r x.part (x.session, x.instance))) refl wanted)

pub left_most : (c : Cluster) (most : ℕ) → IsSafe c → IsRanged c → list_all (λ m. nat_le (length m.states) most) c.models ≡ true
    → left_of c ≤ length c.live * sum_by (λ r. r.ideal.parts) c.resources * (most + 1)
left_most c most safe ranged few =
    let all = sum_by-le (left_at c) (most + 1) (places_of c) (All-weaker (IsPlaceOf c) (λ x. left_at c x ≤ most + 1) (none_far c most safe ranged few) (places_of c) (are_places c)) in
    let many = length_over (live_shown c) c.resources in
    let low : left_of c ≤ length (places_of c) * (most + 1) = subst (λ n. n ≤ length (places_of c) * (most + 1)) (sym (left_all c)) all in
    subst (λ n. left_of c ≤ n * (most + 1)) (many ∙ ap (λ n. n * sum_by (λ r. r.ideal.parts) c.resources) (many_shown c)) low

-- and each may be tried twice at most
tries_low : (a b : Bool) → tries_of a b ≤ 2
tries_low true true = omega arith
tries_low true false = omega arith
tries_low false b = omega arith

pub tries_most : (c : Cluster) → tries_left c ≤ 2 * (length c.live * sum_by (λ r. r.ideal.parts) c.resources)
tries_most c =
    let all = sum_by-le (tries_at c) 2 (places_of c) (λ k d low. tries_low _ _) in
    let many = length_over (live_shown c) c.resources ∙ ap (λ n. n * sum_by (λ r. r.ideal.parts) c.resources) (many_shown c) in
    let low : tries_left c ≤ length (places_of c) * 2 = all in
    omega (arith, low, many)
