-- In a well-formed view each resource has a model, and where each has, each target is of one that has.
use Rattle.std.proofs.Common.{◌≡◌, ℕ, ◌++◌, ◌==◌, ◌&&◌, zero, suc, Bool, true, false, List, [], ◌∷◌, length, map, Option, Some, None, refl, ap, ◌∙◌, subst, arith}
use Rattle.std.specs.Prelude.{nat_lt, nat_le, slice_get}
use Rattle.std.specs.List.{list_all, flat_map}
use Rattle.std.specs.Option.{option_map_or}
use Rattle.hx_lists.specs.Lists.{numbers_below}
use Rattle.hx_model.specs.declared.ModelParts.{ModelParts}
use Rattle.hx_cluster.specs.declared.description.Resource.{Resource}
use Rattle.hx_cluster.specs.declared.planning.View.{View}
use Rattle.hx_cluster.specs.declared.planning.Target.{Target}
use Rattle.hx_cluster.specs.Ends.{resource_at}
use Rattle.hx_cluster.specs.Views.{is_well_formed, is_good_resource, is_good_session, is_good_message, is_good_row}
use Rattle.hx_best.specs.Targets.{target, targets_at, targets_in, targets, all_targets}
use Rattle.hx_gen.specs.Stage.{has_model}
use Rattle.hx_gen.specs.Modelled.{has_models}
use Rattle.hx_lists.proofs.Conditions.{and-first, and-second, and-both}

sixth : (a b c d e f : Bool) → (a && b && c && d && e && f) ≡ true → f ≡ true
sixth a b c d e f h = grind (arith, h)

modelled : (models : List ModelParts) (n : ℕ) (rs : List Resource) → list_all (is_good_resource models n) rs ≡ true → list_all (λ r. nat_lt r.model.0 (length models)) rs ≡ true
modelled models n [] good = refl
modelled models n (r ∷ rs) good =
    and-both (nat_lt r.model.0 (length models)) (list_all (λ x. nat_lt x.model.0 (length models)) rs)
    (and-first (nat_lt r.model.0 (length models)) _ (and-first (is_good_resource models n r) (list_all (is_good_resource models n) rs) good))
    (modelled models n rs (and-second (is_good_resource models n r) (list_all (is_good_resource models n) rs) good))

pub well_formed-modelled : (models : List ModelParts) (n : ℕ) (view : View) → is_well_formed models n view ≡ true → has_models models view ≡ true
well_formed-modelled models n view good =
    modelled models n view.ideals.resources
    (sixth (list_all (is_good_session n view.live) view.live) (list_all (is_good_message models view) view.mail) (list_all (is_good_row models view) view.rows) (nat_le (length view.ideals.resources) 256) (length view.ideals.drained == n) (list_all (is_good_resource models n) view.ideals.resources) good)

all-append : {X : Type 0} (p : X → Bool) (xs ys : List X) → list_all p xs ≡ true → list_all p ys ≡ true → list_all p (xs ++ ys) ≡ true
all-append p [] ys a b = b
all-append p (x ∷ xs) ys a b = and-both (p x) (list_all p (xs ++ ys)) (and-first (p x) (list_all p xs) a) (all-append p xs ys (and-second (p x) (list_all p xs) a) b)

all-flat_map : {X Y : Type 0} (p : Y → Bool) (f : X → List Y) → ((x : X) → list_all p (f x) ≡ true) → (xs : List X) → list_all p (flat_map f xs) ≡ true
all-flat_map p f each [] = refl
all-flat_map p f each (x ∷ xs) = all-append p (f x) (flat_map f xs) (each x) (all-flat_map p f each xs)

all-map : {X Y : Type 0} (p : Y → Bool) (f : X → Y) → ((x : X) → p (f x) ≡ true) → (xs : List X) → list_all p (map f xs) ≡ true
all-map p f each [] = refl
all-map p f each (x ∷ xs) = and-both (p (f x)) (list_all p (map f xs)) (each x) (all-map p f each xs)

all-at : {X : Type 0} (p : X → Bool) (xs : List X) (k : ℕ) (x : X) → list_all p xs ≡ true → slice_get xs k ≡ Some x → p x ≡ true
all-at p [] k x all at = cc
all-at {X = X} p (y ∷ xs) zero x all at =
    let same : y ≡ x = cc in
    subst (λ (z : X). p z ≡ true) same (and-first (p y) (list_all p xs) all)
all-at p (y ∷ xs) (suc k) x all at = all-at p xs k x (and-second (p y) (list_all p xs) all) at

module _ (models : List ModelParts) (view : View) (have : has_models models view ≡ true) where
  abbrev good : Target → Bool
  good t = has_model models view.ideals.resources t.part.resource

  of_resource : (n : ℕ) → list_all good (targets models view (record { 0 = n })) ≡ true
  of_resource n = one (resource_at view.ideals.resources (record { 0 = n })) refl
    where
      one : (o : Option Resource) → resource_at view.ideals.resources (record { 0 = n }) ≡ o → list_all good (option_map_or (targets_in models view (record { 0 = n })) o []) ≡ true
      one None e = refl
      one (Some r) e =
          let its : has_model models view.ideals.resources (record { 0 = n }) ≡ true =
          ap (λ (o : Option Resource). option_map_or (λ x. nat_lt x.model.0 (length models)) o false) e ∙ all-at (λ (x : Resource). nat_lt x.model.0 (length models)) view.ideals.resources n r have e in
          all-flat_map good (λ k. targets_at models view r (record { resource = record { 0 = n }; index = k }))
          (λ k. all-map good (target models view r (record { resource = record { 0 = n }; index = k })) (λ x. its) _) (numbers_below r.ideal.parts)

  pub all_targets-modelled : list_all (λ t. has_model models view.ideals.resources t.part.resource) (all_targets models view) ≡ true
  all_targets-modelled = all-flat_map good (λ n. targets models view (record { 0 = n })) of_resource (numbers_below (length view.ideals.resources))
