-- Where no message is shown, no row is in ERROR and there is no candidate, nothing is sent, and each target is at its best.
use Rattle.std.proofs.Common.{◌≡◌, ℕ, Bool, true, false, List, [], ◌∷◌, length, map, filter, Option, Some, None, refl, sym, ap, ◌∙◌}
use Rattle.std.specs.Prelude.{◌||◌}
use Rattle.std.specs.List.{list_any, flat_map}
use Rattle.std.specs.Option.{option_map_or}
use Rattle.std.proofs.lemmas.List.Folds.{list_any-append}
use Rattle.hx_lists.specs.Lists.{numbers_below}
use Rattle.hx_ids.specs.declared.PartId.{PartId}
use Rattle.hx_ids.proofs.Places.{any-map}
use Rattle.hx_model.specs.declared.ModelParts.{ModelParts}
use Rattle.hx_cluster.specs.declared.description.Resource.{Resource}
use Rattle.hx_cluster.specs.declared.description.Rule.{Rule}
use Rattle.hx_cluster.specs.declared.planning.View.{View}
use Rattle.hx_cluster.specs.declared.planning.Target.{Target}
use Rattle.hx_cluster.specs.declared.planning.Candidate.{Candidate}
use Rattle.hx_cluster.specs.declared.planning.Selection.{Selection}
use Rattle.hx_cluster.specs.declared.planning.Throttled.{Throttled}
use Rattle.hx_cluster.specs.declared.planning.Finding.TheVariants as findings
use Rattle.hx_cluster.specs.Ends.{resource_at}
use Rattle.hx_cluster.specs.Steps.{is_error}
use Rattle.hx_cluster.specs.Bests.{at_best}
use Rattle.hx_best.specs.Lookups.{has_errors}
use Rattle.hx_best.specs.Targets.{is_target, target, targets_at, targets_in, targets, all_targets}
use Rattle.hx_best.specs.Wants.{by_instance}
use Rattle.hx_best.proofs.Errors.{no_error}
use Rattle.hx_select.specs.Selection.{selection}
use Rattle.hx_throttle.specs.Throttle.{throttled}
use Rattle.hx_report.specs.Findings.{fate_of, finding_of, entry}
use Rattle.hx_pass.specs.Plans.{all_candidates, plan, plan_over}

none-flat_map : {X Y : Type 0} (p : Y → Bool) (f : X → List Y) → ((x : X) → list_any p (f x) ≡ false) → (xs : List X) → list_any p (flat_map f xs) ≡ false
none-flat_map p f each [] = refl
none-flat_map p f each (x ∷ xs) = list_any-append p (f x) (flat_map f xs) ∙ ap (λ (b : Bool). b || list_any p (flat_map f xs)) (each x) ∙ none-flat_map p f each xs

none-all : {X : Type 0} (p : X → Bool) → ((x : X) → p x ≡ false) → (xs : List X) → list_any p xs ≡ false
none-all p each [] = refl
none-all p each (x ∷ xs) = ap (λ (b : Bool). b || list_any p xs) (each x) ∙ none-all p each xs

module _ (models : List ModelParts) (view : View) (fine : has_errors view.rows ≡ false) where
  abbrev failed : Target → Bool
  failed t = is_error t.state

  none_at : (r : Resource) (p : PartId) → list_any failed (targets_at models view r p) ≡ false
  none_at r p =
      any-map failed (target models view r p) (filter (is_target view r p) (by_instance view.live))
      ∙ none-all (λ e. failed (target models view r p e)) (λ e. no_error view.rows e.0 p fine) (filter (is_target view r p) (by_instance view.live))

  none_of : (n : ℕ) → list_any failed (targets models view (record { 0 = n })) ≡ false
  none_of n = one (resource_at view.ideals.resources (record { 0 = n }))
    where
      one : (o : Option Resource) → list_any failed (option_map_or (targets_in models view (record { 0 = n })) o []) ≡ false
      one None = refl
      one (Some r) = none-flat_map failed (λ k. targets_at models view r (record { resource = record { 0 = n }; index = k })) (λ k. none_at r (record { resource = record { 0 = n }; index = k })) (numbers_below r.ideal.parts)

  none_failed : list_any failed (all_targets models view) ≡ false
  none_failed = none-flat_map failed (λ n. targets models view (record { 0 = n })) none_of (numbers_below (length view.ideals.resources))

-- what is found of a target that isn't in ERROR, where no message is shown and nothing was selected
best : (view : View) (s : Selection) (h : Throttled) (t : Target) → view.mail ≡ [] → findings.AtBest ≡ fate_of s h t → is_error t.state ≡ false → findings.AtBest ≡ finding_of view s h t
best view s h t mail fate fine = rw (mail, fine) fate

all_best : (view : View) (s : Selection) (h : Throttled) → view.mail ≡ [] → ((t : Target) → findings.AtBest ≡ fate_of s h t) → (ts : List Target) → list_any (λ t. is_error t.state) ts ≡ false
    → map at_best ts ≡ map (entry view s h) ts
all_best view s h mail fate [] none = refl
all_best view s h mail fate (t ∷ ts) none = by (is_error t.state) refl none (all_best view s h mail fate ts)
  where
    by : (b : Bool) → is_error t.state ≡ b → (b || list_any (λ u. is_error u.state) ts) ≡ false
        → (list_any (λ u. is_error u.state) ts ≡ false → map at_best ts ≡ map (entry view s h) ts) → map at_best (t ∷ ts) ≡ map (entry view s h) (t ∷ ts)
    by true is some later = cc
    by false is rest later = λ j. record { target = t; finding = best view s h t mail (fate t) is j } ∷ later rest j

pub all_at_best : (models : List ModelParts) (view : View) → view.mail ≡ [] → has_errors view.rows ≡ false → all_candidates models view ≡ []
    → (rules : List Rule) → record { proposals = []; report = record { entries = map at_best (all_targets models view) } } ≡ plan models rules view
all_at_best models view mail fine none rules =
    let s : Selection = selection models view [] in
    let h : Throttled = throttled rules view s.accepted in
    let found = all_best view s h mail (λ t. refl) (all_targets models view) (none_failed models view fine) in
    (λ j. record { proposals = []; report = record { entries = found j } })
    ∙ ap (λ (cs : List Candidate). plan_over models view (selection models view cs) (throttled rules view (selection models view cs).accepted)) (sym none)
