-- Targets with each that isn't at its goal, some more of them.
use Rattle.std.proofs.Common.{◌≡◌, ℕ, zero, suc, ◌+◌, ◌-◌, ◌<◌, ◌≤◌, ◌&&◌, ◌++◌, not, Bool, true, false, List, [], ◌∷◌, map, Option, Some, None, refl, sym, ap, subst, ◌∙◌, arith, append_assoc, append-nil}
use Rattle.std.specs.Prelude.{filter, if◌then◌else◌}
use Rattle.std.specs.List.{list_all, flat_map}
use Rattle.std.specs.Option.{option_map_or}
use Rattle.std.proofs.lemmas.List.Elements.{filter-append}
use Rattle.hx_lists.specs.Lists.{numbers_below}
use Rattle.hx_ids.specs.declared.PartId.{PartId}
use Rattle.hx_ids.specs.declared.ResourceId.{ResourceId}
use Rattle.hx_ids.specs.declared.SessionId.{SessionId}
use Rattle.hx_ids.specs.declared.InstanceId.{InstanceId}
use Rattle.hx_model.specs.declared.ModelParts.{ModelParts}
use Rattle.hx_cluster.specs.declared.description.Resource.{Resource}
use Rattle.hx_cluster.specs.declared.planning.View.{View}
use Rattle.hx_cluster.specs.declared.planning.Target.{Target}
use Rattle.hx_cluster.specs.Ends.{resource_at, model_at, no_model}
use Rattle.hx_best.specs.Targets.{target, targets_at, is_target}
use Rattle.hx_best.specs.Wants.{by_instance}
use Rattle.hx_best.specs.Still.{is_at_goal, is_done, HasMoving, is_among, those_among}
use Rattle.hx_best.proofs.Found.{flat_map-numbers_below_more}

both : (a b : Bool) → (a && b) ≡ true → (a ≡ true) × (b ≡ true)
both true b e = (refl, e)
both false b e = cc

joined : (a b : Bool) → a ≡ true → b ≡ true → (a && b) ≡ true
joined a b e f = grind (arith, e, f)

all-append : {X : Type 0} (q : X → Bool) (xs ys : List X) → list_all q xs ≡ true → list_all q ys ≡ true → list_all q (xs ++ ys) ≡ true
all-append q [] ys a b = b
all-append q (x ∷ xs) ys a b = let parts = both (q x) (list_all q xs) a in joined (q x) (list_all q (xs ++ ys)) parts.0 (all-append q xs ys parts.1 b)

all-parts : {X : Type 0} (q : X → Bool) (xs ys : List X) → list_all q (xs ++ ys) ≡ true → (list_all q xs ≡ true) × (list_all q ys ≡ true)
all-parts q [] ys e = (refl, e)
all-parts q (x ∷ xs) ys e =
    let parts = both (q x) (list_all q (xs ++ ys)) e in
    let rest = all-parts q xs ys parts.1 in
    (joined (q x) (list_all q xs) parts.0 rest.0, rest.1)

none_left : {X : Type 0} (q : X → Bool) (xs : List X) → list_all q xs ≡ true → filter (λ x. not (q x)) xs ≡ []
none_left q [] e = refl
none_left q (x ∷ xs) e = let parts = both (q x) (list_all q xs) e in grind (arith, parts.0, none_left q xs parts.1)

all-agree : {X Y : Type 0} (a b : Y → Bool) (f : X → Y) → ((x : X) → a (f x) ≡ b (f x)) → (xs : List X) → list_all a (map f xs) ≡ list_all b (map f xs)
all-agree a b f h [] = refl
all-agree a b f h (x ∷ xs) = grind (arith, h x, all-agree a b f h xs)

module _ (models : List ModelParts) (view : View) where
  pub same_moving : (ts : List Target) → HasMoving models view ts ts
  same_moving ts = record { moving = refl; among = λ q e. e }

  -- those of a part that stands still may be left out
  pub still_more : (all found more : List Target) → HasMoving models view all found → list_all (is_done models view) more ≡ true → HasMoving models view (all ++ more) found
  still_more all found more has done =
      let moves : Target → Bool = λ t. not (is_done models view t) in
      record {
        moving = has.moving ∙ sym (filter-append moves all more ∙ ap (λ (ts : List Target). filter moves all ++ ts) (none_left (is_done models view) more done) ∙ append-nil (filter moves all));
        among = λ q e. has.among q (all-parts q all more e).0;
      }

  pub targets_more : (all found more added : List Target) → HasMoving models view all found → HasMoving models view more added → HasMoving models view (all ++ more) (found ++ added)
  targets_more all found more added has adds =
      let moves : Target → Bool = λ t. not (is_done models view t) in
      record {
        moving = filter-append moves found added ∙ ap (λ (ts : List Target). ts ++ filter moves added) has.moving
            ∙ ap (λ (ts : List Target). filter moves all ++ ts) adds.moving ∙ sym (filter-append moves all more);
        among = λ q e. let parts = all-parts q all more e in all-append q found added (has.among q parts.0) (adds.among q parts.1);
      }

  -- the model of a part is that of its resource
  pub done_at : (r : Resource) (p : PartId) → resource_at view.ideals.resources p.resource ≡ Some r
      → list_all (is_at_goal (model_at models r.model)) (targets_at models view r p) ≡ true → list_all (is_done models view) (targets_at models view r p) ≡ true
  done_at r p there done =
      all-agree (is_done models view) (is_at_goal (model_at models r.model)) (target models view r p)
      (λ e. ap (λ (o : Option Resource). is_at_goal (option_map_or (λ x. model_at models x.model) o no_model) (target models view r p e)) there) _ ∙ done

  -- of the targets of a part, all are gone over or none
  pub part_among : (marks : Option (List (List Bool))) (r : Resource) (p : PartId) (b : Bool) → is_among marks p ≡ b → those_among marks (targets_at models view r p) ≡ (if b then targets_at models view r p else [])
  part_among marks r p b is = mapped b is (filter (is_target view r p) (by_instance view.live))
    where
      mapped : (b : Bool) → is_among marks p ≡ b → (es : List (SessionId × InstanceId)) → those_among marks (map (target models view r p) es) ≡ (if b then map (target models view r p) es else [])
      mapped true is [] = refl
      mapped false is [] = refl
      mapped true is (e ∷ es) = grind (arith, is, mapped true is es)
      mapped false is (e ∷ es) = grind (arith, is, mapped false is es)

  -- all are gone over where none are marked
  pub all_among : (ts : List Target) → those_among None ts ≡ ts
  all_among [] = refl
  all_among (t ∷ ts) = ap (λ (rest : List Target). t ∷ rest) (all_among ts)

  -- those of one more part or resource, behind others
  pub more_among : (marks : Option (List (List Bool))) (f : ℕ → List Target) (n : ℕ) (all found : List Target)
      → HasMoving models view ((all ++ those_among marks (flat_map f (numbers_below n))) ++ those_among marks (f n)) found → HasMoving models view (all ++ those_among marks (flat_map f (numbers_below (n + 1)))) found
  more_among marks f n all found has =
      let before = those_among marks (flat_map f (numbers_below n)) in
      let one = ap (those_among marks) (flat_map-numbers_below_more f n) ∙ filter-append (λ t. is_among marks t.part) (flat_map f (numbers_below n)) (f n) in
      subst (λ (ts : List Target). HasMoving models view ts found) (append_assoc all before (those_among marks (f n)) ∙ ap (λ (ts : List Target). all ++ ts) (sym one)) has

  -- parts that aren't gone over have none of them
  module _ (marks : Option (List (List Bool))) (r : Resource) (s : ResourceId) where
    abbrev pub at : ℕ → List Target
    at k = targets_at models view r (record { resource = s; index = k })

    none_among : (n d : ℕ) → ((k : ℕ) → n ≤ k → k < n + d → is_among marks (record { resource = s; index = k }) ≡ false)
        → those_among marks (flat_map at (numbers_below (n + d))) ≡ those_among marks (flat_map at (numbers_below n))
    none_among n zero out = let same : n + 0 ≡ n = omega arith in ap (λ (m : ℕ). those_among marks (flat_map at (numbers_below m))) same
    none_among n (suc d) out =
        let more : n + suc d ≡ (n + d) + 1 = omega arith in
        let before = those_among marks (flat_map at (numbers_below (n + d))) in
        ap (λ (m : ℕ). those_among marks (flat_map at (numbers_below m))) more
        ∙ ap (those_among marks) (flat_map-numbers_below_more at (n + d))
        ∙ filter-append (λ t. is_among marks t.part) (flat_map at (numbers_below (n + d))) (at (n + d))
        ∙ ap (λ (ts : List Target). before ++ ts) (part_among marks r (record { resource = s; index = n + d }) false (out (n + d) (omega arith) (omega arith)))
        ∙ append-nil before ∙ none_among n d (λ k a b. out k a (omega (arith, b)))

    pub skipped_among : (n m : ℕ) (all found : List Target) → n ≤ m → ((k : ℕ) → n ≤ k → k < m → is_among marks (record { resource = s; index = k }) ≡ false)
        → HasMoving models view (all ++ those_among marks (flat_map at (numbers_below n))) found → HasMoving models view (all ++ those_among marks (flat_map at (numbers_below m))) found
    skipped_among n m all found up out has =
        let whole : n + (m - n) ≡ m = omega (arith, up) in
        let same = sym (none_among n (m - n) (λ k a b. out k a (omega (arith, b, up)))) ∙ ap (λ (m : ℕ). those_among marks (flat_map at (numbers_below m))) whole in
        subst (λ (ts : List Target). HasMoving models view (all ++ ts) found) same has
