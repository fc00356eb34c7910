-- A message that is legal for a model without a fault makes sense.
use Rattle.std.proofs.Common.{◌≡◌, ℕ, zero, suc, ◌==◌, ◌&&◌, ◌||◌, Bool, true, false, List, [], ◌∷◌, length, position, Option, Some, None, refl, sym, ap, ◌∙◌, subst, arith}
use Rattle.std.specs.Prelude.{nat_lt, is_none, slice_get, slice_index_or}
use Rattle.std.specs.List.{list_any, list_all}
use Rattle.std.specs.Option.{option_or, option_map_or}
use Rattle.std.proofs.lemmas.Bool.Decides.{nat_tests}
use Rattle.hx_ids.specs.declared.StateId.{StateId}
use Rattle.hx_ids.specs.declared.PartId.{PartId}
use Rattle.hx_model.specs.declared.Bound.{Bound}
use Rattle.hx_model.specs.declared.ModelFault.{ModelFault}
use Rattle.hx_model.specs.declared.ModelFault.TheVariants.{Reserved}
use Rattle.hx_model.specs.declared.ModelParts.{ModelParts}
use Rattle.hx_model.specs.Faults.{fault_of, too_many_states, reserved_state, is_reserved, reserved_transition}
use Rattle.hx_model.specs.Model.{is_legal, is_between}
use Rattle.hx_model.proofs.Facts.{sound_facts}
use Rattle.hx_cluster.specs.declared.description.Resource.{Resource}
use Rattle.hx_cluster.specs.declared.state.Message.{Message}
use Rattle.hx_cluster.specs.declared.state.Cluster.{Cluster}
use Rattle.hx_cluster.specs.Ends.{no_model, model_at, resource_at, model_of}
use Rattle.hx_cluster.specs.Events.{has_part}
use Rattle.hx_cluster.specs.Ranged.{is_ranged_resource, IsRanged}
use Rattle.hx_cluster.specs.Valid.{has_no_fault, has_good_ideal}
use Rattle.hx_replicas.specs.Participants.{IsSound, IsLike}
use Rattle.hx_safe.proofs.Counting.{and-first, and-second}
use Rattle.hx_safe.proofs.Waiting.{any-le}
use Rattle.hx_model.proofs.Places.{no_place, none_passes}

-- the first of two faults
none_first : (a b : Option ModelFault) → option_or a b ≡ None → (a ≡ None) × (b ≡ None)
none_first None b e = (refl, e)
none_first (Some f) b e = cc

-- a model without a fault lists neither ERROR nor DROPPED, nothing leads from them, and nothing to ERROR
module _ (model : ModelParts) (e : fault_of model ≡ None) where
  unlisted : (p : StateId × StateId → Bool) → ((t : StateId × StateId) → p t ≡ true → is_reserved t ≡ true) → list_any p model.transitions ≡ true → ⊥
  unlisted p h any =
      let one = none_first (too_many_states model) _ e in
      let two = none_first (reserved_state model) _ one.1 in
      let three = none_first (reserved_transition model) _ two.1 in
      let none = none_passes is_reserved model.transitions (no_place (λ i. Reserved i) (position is_reserved model.transitions) three.0) in
      let some = any-le p is_reserved h model.transitions any in
      absurd (let z : true ≡ false = sym some ∙ none in (cc))

  initial_high : nat_lt model.initial.0 2 ≡ false
  initial_high = one (nat_lt model.initial.0 2) refl
    where
      one : (b : Bool) → nat_lt model.initial.0 2 ≡ b → b ≡ false
      one false is = refl
      one true is =
          let first = none_first (too_many_states model) _ e in
          let two = none_first (reserved_state model) _ first.1 in
          let none = none_passes (λ (p : StateId × Bound). nat_lt p.0.0 2) model.states (no_place (λ i. Reserved i) (position (λ p. nat_lt p.0.0 2) model.states) two.0) in
          let some = any-le (λ (p : StateId × Bound). p.0.0 == model.initial.0) (λ (p : StateId × Bound). nat_lt p.0.0 2) (λ p at. grind (arith, nat_tests, at, is)) model.states (sound_facts model e).initial in
          sym some ∙ none

  legal_to : (from to : StateId) → is_legal model from to ≡ true → to.0 ≡ 0 → ⊥
  legal_to from to legal at_zero = one (list_any (is_between from to) model.transitions) refl legal
    where
      one : (b : Bool) → list_any (is_between from to) model.transitions ≡ b → (b || ((from.0 == 0) && (to.0 == model.initial.0))) ≡ true → ⊥
      one true is l = unlisted (is_between from to) (λ t at. grind (arith, nat_tests, at, at_zero)) is
      one false is l = let high = initial_high in absurd (let z : true ≡ false = grind (arith, nat_tests, l, at_zero, high) in (cc))

  legal_from : (from to : StateId) → is_legal model from to ≡ true → from.0 ≡ 0 → to.0 ≡ model.initial.0
  legal_from from to legal at_zero = one (list_any (is_between from to) model.transitions) refl legal
    where
      one : (b : Bool) → list_any (is_between from to) model.transitions ≡ b → (b || ((from.0 == 0) && (to.0 == model.initial.0))) ≡ true → to.0 ≡ model.initial.0
      one true is l = absurd (unlisted (is_between from to) (λ t at. grind (arith, nat_tests, at, at_zero)) is)
      one false is l = grind (arith, nat_tests, l)

-- so a message of such a model makes sense
pub sound_message : (m : Message) (model : ModelParts) → fault_of model ≡ None → is_legal model m.from m.to ≡ true → m.initial ≡ model.initial → IsSound m
sound_message m model e legal initial =
    let same : m.initial.0 ≡ model.initial.0 = ap (λ (t : StateId). t.0) initial in
    let high = initial_high model e in
    record {
      to = λ is. legal_to model e m.from m.to legal (ap (λ (t : StateId). t.0) is);
      initial = λ is. let at : m.initial.0 ≡ 0 = ap (λ (t : StateId). t.0) is in absurd (let z : true ≡ false = grind (arith, nat_tests, same, high, at) in (cc));
      not_dropped = λ is. let at : m.initial.0 ≡ 1 = ap (λ (t : StateId). t.0) is in absurd (let z : true ≡ false = grind (arith, nat_tests, same, high, at) in (cc));
      leaves = λ is. ap (λ (n : ℕ). record { 0 = n }) (legal_from model e m.from m.to legal (ap (λ (t : StateId). t.0) is) ∙ sym same);
    }

pub like_all : (o : Option StateId) (m : Message) → ((t : StateId) → o ≡ Some t → t ≡ m.initial) → IsLike o m
like_all None m h = tt
like_all (Some t) m h = h t refl

-- the model of a part that there is has no fault
none_from : (o : Option ModelFault) → is_none o ≡ true → o ≡ None
none_from None e = refl
none_from (Some f) e = cc

model_sound : (models : List ModelParts) (n : ℕ) → list_all has_no_fault models ≡ true → nat_lt n (length models) ≡ true → fault_of (slice_index_or models n no_model) ≡ None
model_sound [] n all low = absurd (grind (arith, nat_tests, low))
model_sound (m ∷ models) zero all low = none_from (fault_of m) (and-first (has_no_fault m) (list_all has_no_fault models) all)
model_sound (m ∷ models) (suc n) all low = model_sound models n (and-second (has_no_fault m) (list_all has_no_fault models) all) (grind (arith, nat_tests, low))

get_passes : {X : Type 0} (p : X → Bool) (xs : List X) (n : ℕ) (x : X) → list_all p xs ≡ true → slice_get xs n ≡ Some x → p x ≡ true
get_passes p [] n x all is = cc
get_passes p (y ∷ xs) zero x all is = let same : y ≡ x = grind (arith, is) in subst (λ z. p z ≡ true) same (and-first (p y) (list_all p xs) all)
get_passes p (y ∷ xs) (suc n) x all is = get_passes p xs n x (and-second (p y) (list_all p xs) all) is

pub part_model : (c : Cluster) → IsRanged c → list_all has_no_fault c.models ≡ true → (q : PartId) → has_part c q ≡ true → fault_of (model_of c.models c.resources q.resource) ≡ None
part_model c ranged sound q there = one (resource_at c.resources q.resource) refl there
  where
    one : (o : Option Resource) → resource_at c.resources q.resource ≡ o → nat_lt q.index (option_map_or (λ x. x.ideal.parts) o 0) ≡ true → fault_of (option_map_or (λ x. model_at c.models x.model) o no_model) ≡ None
    one None is low = absurd (let z : true ≡ false = grind (arith, nat_tests, low) in (cc))
    one (Some r) is low =
        let good : is_ranged_resource c r ≡ true = get_passes (is_ranged_resource c) c.resources q.resource.0 r ranged.resources is in
        model_sound c.models r.model.0 sound
        (and-second (nat_lt r.name c.resource_names) (nat_lt r.model.0 (length c.models))
        (and-first (nat_lt r.name c.resource_names && nat_lt r.model.0 (length c.models)) (has_good_ideal (length c.instances) c.models r) good))
