-- Which parts may be next at a place.
use Rattle.std.proofs.Common.{◌≡◌, ℕ, ◌<◌, ◌&&◌, ◌||◌, ◌==◌, not, Bool, true, false, List, refl, sym, ap, ◌∙◌, subst, arith}
use Rattle.std.specs.Prelude.{nat_lt, nat_le, if◌then◌else◌}
use Rattle.std.proofs.lemmas.Bool.Decides.{nat_tests}
use Rattle.hx_ids.specs.declared.PartId.{PartId}
use Rattle.hx_ids.specs.declared.ResourceId.{ResourceId}
use Rattle.hx_ids.specs.declared.StateId.{StateId}
use Rattle.hx_model.specs.declared.ModelParts.{ModelParts}
use Rattle.hx_cluster.specs.declared.description.Resource.{Resource}
use Rattle.hx_cluster.specs.Ends.{model_at, model_of, parts_of, part_before}
use Rattle.hx_formed.specs.declared.places.Place.{Place}
use Rattle.hx_formed.specs.Reads.{is_place, part_after}
use Rattle.hx_formed.specs.Places.{may_be, from_of, IsAt, is_next, has_part, place_behind}
use Rattle.hx_formed.proofs.Live.{both}

abbrev numbered : ℕ → ResourceId
numbered n = record { 0 = n }

same_resource : (r s : ResourceId) → (r.0 == s.0) ≡ true → r ≡ s
same_resource r s h =
    let e : r.0 ≡ s.0 = grind (arith, nat_tests, h) in
    ap numbered e

abbrev stated : ℕ → StateId
stated n = record { 0 = n }

same_state : (m : ModelParts) (t u : StateId) → may_be m u ≡ true → (t.0 == u.0) ≡ true → may_be m t ≡ true
same_state m t u known h =
    let e : t.0 ≡ u.0 = grind (arith, nat_tests, h) in
    ap (may_be m) (ap stated e) ∙ known

-- the states that were found good need no look
state_known : (m : ModelParts) (t u v : StateId) → may_be m u ≡ true → may_be m v ≡ true → ((t.0 == u.0) || (t.0 == v.0) || may_be m t) ≡ may_be m t
state_known m t u v known other = one (t.0 == u.0) refl (t.0 == v.0) refl
  where
    one : (b : Bool) → (t.0 == u.0) ≡ b → (c : Bool) → (t.0 == v.0) ≡ c → (b || c || may_be m t) ≡ may_be m t
    one true is c so = grind (arith, same_state m t u known is)
    one false is true so = grind (arith, same_state m t v other so)
    one false is false so = refl

-- a part of a place's own resource
own_part : (models : List ModelParts) (resources : List Resource) (at : Place) (index : ℕ) (t : StateId) → IsAt models resources at
    → has_part models at index t ≡ (nat_le at.next index && nat_lt index (parts_of resources at.resource) && may_be (model_of models resources at.resource) t)
own_part models resources at index t is = one (nat_lt index at.parts) refl
  where
    one : (b : Bool) → nat_lt index at.parts ≡ b
        → has_part models at index t ≡ (nat_le at.next index && nat_lt index (parts_of resources at.resource) && may_be (model_of models resources at.resource) t)
    one false less = grind (arith, less, is.parts)
    one true less =
        let some : 0 < at.parts = grind (arith, nat_tests, less) in
        let state : ((t.0 == at.last.0) || (t.0 == at.other.0) || may_be (model_at models at.model) t) ≡ may_be (model_of models resources at.resource) t =
        rw (is.model some) (state_known (model_of models resources at.resource) t at.last at.other is.last is.other) in
        grind (arith, less, is.parts, state)

pub next_in : (models : List ModelParts) (resources : List Resource) (at : Place) (p : PartId) (t : StateId) → IsAt models resources at → (p.resource.0 == at.resource.0) ≡ true
    → is_next models resources (from_of at) p t ≡ has_part models at p.index t
next_in models resources at p t is own =
    let same : p.resource ≡ at.resource = same_resource p.resource at.resource own in
    let later : not (part_before p (from_of at)) ≡ nat_le at.next p.index = grind (arith, nat_tests, own) in
    let there : is_place models resources p t ≡ (nat_lt p.index (parts_of resources at.resource) && may_be (model_of models resources at.resource) t) =
    ap (λ (r : ResourceId). nat_lt p.index (parts_of resources r) && may_be (model_of models resources r) t) same in
    grind (arith, later, there, own_part models resources at p.index t is)

-- a part of a later resource, at whose first place another one is
pub next_later : (models : List ModelParts) (resources : List Resource) (at new : Place) (p : PartId) (t : StateId) → IsAt models resources new → from_of new ≡ record { resource = p.resource; index = 0 }
    → (p.resource.0 == at.resource.0) ≡ false → nat_lt p.resource.0 at.resource.0 ≡ false → is_next models resources (from_of at) p t ≡ has_part models new p.index t
next_later models resources at new p t is first other least =
    let own : (p.resource.0 == new.resource.0) ≡ true = grind (arith, nat_tests, first) in
    let later : not (part_before p (from_of at)) ≡ true = grind (arith, nat_tests, other, least) in
    let all : not (part_before p (from_of new)) ≡ true = grind (arith, nat_tests, first) in
    grind (arith, later, all, next_in models resources new p t is own)

-- a part of an earlier one
pub none_before : (models : List ModelParts) (resources : List Resource) (at : Place) (p : PartId) (t : StateId) → nat_lt p.resource.0 at.resource.0 ≡ true
    → is_next models resources (from_of at) p t ≡ false
none_before models resources at p t less = grind (arith, nat_tests, less)

-- the place behind a part
pub behind_at : (models : List ModelParts) (resources : List Resource) (at : Place) (index : ℕ) (t : StateId) → IsAt models resources at → has_part models at index t ≡ true
    → (0 < at.parts) × IsAt models resources (place_behind at index t)
behind_at models resources at index t is has =
    let own : (nat_le at.next index && nat_lt index (parts_of resources at.resource) && may_be (model_of models resources at.resource) t) ≡ true =
    sym (own_part models resources at index t is) ∙ has in
    let first = both (nat_le at.next index && nat_lt index (parts_of resources at.resource)) (may_be (model_of models resources at.resource) t) own in
    let second = both (nat_le at.next index) (nat_lt index (parts_of resources at.resource)) first.0 in
    let some : 0 < at.parts = grind (arith, nat_tests, second.1, is.parts) in
    (some, record { parts = is.parts; model = is.model; last = first.1; other = other_known (t.0 == at.last.0) })
  where
    other_known : (b : Bool) → may_be (model_of models resources at.resource) (if b then at.other else at.last) ≡ true
    other_known true = is.other
    other_known false = is.last

-- where a message leads
pub leads_there : (models : List ModelParts) (resources : List Resource) (at : Place) (p : PartId) (t u : StateId) → IsAt models resources at → 0 < at.parts → from_of at ≡ part_after p
    → is_place models resources p t ≡ true → is_place models resources p u ≡ ((u.0 == at.last.0) || (u.0 == at.other.0) || may_be (model_at models at.model) u)
leads_there models resources at p t u is some from has =
    let index : nat_lt p.index (parts_of resources p.resource) ≡ true =
    (both (nat_lt p.index (parts_of resources p.resource)) (may_be (model_of models resources p.resource) t) has).0 in
    let own : at.resource ≡ p.resource = ap (λ (q : PartId). q.resource) from in
    let known : may_be (model_of models resources p.resource) at.last ≡ true = subst (λ (r : ResourceId). may_be (model_of models resources r) at.last ≡ true) own is.last in
    let other : may_be (model_of models resources p.resource) at.other ≡ true = subst (λ (r : ResourceId). may_be (model_of models resources r) at.other ≡ true) own is.other in
    let model : model_at models at.model ≡ model_of models resources p.resource = is.model some ∙ ap (model_of models resources) own in
    let same : ((u.0 == at.last.0) || (u.0 == at.other.0) || may_be (model_at models at.model) u) ≡ may_be (model_of models resources p.resource) u =
    rw model (state_known (model_of models resources p.resource) u at.last at.other known other) in
    grind (arith, index, same)
