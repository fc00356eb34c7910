-- There is no hop from what is no state of a model, nor to it.
use Rattle.std.proofs.Common.{◌≡◌, ℕ, zero, suc, ◌+◌, ◌<◌, ◌==◌, ◌&&◌, Bool, true, false, List, [], ◌∷◌, length, Option, Some, None, refl, sym, subst, arith}
use Rattle.std.specs.List.{list_any, list_all}
use Rattle.hx_ids.specs.declared.StateId.{StateId}
use Rattle.hx_model.specs.declared.ModelParts.{ModelParts}
use Rattle.hx_model.specs.Faults.{fault_of, is_known}
use Rattle.hx_model.specs.Model.{is_legal, is_between}
use Rattle.hx_model.specs.Walks.{has_walk, dist}
use Rattle.hx_model.proofs.Facts.{IsSound, sound_facts}
use Rattle.hx_hops.specs.Hops.{hop, is_from, is_goal}
use Rattle.hx_hops.proofs.Legal.{state_same, step_exists, dist-most, dist_walk}
use Rattle.hx_hops.proofs.Shortest.{hop_first}

-- a listed transition leads from a state of the model, to one or to DROPPED
listed_ends : (m : ModelParts) (s t : StateId) (ts : List (StateId × StateId)) → list_all (is_known m) ts ≡ true → list_any (is_between s t) ts ≡ true → (is_from m s ≡ true) × (is_goal m t ≡ true)
listed_ends m s t [] known any = cc
listed_ends m s t (x ∷ ts) known any = one (is_between s t x) refl (is_known m x) refl (listed_ends m s t ts)
  where
    one : (a : Bool) → is_between s t x ≡ a → (b : Bool) → is_known m x ≡ b → (list_all (is_known m) ts ≡ true → list_any (is_between s t) ts ≡ true → (is_from m s ≡ true) × (is_goal m t ≡ true)) → (is_from m s ≡ true) × (is_goal m t ≡ true)
    one a is false here more = cc (known, here)
    one false is true here more = more (grind (arith, known, here)) (grind (arith, any, is))
    one true is true here more =
        let from : x.0 ≡ s = state_same x.0 s (grind (arith, is)) in
        let to : x.1 ≡ t = state_same x.1 t (grind (arith, is)) in
        (subst (λ (u : StateId). is_from m u ≡ true) from (grind (arith, here)), subst (λ (u : StateId). is_goal m u ≡ true) to (grind (arith, here)))

legal_ends : (m : ModelParts) (s t : StateId) → IsSound m → is_legal m s t ≡ true → (is_from m s ≡ true) × (is_goal m t ≡ true)
legal_ends m s t sound legal = one (list_any (is_between s t) m.transitions) refl
  where
    one : (b : Bool) → list_any (is_between s t) m.transitions ≡ b → (is_from m s ≡ true) × (is_goal m t ≡ true)
    one true is = listed_ends m s t m.transitions sound.known is
    one false is =
        let to : t ≡ m.initial = state_same t m.initial (grind (arith, legal, is)) in
        let zero_is : (s.0 == 0) ≡ true = grind (arith, legal, is) in
        (grind (arith, zero_is), subst (λ (u : StateId). is_goal m u ≡ true) (sym to) (grind (arith, sound.initial)))

-- a walk that begins where one may be wanted ends so
walks_end : (m : ModelParts) (n : ℕ) (s goal : StateId) → IsSound m → is_goal m s ≡ true → has_walk m n s goal ≡ true → is_goal m goal ≡ true
walks_end m zero s goal sound is walk = subst (λ (u : StateId). is_goal m u ≡ true) (state_same s goal walk) is
walks_end m (suc n) s goal sound is walk =
    let step = step_exists m (λ t. has_walk m n t goal) s walk in
    walks_end m n step.0 goal sound (legal_ends m s step.0 sound step.1).1 step.2

hop_ends : (m : ModelParts) (s goal t : StateId) → fault_of m ≡ None → hop m s goal ≡ Some t → (is_from m s && is_goal m goal) ≡ true
hop_ends m s goal t none is =
    let sound = sound_facts m none in
    let first = hop_first m s goal t is in
    let ends = legal_ends m s t sound first.legal in
    let near : dist m t goal < length m.states + 2 = omega (arith, first.nearer, dist-most m s goal) in
    let reached = walks_end m (dist m t goal) t goal sound ends.1 (dist_walk m t goal near) in
    grind (arith, ends.0, reached)

pub no_way : (m : ModelParts) (s goal : StateId) → fault_of m ≡ None → (is_from m s && is_goal m goal) ≡ false → None ≡ hop m s goal
no_way m s goal none out = one (hop m s goal) refl
  where
    one : (o : Option StateId) → hop m s goal ≡ o → None ≡ o
    one None is = refl
    one (Some t) is = cc (hop_ends m s goal t none is, out)

pub both_ways : (a b : Bool) → (a && b) ≡ true → (a ≡ true) × (b ≡ true)
both_ways true b e = (refl, e)
both_ways false b e = cc
