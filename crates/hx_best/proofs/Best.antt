-- The states of a model take its places one after another.
use Rattle.std.proofs.Common.{◌≡◌, ℕ, zero, suc, ◌+◌, ◌-◌, ◌<◌, ◌≤◌, ◌==◌, Bool, true, false, List, [], ◌∷◌, ◌++◌, length, map, drop, get_or, Option, Some, None, refl, sym, ap, ◌∙◌, subst, arith, find, append_assoc}
use Rattle.std.specs.Prelude.{if◌then◌else◌, nat_lt, slice_get, unwrap_or}
use Rattle.std.specs.List.{list_any}
use Rattle.std.specs.Option.{option_or, option_map_or}
use Rattle.std.proofs.lemmas.Bool.Decides.{nat_tests}
use Rattle.std.proofs.lemmas.List.{at_drop_more}
use Rattle.std.proofs.lemmas.Option.{unwrap_or-slice_get}
use Rattle.hx_ids.specs.declared.StateId.{StateId}
use Rattle.hx_lists.specs.First.{answer_behind}
use Rattle.hx_lists.specs.Lists.{numbers_from, numbers_below}
use Rattle.hx_model.specs.declared.Bound.{Bound}
use Rattle.hx_model.specs.declared.Bound.TheVariants.{Free}
use Rattle.hx_model.specs.declared.ModelFault.{ModelFault}
use Rattle.hx_model.specs.declared.ModelParts.{ModelParts}
use Rattle.hx_model.specs.declared.ModelFault.TheVariants.{TwiceState}
use Rattle.hx_model.specs.Faults.{fault_of, fault_at, twice_at, twice_place, found_by, state_tests, transition_tests, walk_tests}
use Rattle.hx_model.proofs.Found.{FindNone}
use Rattle.hx_model.specs.Model.{dropped, states_of, bound_of}
use Rattle.hx_best.specs.Goals.{room_in, best_among, best_state, best_below}
use Rattle.hx_best.specs.Places.{Placing, IsPlaced, model_in, best_states}

option_or-none : {X : Type 0} (a b : Option X) → option_or a b ≡ None → (a ≡ None) × (b ≡ None)
option_or-none None b e = (refl, e)
option_or-none (Some x) b e = cc

-- no test finds a fault
none_found : (tests : List (ModelParts → Option ModelFault)) (m : ModelParts) → found_by tests m ≡ None → FindNone tests m
none_found [] m e = tt
none_found (test ∷ tests) m e = let both = option_or-none (test m) (found_by tests m) e in (both.0, none_found tests m both.1)

no_place : (f : ℕ → ModelFault) (o : Option ℕ) → fault_at f o ≡ None → o ≡ None
no_place f None e = refl
no_place f (Some i) e = cc

abbrev same : StateId × Bound → StateId × Bound → Bool
same p b = b.0.0 == p.0.0

is_new : (before : List (StateId × Bound)) (x : StateId × Bound) → twice_at same before x ≡ None → list_any (same x) before ≡ false
is_new before x e = one (list_any (same x) before) refl e
  where
    one : (b : Bool) → list_any (same x) before ≡ b → (if b then Some (length before) else None) ≡ None → list_any (same x) before ≡ false
    one false is h = is
    one true is h = cc

find-behind : (q : StateId × Bound → Bool) (before : List (StateId × Bound)) (x : StateId × Bound) (xs : List (StateId × Bound)) → list_any q before ≡ false → q x ≡ true → find q (before ++ x ∷ xs) ≡ Some x
find-behind q [] x xs none is = grind (arith, is)
find-behind q (y ∷ before) x xs none is = grind (arith, none, find-behind q before x xs, is)

-- where none stands twice, each is the first of its state
first_of_its_state : (before xs : List (StateId × Bound)) → answer_behind (twice_at same) before xs ≡ None → (j : ℕ) (d : StateId × Bound) → j < length xs
    → find (same (get_or xs j d)) (before ++ xs) ≡ Some (get_or xs j d)
first_of_its_state before [] e j d lt = absurd (omega (arith, lt))
first_of_its_state before (x ∷ xs) e zero d lt = find-behind (same x) before x xs (is_new before x (option_or-none (twice_at same before x) (answer_behind (twice_at same) (before ++ x ∷ []) xs) e).0) (grind (arith, nat_tests))
first_of_its_state before (x ∷ xs) e (suc j) d lt =
    ap (find (same (get_or xs j d))) (sym (append_assoc before (x ∷ []) xs)) ∙ first_of_its_state (before ++ x ∷ []) xs (option_or-none (twice_at same before x) (answer_behind (twice_at same) (before ++ x ∷ []) xs) e).1 j d (omega (arith, lt))

twice_none : (m : ModelParts) → fault_of m ≡ None → twice_place same m.states ≡ None
twice_none m e = no_place (λ i. TwiceState i) (twice_place same m.states) (none_found (state_tests ++ transition_tests ++ walk_tests) m e).1.1.1.0

bound_here : (m : ModelParts) → fault_of m ≡ None → (j : ℕ) (d : StateId × Bound) → j < length m.states → bound_of m (get_or m.states j d).0 ≡ (get_or m.states j d).1
bound_here m e j d lt = ap (λ (o : Option (StateId × Bound)). option_map_or (λ p. p.1) o Free) (first_of_its_state [] m.states (twice_none m e) j d lt)

get_or-firsts : (xs : List (StateId × Bound)) (j : ℕ) (d : StateId × Bound) → get_or (map (λ p. p.0) xs) j d.0 ≡ (get_or xs j d).0
get_or-firsts [] j d = refl
get_or-firsts (x ∷ xs) zero d = refl
get_or-firsts (x ∷ xs) (suc j) d = get_or-firsts xs j d

length-firsts : (xs : List (StateId × Bound)) → length (map (λ p. p.0) xs) ≡ length xs
length-firsts [] = refl
length-firsts (x ∷ xs) = ap suc (length-firsts xs)

if_below : (left room : ℕ) (x y best : StateId) → left < room → (if nat_lt left room then x else y) ≡ best → x ≡ best
if_below left room x y best low e = grind (arith, nat_tests, e)

if_above : (left room : ℕ) (x y best : StateId) → room ≤ left → (if nat_lt left room then x else y) ≡ best → y ≡ best
if_above left room x y best high e = grind (arith, nat_tests, e)

-- one state more
pub record IsStep (m : ModelParts) (replicas live : ℕ) (states : List StateId) (j left room : ℕ) (best : StateId) : Type 0 where
  pub here : left < room → get_or states j (record { 0 = 0 }) ≡ best
  pub next : room ≤ left → best_among (drop (j + 1) m.states) m.initial replicas live (left - room) ≡ best

module _ (m : ModelParts) (replicas live : ℕ) where
  split : (j left : ℕ) (d : StateId × Bound) → j < length m.states
      → best_among (drop j m.states) m.initial replicas live left
      ≡ (if nat_lt left (room_in (get_or m.states j d).1 replicas live) then (get_or m.states j d).0
      else best_among (drop (j + 1) m.states) m.initial replicas live (left - room_in (get_or m.states j d).1 replicas live))
  split j left d lt = at_drop_more (λ ys. best_among ys m.initial replicas live left) m.states j d lt

  pub best_step : (states : List StateId) (j left room : ℕ) (best : StateId) → fault_of m ≡ None → states ≡ states_of m → j < length states
      → room ≡ room_in (bound_of m (get_or states j (record { 0 = 0 }))) replicas live
      → best_among (drop j m.states) m.initial replicas live left ≡ best
      → IsStep m replicas live states j left room best
  best_step states j left room best sound is lt much so =
      let d : StateId × Bound = (record { 0 = 0 }, Free) in
      let at : get_or states j (record { 0 = 0 }) ≡ (get_or m.states j d).0 = ap (λ (ss : List StateId). get_or ss j (record { 0 = 0 })) is ∙ get_or-firsts m.states j d in
      let long : j < length m.states = omega (arith, ap length is, length-firsts m.states, lt) in
      let bound : bound_of m (get_or states j (record { 0 = 0 })) ≡ (get_or m.states j d).1 = ap (bound_of m) at ∙ bound_here m sound j d long in
      let size : room ≡ room_in (get_or m.states j d).1 replicas live = much ∙ ap (λ (b : Bound). room_in b replicas live) bound in
      let whole = sym (split j left d long) ∙ so in
      record {
        here = λ low. at ∙ if_below left (room_in (get_or m.states j d).1 replicas live) _ _ best (subst (λ (n : ℕ). left < n) size low) whole;
        next = λ high. ap (λ (n : ℕ). best_among (drop (j + 1) m.states) m.initial replicas live (left - n)) size
            ∙ if_above left (room_in (get_or m.states j d).1 replicas live) _ _ best (subst (λ (n : ℕ). n ≤ left) size high) whole;
      }

-- one number more
map-numbers_from-suc : {X : Type 0} (f : ℕ → X) (a n : ℕ) → map f (numbers_from a (suc n)) ≡ map f (numbers_from a n) ++ f (a + n) ∷ []
map-numbers_from-suc f a zero = grind arith
map-numbers_from-suc f a (suc n) = grind (arith, map-numbers_from-suc f (a + 1) n)

pub map-numbers_below_more : {X : Type 0} (f : ℕ → X) (n : ℕ) → map f (numbers_below (n + 1)) ≡ map f (numbers_below n) ++ f n ∷ []
map-numbers_below_more f n = grind (arith, map-numbers_from-suc f 0 n)

-- what stands at a place of such a list
get-numbers_from : {X : Type 0} (f : ℕ → X) (a n k : ℕ) → slice_get (map f (numbers_from a n)) k ≡ (if nat_lt k n then Some (f (a + k)) else None)
get-numbers_from f a zero k = grind (arith, nat_tests)
get-numbers_from f a (suc n) zero = grind (arith, nat_tests)
get-numbers_from f a (suc n) (suc k) = grind (arith, nat_tests, get-numbers_from f (a + 1) n k)

below_is : (m : ModelParts) (replicas live : ℕ) (best : List StateId) (k : ℕ) → best ≡ best_states m replicas live → unwrap_or (slice_get best k) dropped ≡ best_below m replicas live k
below_is m replicas live best k is =
    ap (λ (ss : List StateId). unwrap_or (slice_get ss k) dropped) is
    ∙ ap (λ (o : Option StateId). unwrap_or o dropped) (get-numbers_from (best_state m replicas live) 0 replicas k) ∙ one (nat_lt k replicas)
  where
    one : (b : Bool) → unwrap_or (if b then Some (best_state m replicas live (0 + k)) else None) dropped ≡ (if b then best_state m replicas live k else dropped)
    one true = grind arith
    one false = refl

-- the same as an index reads it
pub read_below : (x : Placing) (initial : StateId) (best items : List StateId) (k : ℕ) → IsPlaced x initial best → items ≡ best
    → get_or items k dropped ≡ best_below (model_in x) x.resource.ideal.replicas (length x.view.live) k
read_below x initial best items k placed is =
    ap (λ (ss : List StateId). get_or ss k dropped) is ∙ sym (unwrap_or-slice_get best k dropped)
    ∙ below_is (model_in x) x.resource.ideal.replicas (length x.view.live) best k placed.states
