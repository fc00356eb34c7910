-- The turns after an event of one controller, or of none.
use Rattle.std.proofs.Common.{◌≡◌, ℕ, zero, suc, ◌+◌, ◌<◌, ◌==◌, Bool, true, false, List, [], ◌∷◌, length, set, get_or, refl, sym, ap, ◌∙◌, subst, arith}
use Rattle.std.specs.Prelude.{if◌then◌else◌, replicate}
use Rattle.std.specs.List.{list_all}
use Rattle.std.proofs.lemmas.List.{length-set, length-replicate}
use Rattle.std.proofs.lemmas.Bool.{and_parts, and_from}
use Rattle.std.proofs.lemmas.Bool.Decides.{nat_tests}
use Rattle.hx_ids.specs.declared.ControllerId.{ControllerId}
use Rattle.hx_model.specs.declared.ModelParts.{ModelParts}
use Rattle.hx_cluster.specs.declared.description.Spec.{Spec}
use Rattle.hx_cluster.specs.declared.state.Cluster.{Cluster}
use Rattle.hx_cluster.specs.declared.happenings.Event.{Event}
use Rattle.hx_cluster.specs.Steps.{opening, has_controller}
use Rattle.hx_cluster.specs.Events.{next}
use Rattle.hx_cluster.specs.Ranged.{is_ranged_resource}
use Rattle.hx_gen.specs.Modelled.{has_models}
use Rattle.hx_pass.specs.Turns.{Turn, idle_turn, when_own, turn_after}
use Rattle.hx_safe.proofs.Counting.{and-first, and-second, all-le}
use Rattle.hx_safe.proofs.Fixed.{fixed_next}
use Rattle.hx_safe.proofs.Whole.{reached_ranged}
use Rattle.hx_records.specs.Reached.{IsReached}
use Rattle.hx_check.specs.declared.turns.Read.{Read}
use Rattle.hx_check.specs.declared.turns.Read.TheVariants as reads
use Rattle.hx_check.specs.Standing.{turns_after}
use Rattle.hx_check.specs.Judging.{read_on, AreTurns}

-- an event of no controller
pub turns_stay : (c : Cluster) (e : Event) → ((k : ControllerId) (t : Turn) → turn_after c k t e ≡ t) → (n : ℕ) (ts : List Turn) → turns_after c e n ts ≡ ts
turns_stay c e same n [] = refl
turns_stay c e same n (t ∷ ts) = ap (λ u. u ∷ turns_after c e (n + 1) ts) (same (record { 0 = n }) t) ∙ ap (λ us. t ∷ us) (turns_stay c e same (n + 1) ts)

-- an event of one controller
module _ (c : Cluster) (e : Event) (j : ControllerId) (f : Turn → Turn) (own : (k : ControllerId) (t : Turn) → turn_after c k t e ≡ when_own k j t (f t)) where
  other : (n : ℕ) (t : Turn) → (j.0 == n) ≡ false → turn_after c (record { 0 = n }) t e ≡ t
  other n t differs = own (record { 0 = n }) t ∙ ap (λ (b : Bool). if b then f t else t) differs

  here : (n : ℕ) (t : Turn) → (j.0 == n) ≡ true → turn_after c (record { 0 = n }) t e ≡ f t
  here n t agreed = own (record { 0 = n }) t ∙ ap (λ (b : Bool). if b then f t else t) agreed

  past : (n : ℕ) (ts : List Turn) → j.0 < n → turns_after c e n ts ≡ ts
  past n [] lt = refl
  past n (t ∷ ts) lt =
      let differs : (j.0 == n) ≡ false = grind (arith, nat_tests, lt) in
      ap (λ u. u ∷ turns_after c e (n + 1) ts) (other n t differs) ∙ ap (λ us. t ∷ us) (past (n + 1) ts (omega (arith, lt)))

  from : (n i : ℕ) (ts : List Turn) → j.0 ≡ n + i → i < length ts → turns_after c e n ts ≡ set ts i (f (get_or ts i idle_turn))
  from n i [] at lt = absurd (omega (arith, lt))
  from n zero (t ∷ ts) at lt =
      let same : j.0 ≡ n = omega (arith, at) in
      let agreed : (j.0 == n) ≡ true = grind (arith, nat_tests, same) in
      ap (λ u. u ∷ turns_after c e (n + 1) ts) (here n t agreed) ∙ ap (λ us. f t ∷ us) (past (n + 1) ts (omega (arith, same)))
  from n (suc i) (t ∷ ts) at lt =
      let below : n < j.0 = omega (arith, at) in
      let differs : (j.0 == n) ≡ false = grind (arith, nat_tests, below) in
      ap (λ u. u ∷ turns_after c e (n + 1) ts) (other n t differs) ∙ ap (λ us. t ∷ us) (from (n + 1) i ts (omega (arith, at)) (omega (arith, lt)))

  pub turns_own : (ts : List Turn) → j.0 < length ts → turns_after c e 0 ts ≡ set ts j.0 (f (get_or ts j.0 idle_turn))
  turns_own ts lt = from 0 j.0 ts (omega arith) lt

-- turns of resources of the models alone
all-set : {X : Type 0} (p : X → Bool) (xs : List X) (i : ℕ) (x : X) → list_all p xs ≡ true → p x ≡ true → list_all p (set xs i x) ≡ true
all-set p [] i x all is = refl
all-set p (y ∷ ys) zero x all is = and_from (p x) (list_all p ys) is (and_parts (p y) (list_all p ys) all).1
all-set p (y ∷ ys) (suc i) x all is =
    let both = and_parts (p y) (list_all p ys) all in
    and_from (p y) (list_all p (set ys i x)) both.0 (all-set p ys i x both.1 is)

all-get : {X : Type 0} (p : X → Bool) (xs : List X) (i : ℕ) (d : X) → list_all p xs ≡ true → i < length xs → p (get_or xs i d) ≡ true
all-get p [] i d all lt = absurd (omega (arith, lt))
all-get p (y ∷ ys) zero d all lt = (and_parts (p y) (list_all p ys) all).0
all-get p (y ∷ ys) (suc i) d all lt = all-get p ys i d (and_parts (p y) (list_all p ys) all).1 (omega (arith, lt))

pub turn_below : (c : Cluster) (ts : List Turn) (k : ControllerId) → AreTurns c ts → has_controller c k ≡ true → k.0 < length ts
turn_below c ts k are there = let lt : k.0 < length c.controllers = grind (arith, nat_tests, there) in omega (arith, lt, are.each)

pub turn_modelled : (c : Cluster) (ts : List Turn) (k : ControllerId) → AreTurns c ts → has_controller c k ≡ true → has_models c.models (get_or ts k.0 idle_turn).view ≡ true
turn_modelled c ts k are there = all-get (λ (t : Turn). has_models c.models t.view) ts k.0 idle_turn are.modelled (turn_below c ts k are there)

pub turns_with : (c : Cluster) (ts : List Turn) (i : ℕ) (t : Turn) → AreTurns c ts → has_models c.models t.view ≡ true → AreTurns c (set ts i t)
turns_with c ts i t are is = record {
  each = length-set ts i t ∙ are.each;
  modelled = all-set (λ (t : Turn). has_models c.models t.view) ts i t are.modelled is;
}

pub turns_next : (c : Cluster) (e : Event) (ts : List Turn) → AreTurns c ts → AreTurns (next c e) ts
turns_next c e ts are =
    let fixed = fixed_next c e in
    record {
      each = are.each ∙ sym fixed.controllers;
      modelled = ap (λ ms. list_all (λ (t : Turn). has_models ms t.view) ts) fixed.models ∙ are.modelled;
    }

-- what a judge keeps through an event
pub kept_next : (c d : Cluster) (e : Event) (models : List ModelParts) (ts : List Turn) → d ≡ next c e → (models ≡ c.models) × AreTurns c ts → (models ≡ d.models) × AreTurns d ts
kept_next c d e models ts is kept =
    subst (λ (x : Cluster). (models ≡ x.models) × AreTurns x ts) (sym is) (kept.0 ∙ sym (fixed_next c e).models, turns_next c e ts kept.1)

pub kept_same : (c d : Cluster) (models : List ModelParts) (ts : List Turn) → d ≡ c → (models ≡ c.models) × AreTurns c ts → (models ≡ d.models) × AreTurns d ts
kept_same c d models ts is kept = subst (λ (x : Cluster). (models ≡ x.models) × AreTurns x ts) (sym is) kept

pub kept_if : (c d : Cluster) (made : Bool) (e : Event) (models : List ModelParts) (ts : List Turn) → d ≡ (if made then next c e else c) → (models ≡ c.models) × AreTurns c ts → (models ≡ d.models) × AreTurns d ts
kept_if c d true e models ts is kept = kept_next c d e models ts is kept
kept_if c d false e models ts is kept = kept_same c d models ts is kept

all-replicate : {X : Type 0} (p : X → Bool) (n : ℕ) (x : X) → p x ≡ true → list_all p (replicate n x) ≡ true
all-replicate p zero x is = refl
all-replicate p (suc n) x is = and_from (p x) (list_all p (replicate n x)) is (all-replicate p n x is)

pub turns_opening : (spec : Spec) → AreTurns (opening spec) (replicate spec.controllers idle_turn)
turns_opening spec = record {
  each = length-replicate spec.controllers idle_turn ∙ sym (length-replicate spec.controllers _);
  modelled = all-replicate (λ (t : Turn). has_models spec.models t.view) spec.controllers idle_turn refl;
}

-- a read of what is wanted shows resources of the models
modelled_reached : (c : Cluster) → IsReached c → has_models c.models (read_on c idle_turn reads.Ideals).view ≡ true
modelled_reached c r =
    let ranged = subst (λ (d : Cluster). list_all (is_ranged_resource d) d.resources ≡ true) r.replays (reached_ranged r.spec r.valid r.history r.legal).resources in
    all-le (is_ranged_resource c) _ (λ x e. and-second _ _ (and-first _ _ e)) c.resources ranged

pub modelled_read : (c : Cluster) (t : Turn) (read : Read) → IsReached c → has_models c.models t.view ≡ true → has_models c.models (read_on c t read).view ≡ true
modelled_read c t reads.Live r is = is
modelled_read c t (reads.Mail s) r is = is
modelled_read c t (reads.States s) r is = is
modelled_read c t reads.Ideals r is = modelled_reached c r
