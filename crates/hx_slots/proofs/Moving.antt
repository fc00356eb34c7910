-- How single ends and single rules add up.
use Rattle.std.proofs.Common.{◌≡◌, ℕ, ◌+◌, ◌-◌, ◌<◌, ◌≤◌, ◌&&◌, ◌==◌, not, Bool, true, false, List, length, Option, Some, None, refl, sym, ap, ◌∙◌, subst, arith}
use Rattle.std.specs.Prelude.{if◌then◌else◌, slice_get, nat_lt, OnOk}
use Rattle.std.specs.declared.result.Result.{Result}
use Rattle.std.specs.declared.result.Result.TheVariants.{Ok, Err}
use Rattle.std.proofs.lemmas.Bool.{eqb-true}
use Rattle.std.proofs.lemmas.Bool.Decides.{nat_tests}
use Rattle.std.proofs.lemmas.Option.{slice_get_within}
use Rattle.hx_ids.specs.declared.InstanceId.{InstanceId}
use Rattle.hx_ids.specs.declared.StateId.{StateId}
use Rattle.hx_ids.specs.declared.PartId.{PartId}
use Rattle.hx_counts.specs.Tally.{is_end}
use Rattle.hx_cluster.specs.declared.description.Rule.{Rule}
use Rattle.hx_cluster.specs.declared.state.Message.{Message}
use Rattle.hx_cluster.specs.declared.state.Cluster.{Cluster}
use Rattle.hx_cluster.specs.Ends.{part_eq}
use Rattle.hx_safe.proofs.Models.{state_same}
use Rattle.hx_safe.proofs.Ends.{part_same}
use Rattle.hx_slots.specs.Tallies.{is_limited, stands_at, is_loaded}
use Rattle.hx_slots.specs.Moves.{state_added, rule_added}

-- two facts of a call that went well
pub on_ok_both : {T E : Type 0} (r : Result T E) (P Q R : Type 0) → (P → Q → R) → OnOk r P → OnOk r Q → OnOk r R
on_ok_both (Ok x) P Q R f p q = f p q
on_ok_both (Err e) P Q R f p q = p

-- an end of a limited state that the replica doesn't stand at
pub end_counts : (c : Cluster) (q : PartId) (has : Option StateId) (s : StateId) → stands_at s has ≡ false → is_limited c.models c.resources q s ≡ true
    → (p : PartId) (t : StateId) → ◌≡◌ {A = ℕ} (if is_end p t (q, s) then 1 else 0) (state_added c q has s p t)
end_counts c q has s apart limited p t = one (part_eq q p) refl (s.0 == t.0) refl
  where
    split : is_end p t (q, s) ≡ (part_eq q p && (s.0 == t.0))
    split = grind (arith, nat_tests)

    here : part_eq q p ≡ true → (s.0 == t.0) ≡ true → (is_limited c.models c.resources p t ≡ true) × (stands_at t has ≡ false)
    here part state =
        let P : PartId → StateId → Type 0 = λ p t. (is_limited c.models c.resources p t ≡ true) × (stands_at t has ≡ false) in
        subst (λ (x : PartId). P x t) (part_same q p part) (subst (λ (x : StateId). P q x) (state_same s t state) (limited, apart))

    one : (a : Bool) → part_eq q p ≡ a → (b : Bool) → (s.0 == t.0) ≡ b
        → ◌≡◌ {A = ℕ} (if is_end p t (q, s) then 1 else 0) (if a && is_limited c.models c.resources p t && (b && not (stands_at t has)) then 1 else 0)
    one true part true state = let both = here part state in grind (arith, split, part, state, both.0, both.1)
    one true part false state = grind (arith, split, part, state)
    one false part b state = grind (arith, split, part)

-- what the rule at a place adds is what its list says of the place
pub rule_counts : (rules : List Rule) (r : Rule) (place : ℕ) (i : InstanceId) (m : Message) (n key : ℕ) → slice_get rules place ≡ Some r
    → rule_added r place i m n key ≡ (if n == place then (if is_loaded (slice_get rules n) key i m then 1 else 0) else 0)
rule_counts rules r place i m n key at = one (n == place) refl
  where
    one : (b : Bool) → (n == place) ≡ b
        → ◌≡◌ {A = ℕ} (if b && is_loaded (Some r) key i m then 1 else 0) (if b then (if is_loaded (slice_get rules n) key i m then 1 else 0) else 0)
    one true is = ap (λ (o : Option Rule). if is_loaded o key i m then 1 else 0) (sym (ap (slice_get rules) (eqb-true n place is) ∙ at))
    one false is = refl

-- past the last rule nothing is added
pub none_past : (rules : List Rule) (i : InstanceId) (m : Message) (n key : ℕ) → length rules ≤ n → ◌≡◌ {A = ℕ} (if is_loaded (slice_get rules n) key i m then 1 else 0) 0
none_past rules i m n key past = one (slice_get rules n) refl
  where
    one : (o : Option Rule) → slice_get rules n ≡ o → ◌≡◌ {A = ℕ} (if is_loaded o key i m then 1 else 0) 0
    one None is = refl
    one (Some r) is = let within = slice_get_within rules n r is in absurd (omega (arith, within, past))

-- the rules so far
pub raised_more : (n place x old mid new : ℕ) → mid ≡ old + (if nat_lt n place then x else 0) → new ≡ mid + (if n == place then x else 0)
    → new ≡ old + (if nat_lt n (place + 1) then x else 0)
raised_more n place x old mid new before this = grind (arith, nat_tests, before, this)

pub raised_all : (n place x old new : ℕ) → (place ≤ n → x ≡ 0) → new ≡ old + (if nat_lt n place then x else 0) → new ≡ old + x
raised_all n place x old new past is = grind (arith, nat_tests, past, is)

pub lowered_more : (n place rules x old mid new : ℕ) → place < rules → mid ≡ old - (if nat_lt n place && nat_lt n rules then x else 0) → new ≡ mid - (if n == place then x else 0)
    → new ≡ old - (if nat_lt n (place + 1) && nat_lt n rules then x else 0)
lowered_more n place rules x old mid new low before this = grind (arith, nat_tests, low, before, this)

pub lowered_same : (n place rules x old mid : ℕ) → rules ≤ place → mid ≡ old - (if nat_lt n place && nat_lt n rules then x else 0)
    → mid ≡ old - (if nat_lt n (place + 1) && nat_lt n rules then x else 0)
lowered_same n place rules x old mid high before = grind (arith, nat_tests, high, before)

pub lowered_all : (n place rules x old new : ℕ) → (place ≤ n → x ≡ 0) → new ≡ old - (if nat_lt n place && nat_lt n rules then x else 0)
    → new ≡ old - (if nat_lt n rules then x else 0)
lowered_all n place rules x old new past is = grind (arith, nat_tests, past, is)
