-- The number of each key after one is raised or lowered.
use Rattle.std.proofs.Common.{◌≡◌, ℕ, ◌+◌, ◌-◌, Bool, true, false, List, Some, Option, refl, ap, ◌∙◌, arith}
use Rattle.std.specs.Prelude.{◌==◌, ◌&&◌, if◌then◌else◌, unwrap_or}
use Rattle.std.specs.Map.{lookup}
use Rattle.std.proofs.lemmas.Bool.{eqb-true}
use Rattle.std.proofs.lemmas.Bool.Decides.{nat_tests}
use Rattle.hx_ids.specs.declared.PartId.{PartId}
use Rattle.hx_ids.specs.declared.StateId.{StateId}
use Rattle.hx_counts.specs.Tally.{is_end, is_load}

both : (a b : Bool) → (a && b) ≡ true → (a ≡ true) × (b ≡ true)
both true true h = (refl, refl)
both true false h = cc
both false b h = cc

-- the number under a test of keys
abbrev number_at : {K : Type 0} → (K → K → Bool) → List (K × ℕ) → K → ℕ
number_at is es q = unwrap_or (lookup (is q) es) 0

-- a test of keys tells which are the same
pub record TellsKeys {K : Type 0} (is : K → K → Bool) : Type 0 where
  same : (a b : K) → is a b ≡ true → a ≡ b
  turn : (a b : K) → is a b ≡ is b a

-- one more under a key
pub raised : {K : Type 0} (is : K → K → Bool) → TellsKeys is → (key q : K) (es new : List (K × ℕ))
    → lookup (is q) new ≡ (if is key q then Some (number_at is es key + 1) else lookup (is q) es)
    → number_at is new q ≡ number_at is es q + (if is q key then 1 else 0)
raised is tells key q es new h = ap (λ (o : Option ℕ). unwrap_or o 0) h ∙ one (is key q) refl ∙ ap (λ (b : Bool). number_at is es q + (if b then 1 else 0)) (tells.turn key q)
  where
    one : (b : Bool) → is key q ≡ b → unwrap_or (if b then Some (number_at is es key + 1) else lookup (is q) es) 0 ≡ number_at is es q + (if b then 1 else 0)
    one true e = ap (λ x. number_at is es x + 1) (tells.same key q e)
    one false e = omega arith

-- one less, where there is one
pub lowered : {K : Type 0} (is : K → K → Bool) → TellsKeys is → (key q : K) (es new : List (K × ℕ))
    → number_at is new q ≡ (if is key q then number_at is es key - 1 else number_at is es q)
    → number_at is new q ≡ number_at is es q - (if is q key then 1 else 0)
lowered is tells key q es new h = one (is key q) refl h ∙ ap (λ (b : Bool). number_at is es q - (if b then 1 else 0)) (tells.turn key q)
  where
    one : (b : Bool) → is key q ≡ b → number_at is new q ≡ (if b then number_at is es key - 1 else number_at is es q) → number_at is new q ≡ number_at is es q - (if b then 1 else 0)
    one true e h = let this : number_at is es key ≡ number_at is es q = ap (λ x. number_at is es x) (tells.same key q e) in omega arith
    one false e h = omega arith

-- keys that are the same
abbrev pub end_is : PartId × StateId → PartId × StateId → Bool
end_is a b = is_end a.0 a.1 b

abbrev pub load_is : ℕ × ℕ → ℕ × ℕ → Bool
load_is a b = is_load a.0 a.1 b

end_same : (a b : PartId × StateId) → end_is a b ≡ true → a ≡ b
end_same a b h =
    let x = both ((a.0.resource.0 == b.0.resource.0) && (a.0.index == b.0.index)) (a.1.0 == b.1.0) h in
    let y = both (a.0.resource.0 == b.0.resource.0) (a.0.index == b.0.index) x.0 in
    let r = eqb-true a.0.resource.0 b.0.resource.0 y.0 in
    let k = eqb-true a.0.index b.0.index y.1 in
    let s = eqb-true a.1.0 b.1.0 x.1 in
    λ i. (record { resource = record { 0 = r i }; index = k i }, record { 0 = s i })

load_same : (a b : ℕ × ℕ) → load_is a b ≡ true → a ≡ b
load_same a b h =
    let x = both (a.0 == b.0) (a.1 == b.1) h in
    let r = eqb-true a.0 b.0 x.0 in
    let k = eqb-true a.1 b.1 x.1 in
    λ i. (r i, k i)

pub ends_tell : TellsKeys end_is
ends_tell = record { same = end_same; turn = λ a b. grind (arith, nat_tests) }

pub loads_tell : TellsKeys load_is
loads_tell = record { same = load_same; turn = λ a b. grind (arith, nat_tests) }
