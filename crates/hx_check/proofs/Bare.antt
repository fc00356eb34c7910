-- An ideal state that an entry tells is at fault exactly where a step would be out of range.
use Rattle.std.proofs.Common.{◌≡◌, ℕ, zero, suc, ◌≤◌, ◌==◌, ◌&&◌, Bool, true, false, List, [], ◌∷◌, ◌++◌, length, Option, Some, None, refl, sym, ap, ◌∙◌, arith}
use Rattle.std.specs.Prelude.{◌^◌, ◌-◌, is_some, min, nat_lt, replicate, if◌then◌else◌}
use Rattle.std.specs.Option.{option_or}
use Rattle.std.proofs.lemmas.Bool.Decides.{nat_tests}
use Rattle.hx_ideal.specs.declared.Mode.{Mode}
use Rattle.hx_ideal.specs.declared.IdealFault.{IdealFault}
use Rattle.hx_ideal.specs.declared.IdealFault.TheVariants as faults
use Rattle.hx_ideal.specs.declared.kinds.ModeKind.{ModeKind}
use Rattle.hx_ideal.specs.Faults.{mode_fault, part_count_fault, fault_of}
use Rattle.hx_ideal.specs.IdealState.{IdealState, count_of}
use Rattle.hx_cluster.specs.Steps.{is_bare}
use Rattle.hx_script.specs.Modes.{mode_numbered}
use Rattle.hx_script.specs.NewIdeals.{bare_mode, bare_ideal}
use Rattle.hx_script.proofs.Bare.{mode_without_fault}

-- a fault where nothing is too large: there are no replicas, or no parts
pub fault_bare : (o : Option ModeKind) (replicas parts : ℕ) (fault : IdealFault) → replicas ≤ 64 → parts ≤ 1024
    → fault_of replicas parts (bare_mode o parts) 0 [] ≡ Some fault → is_bare (record { replicas = replicas; parts = parts; mode = bare_mode o parts }) ≡ false
fault_bare o replicas parts fault few short is =
    let low : nat_lt 64 replicas ≡ false = grind (arith, nat_tests, few) in
    let less : nat_lt 1024 parts ≡ false = grind (arith, nat_tests, short) in
    one (replicas == 0) (parts == 0) refl refl
    (sym (ap (λ (b : Bool). if replicas == 0 then Some faults.ZeroReplicas else if b then Some faults.TooManyReplicas else if parts == 0 then Some faults.ZeroParts else if nat_lt 1024 parts then Some faults.TooManyParts else rest) low
    ∙ ap (λ (b : Bool). if replicas == 0 then Some faults.ZeroReplicas else if parts == 0 then Some faults.ZeroParts else if b then Some faults.TooManyParts else rest) less) ∙ is)
  where
    rest : Option IdealFault
    rest = option_or (part_count_fault parts (count_of (bare_mode o parts))) (mode_fault 0 [] (bare_mode o parts))

    ideal : IdealState
    ideal = record { replicas = replicas; parts = parts; mode = bare_mode o parts }

    one : (a b : Bool) → (replicas == 0) ≡ a → (parts == 0) ≡ b → (if a then Some faults.ZeroReplicas else if b then Some faults.ZeroParts else rest) ≡ Some fault → is_bare ideal ≡ false
    one true b zero_replicas zero_parts e = grind (arith, nat_tests, zero_replicas)
    one false true zero_replicas zero_parts e = grind (arith, nat_tests, zero_parts)
    one false false zero_replicas zero_parts e = let none : rest ≡ None = mode_without_fault o parts in cc

-- so what is at fault is not in range
pub faulty_bare : (mode replicas parts : ℕ) (kind : ModeKind) (m : Mode) (fault : IdealFault) → mode_numbered mode ≡ Some kind → m ≡ bare_mode (Some kind) parts → replicas ≤ 64 → parts ≤ 1024
    → fault_of replicas parts m 0 [] ≡ Some fault → (is_some (mode_numbered mode) && is_bare (bare_ideal replicas parts mode)) ≡ false
faulty_bare mode replicas parts kind m fault numbered bare few short is =
    ap (λ (b : Bool). is_some (mode_numbered mode) && b)
    (fault_bare (mode_numbered mode) replicas parts fault few short
    (ap (λ (n : Mode). fault_of replicas parts n 0 []) (sym (bare ∙ ap (λ o. bare_mode o parts) (sym numbered))) ∙ is))
    ∙ none (is_some (mode_numbered mode))
  where
    none : (b : Bool) → (b && false) ≡ false
    none true = refl
    none false = refl
