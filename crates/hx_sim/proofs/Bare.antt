-- The ideal state of a resource that a line adds has no fault.
use Rattle.std.proofs.Common.{◌≡◌, ℕ, zero, suc, ◌-◌, ◌≤◌, ◌==◌, Bool, List, [], ◌∷◌, ◌++◌, length, Option, Some, None, refl, ap, ◌∙◌, arith}
use Rattle.std.specs.Prelude.{◌^◌, min, nat_lt, replicate, if◌then◌else◌}
use Rattle.std.specs.Option.{option_or}
use Rattle.std.proofs.lemmas.Bool.Decides.{nat_tests}
use Rattle.hx_ideal.specs.declared.Mode.{Mode}
use Rattle.hx_ideal.specs.declared.IdealFault.{IdealFault}
use Rattle.hx_ideal.specs.declared.IdealFault.TheVariants as faults
use Rattle.hx_ideal.specs.declared.kinds.ModeKind.{ModeKind}
use Rattle.hx_ideal.specs.Faults.{fault_of}
use Rattle.hx_script.specs.NewIdeals.{bare_mode}
use Rattle.hx_script.proofs.Bare.{mode_without_fault}

within : (replicas parts : ℕ) (rest : Option IdealFault) → 1 ≤ replicas → replicas ≤ 64 → 1 ≤ parts → parts ≤ 1024 → rest ≡ None
    → (if replicas == 0 then Some faults.ZeroReplicas
    else if nat_lt 64 replicas then Some faults.TooManyReplicas
    else if parts == 0 then Some faults.ZeroParts
    else if nat_lt 1024 parts then Some faults.TooManyParts
    else rest) ≡ None
within replicas parts rest a b c d e = grind (arith, nat_tests, e)

bare_without_fault : (o : Option ModeKind) (replicas parts : ℕ) → 1 ≤ replicas → replicas ≤ 64 → 1 ≤ parts → parts ≤ 1024 → fault_of replicas parts (bare_mode o parts) 0 [] ≡ None
bare_without_fault o replicas parts a b c d = within replicas parts _ a b c d (mode_without_fault o parts)

apart : {X : Type 0} (o : Option X) (x : X) → o ≡ None → o ≡ Some x → ⊥
apart o x none some = cc

pub no_fault : (o : Option ModeKind) (replicas parts : ℕ) (m : Mode) (fault : IdealFault) → 1 ≤ replicas → replicas ≤ 64 → 1 ≤ parts → parts ≤ 1024 → m ≡ bare_mode o parts
    → fault_of replicas parts m 0 [] ≡ Some fault → ⊥
no_fault o replicas parts m fault a b c d bare is =
    apart (fault_of replicas parts m 0 []) fault (ap (λ (n : Mode). fault_of replicas parts n 0 []) bare ∙ bare_without_fault o replicas parts a b c d) is
