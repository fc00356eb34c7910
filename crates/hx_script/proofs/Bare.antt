-- A mode whose lists or maps are empty has no fault.
use Rattle.std.proofs.Common.{◌≡◌, ℕ, zero, suc, ◌==◌, Bool, true, List, [], ◌∷◌, ◌++◌, length, Option, Some, None, refl, ap, ◌∙◌, arith}
use Rattle.std.specs.Prelude.{◌^◌, ◌-◌, min, replicate, if◌then◌else◌}
use Rattle.std.specs.Option.{option_or}
use Rattle.std.proofs.lemmas.List.{length-replicate}
use Rattle.std.proofs.lemmas.Bool.Decides.{nat_tests}
use Rattle.hx_lists.specs.First.{answer_behind}
use Rattle.hx_ids.specs.declared.InstanceId.{InstanceId}
use Rattle.hx_ids.specs.declared.StateId.{StateId}
use Rattle.hx_ideal.specs.declared.Mode.TheVariants as modes
use Rattle.hx_ideal.specs.declared.IdealFault.TheVariants as faults
use Rattle.hx_ideal.specs.declared.kinds.ModeKind.{ModeKind}
use Rattle.hx_ideal.specs.declared.kinds.ModeKind.TheVariants as kinds
use Rattle.hx_ideal.specs.Faults.{list_fault, map_fault, mode_fault, part_count_fault}
use Rattle.hx_ideal.specs.IdealState.{count_of}
use Rattle.hx_script.specs.NewIdeals.{bare_mode}

same_count : (n : ℕ) → (n == n) ≡ true
same_count n = grind (arith, nat_tests)

none_behind : {X Y : Type 0} (ask : List X → X → Option Y) (x : X) (n : ℕ) (before : List X) → ((b : List X) → ask b x ≡ None) → answer_behind ask before (replicate n x) ≡ None
none_behind ask x zero before none = refl
none_behind ask x (suc n) before none =
    ap (λ o. option_or o (answer_behind ask (before ++ x ∷ []) (replicate n x))) (none before) ∙ none_behind ask x n (before ++ x ∷ []) none

parts_counted : (X : Type 0) (n : ℕ) → part_count_fault n (Some (length (replicate {A = List X} n []))) ≡ None
parts_counted X n =
    ap (λ (k : ℕ). part_count_fault n (Some k)) (length-replicate n [])
    ∙ ap (λ (b : Bool). if b then None else Some (faults.PartCount (min n (2 ^ 32 - 1)) n)) (same_count n)

lists_bare : (n : ℕ) → option_or (part_count_fault n (count_of (modes.Semi (replicate n [])))) (mode_fault 0 [] (modes.Semi (replicate n []))) ≡ None
lists_bare n =
    ap (λ z. option_or z (mode_fault 0 [] (modes.Semi (replicate n [])))) (parts_counted InstanceId n)
    ∙ none_behind (λ (before : List (List InstanceId)) (list : List InstanceId). list_fault 0 (length before) list) [] n [] (λ b. refl)

maps_bare : (n : ℕ) → option_or (part_count_fault n (count_of (modes.Custom (replicate n [])))) (mode_fault 0 [] (modes.Custom (replicate n []))) ≡ None
maps_bare n =
    ap (λ z. option_or z (mode_fault 0 [] (modes.Custom (replicate n [])))) (parts_counted (InstanceId × StateId) n)
    ∙ none_behind (λ (before : List (List (InstanceId × StateId))) (entries : List (InstanceId × StateId)). map_fault 0 [] (length before) entries) [] n [] (λ b. refl)

pub mode_without_fault : (o : Option ModeKind) (n : ℕ) → option_or (part_count_fault n (count_of (bare_mode o n))) (mode_fault 0 [] (bare_mode o n)) ≡ None
mode_without_fault None n = maps_bare n
mode_without_fault (Some kinds.FullAuto) n = refl
mode_without_fault (Some kinds.SemiAuto) n = lists_bare n
mode_without_fault (Some kinds.Customized) n = maps_bare n
