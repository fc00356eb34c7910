-- What is wrong with an ideal state: the first fault, in one order.
use Rattle.std.specs.Prelude.{ℕ, ◌^◌, ◌-◌, not, ◌==◌, List, length, min, nat_lt, Option, None, Some, if◌then◌else◌}
use Rattle.std.specs.List.{list_any}
use Rattle.std.specs.Option.{option_or}
use Rattle.hx_ids.specs.declared.InstanceId.{InstanceId}
use Rattle.hx_ids.specs.declared.StateId.{StateId}
use Rattle.hx_lists.specs.First.{first_answer}
use Rattle.hx_ideal.specs.declared.Mode.{Mode}
use Rattle.hx_ideal.specs.declared.Mode.TheVariants.{Full, Semi, Custom}
use Rattle.hx_ideal.specs.declared.IdealFault.{IdealFault}
use Rattle.hx_ideal.specs.declared.IdealFault.TheVariants.{ZeroReplicas, TooManyReplicas, ZeroParts, TooManyParts, PartCount, UnknownInstance, UnknownState, TwiceInList}
use Rattle.hx_ideal.specs.IdealState.{count_of}

-- of an entry of a list: an instance that isn't known, then one that stands earlier
abbrev pub id_fault : ℕ → ℕ → List InstanceId → InstanceId → Option IdealFault
id_fault instances part before i =
    if not (nat_lt i.0 instances) then Some (UnknownInstance part (length before))
    else if list_any (λ b. b.0 == i.0) before then Some (TwiceInList part (length before))
    else None

-- of an entry of a map: an instance that isn't known, then a state, then an instance that stands earlier
abbrev pub entry_fault : ℕ → List StateId → ℕ → List (InstanceId × StateId) → InstanceId × StateId → Option IdealFault
entry_fault instances states part before e =
    if not (nat_lt e.0.0 instances) then Some (UnknownInstance part (length before))
    else if not (list_any (λ s. s.0 == e.1.0) states) then Some (UnknownState part (length before))
    else if list_any (λ b. b.0.0 == e.0.0) before then Some (TwiceInList part (length before))
    else None

-- the fault of the first faulty entry
abbrev pub list_fault : ℕ → ℕ → List InstanceId → Option IdealFault
list_fault instances part list = first_answer (id_fault instances part) list

abbrev pub map_fault : ℕ → List StateId → ℕ → List (InstanceId × StateId) → Option IdealFault
map_fault instances states part entries = first_answer (entry_fault instances states part) entries

-- that of the first faulty partition
abbrev pub mode_fault : ℕ → List StateId → Mode → Option IdealFault
mode_fault instances states Full = None
mode_fault instances states (Semi lists) = first_answer (λ before list. list_fault instances (length before) list) lists
mode_fault instances states (Custom maps) = first_answer (λ before entries. map_fault instances states (length before) entries) maps

-- another number of lists or maps than of partitions. A number past the end of its type counts as the last
abbrev pub part_count_fault : ℕ → Option ℕ → Option IdealFault
part_count_fault parts None = None
part_count_fault parts (Some n) = if n == parts then None else Some (PartCount (min n (2 ^ 32 - 1)) parts)

-- the first fault of all
abbrev pub fault_of : ℕ → ℕ → Mode → ℕ → List StateId → Option IdealFault
fault_of replicas parts mode instances states =
    if replicas == 0 then Some ZeroReplicas
    else if nat_lt 64 replicas then Some TooManyReplicas
    else if parts == 0 then Some ZeroParts
    else if nat_lt 1024 parts then Some TooManyParts
    else option_or (part_count_fault parts (count_of mode)) (mode_fault instances states mode)
