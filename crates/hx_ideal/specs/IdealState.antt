-- What contracts see of an ideal state.
use Rattle.std.specs.Prelude.{ℕ, ◌≤◌, ◌≡◌, List, length, Option, Some, None, slice_set}
use Rattle.hx_ids.specs.declared.InstanceId.{InstanceId}
use Rattle.hx_ids.specs.declared.StateId.{StateId}
use Rattle.hx_ideal.specs.declared.Mode.{Mode}
use Rattle.hx_ideal.specs.declared.Mode.TheVariants.{Full, Semi, Custom}

pub record IdealState : Type 0 where
  pub replicas : ℕ
  pub parts : ℕ
  pub mode : Mode

-- how many lists or maps a mode has, if it has any
abbrev pub count_of : Mode → Option ℕ
count_of Full = None
count_of (Semi lists) = Some (length lists)
count_of (Custom maps) = Some (length maps)

-- the preference lists, and the maps
abbrev pub lists_of : Mode → Option (List (List InstanceId))
lists_of Full = None
lists_of (Semi lists) = Some lists
lists_of (Custom maps) = None

abbrev pub maps_of : Mode → Option (List (List (InstanceId × StateId)))
maps_of Full = None
maps_of (Semi lists) = None
maps_of (Custom maps) = Some maps

-- another list, or map, for one partition
abbrev pub put_list : Mode → ℕ → List InstanceId → Mode
put_list Full part list = Full
put_list (Semi lists) part list = Semi (slice_set lists part list)
put_list (Custom maps) part list = Custom maps

abbrev pub put_map : Mode → ℕ → List (InstanceId × StateId) → Mode
put_map Full part entries = Full
put_map (Semi lists) part entries = Semi lists
put_map (Custom maps) part entries = Custom (slice_set maps part entries)

-- as many lists or maps as partitions, if any
abbrev pub HasCount : Option ℕ → ℕ → Type 0
HasCount None parts = Unit {0}
HasCount (Some n) parts = n ≡ parts

-- what holds of each checked ideal state
pub record IsIdeal (replicas parts : ℕ) (mode : Mode) : Type 0 where
  pub some_replicas : (1 ≤ replicas) × (replicas ≤ 64)
  pub some_parts : (1 ≤ parts) × (parts ≤ 1024)
  pub lists : HasCount (count_of mode) parts

-- an ideal state with another list, or map, for one partition
abbrev pub with_list : IdealState → ℕ → List InstanceId → IdealState
with_list ideal part list = record ideal { mode = put_list ideal.mode part list }

abbrev pub with_map : IdealState → ℕ → List (InstanceId × StateId) → IdealState
with_map ideal part entries = record ideal { mode = put_map ideal.mode part entries }
