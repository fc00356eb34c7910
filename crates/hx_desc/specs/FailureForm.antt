-- How a failure to come is described.
use Rattle.std.specs.Prelude.{ℕ, Bool, true, false, not, List, [], ◌∷◌, ◌++◌, Option, None, Some, Ok, nat_lt, codes}
use Rattle.serde_json.specs.Data.{Data, Members}
use Rattle.hx_ids.specs.declared.PartId.{PartId}
use Rattle.hx_ids.specs.declared.ResourceId.{ResourceId}
use Rattle.hx_cluster.specs.declared.description.Failure.{Failure}
use Rattle.hx_cluster.specs.Ends.{parts_of}
use Rattle.hx_forms.specs.declared.faults.DescKind.TheVariants as kinds
use Rattle.hx_desc.specs.declared.tables.ResourceTable.{ResourceTable}
use Rattle.hx_forms.specs.Found.{Found, fault, ◌>>=◌, tested, whole_in, number_in, place_in, array_up_to, read_all, object_in, required, optional}
use Rattle.hx_desc.specs.ResourceForm.{instance_in}

-- a resource of the description: its number is the place of its name
abbrev pub resource_id_in : List (List ℕ) → Data → Found ResourceId
resource_id_in names d = do
  place ← place_in kinds.UnknownResource names d
  Ok (record { 0 = place })

abbrev pub part_in : ℕ → Data → Found ℕ
part_in parts d = do
  index ← whole_in d
  tested ((not (nat_lt index parts), kinds.NoPart) ∷ []) index

abbrev pub turn_in : Data → Found (Option ℕ)
turn_in d = do
  n ← number_in 1 1000000 d
  Ok (Some n)

-- of a run or of a making: whether it is a making, and the which
abbrev pub turn_of : Option ℕ → Option ℕ → Found (Bool × ℕ)
turn_of (Some n) None = Ok (false, n)
turn_of None (Some n) = Ok (true, n)
turn_of None None = fault kinds.RunOrMake
turn_of (Some n) (Some m) = fault kinds.RunOrMake

-- the part of a failure
abbrev pub failed_part : ResourceTable → Members → Found PartId
failed_part table members = do
  resource ← required (codes "resource") (resource_id_in table.names) members
  index ← required (codes "part") (part_in (parts_of table.resources resource)) members
  Ok (record { resource = resource; index = index })

-- which of its runs or makings fails
abbrev pub failed_turn : Members → Found (Bool × ℕ)
failed_turn members = do
  run ← optional (codes "run") None turn_in members
  make ← optional (codes "make") None turn_in members
  turn_of run make

abbrev pub failure_keys : List (List ℕ)
failure_keys = codes "instance" ∷ codes "resource" ∷ codes "part" ∷ codes "run" ∷ codes "make" ∷ []

abbrev pub failure_in : List (List ℕ) → ResourceTable → List Failure → Data → Found (List Failure)
failure_in instances table before d = do
  members ← object_in failure_keys d
  instance ← required (codes "instance") (instance_in instances) members
  part ← failed_part table members
  turn ← failed_turn members
  Ok (before ++ (record { instance = instance; part = part; make = turn.0; number = turn.1 }) ∷ [])

abbrev pub failures_in : List (List ℕ) → ResourceTable → Data → Found (List Failure)
failures_in instances table d = do
  ds ← array_up_to 1024 d
  read_all (failure_in instances table) [] ds
