-- What a list of failures tells of a call, and what a making answered.
use Rattle.std.specs.Prelude.{◌≡◌, ℕ, Bool, true, false, List, Option, None, Some, Result, Ok, Err}
use Rattle.hx_ids.specs.declared.PartId.{PartId}
use Rattle.hx_cluster.specs.declared.description.Failure.{Failure}
use Rattle.hx_handler.specs.declared.MakeFault.{MakeFault}
use Rattle.hx_handler.specs.declared.MakeFault.TheVariants.{Faulted, OutOfMemory}
use Rattle.hx_handler.specs.Makings.{tried_up}
use Rattle.hx_handler.specs.Failures.{has_failure}

-- the k-th making, or the k-th run, fails exactly where the list has that failure. Nothing is said where no list is told
abbrev pub IsTold : Option (List Failure) → PartId → Bool → ℕ → Bool → Type 0
IsTold None p make k fails = Unit {0}
IsTold (Some failures) p make k fails = fails ≡ has_failure failures p make k

-- whether a making failed; none where it found no memory
abbrev pub answer_of : {H : Type 0} → Result H MakeFault → Option Bool
answer_of (Ok h) = Some false
answer_of (Err Faulted) = Some true
answer_of (Err OutOfMemory) = None

-- the makings tried after a making of a part
abbrev pub tried_after : {H : Type 0} → Result H MakeFault → List (PartId × ℕ) → PartId → List (PartId × ℕ)
tried_after (Ok h) tried p = tried_up tried p
tried_after (Err Faulted) tried p = tried_up tried p
tried_after (Err OutOfMemory) tried p = tried
