-- Lists of failures, which are those of one instance.
use Rattle.std.specs.Prelude.{ℕ, ◌==◌, ◌&&◌, Bool, not, List, if◌then◌else◌}
use Rattle.std.specs.List.{list_any}
use Rattle.hx_ids.specs.declared.PartId.{PartId}
use Rattle.hx_cluster.specs.declared.description.Failure.{Failure}
use Rattle.hx_cluster.specs.Ends.{part_eq}

-- whether a failure is that of the k-th making of a part's handler, or of the k-th run of each such handler
abbrev pub is_failure : PartId → Bool → ℕ → Failure → Bool
is_failure p make k f = part_eq f.part p && (if make then f.make else not f.make) && (f.number == k)

-- whether a list has it
abbrev pub has_failure : List Failure → PartId → Bool → ℕ → Bool
has_failure failures p make k = list_any (is_failure p make k) failures
