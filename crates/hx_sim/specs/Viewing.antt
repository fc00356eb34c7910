-- Who has a replica of a part, by rows with their instances.
use Rattle.std.specs.Prelude.{◌≡◌, Bool, not, ◌||◌, List, map}
use Rattle.std.specs.List.{flat_map}
use Rattle.hx_ids.specs.declared.InstanceId.{InstanceId}
use Rattle.hx_ids.specs.declared.SessionId.{SessionId}
use Rattle.hx_ids.specs.declared.StateId.{StateId}
use Rattle.hx_ids.specs.declared.PartId.{PartId}
use Rattle.hx_cluster.specs.declared.state.Row.{Row}
use Rattle.hx_cluster.specs.declared.state.Cluster.{Cluster}
use Rattle.hx_cluster.specs.declared.happenings.Seen.{Seen}
use Rattle.hx_cluster.specs.Steps.{is_empty_list}
use Rattle.hx_cluster.specs.Reads.{states_shown}
use Rattle.hx_parts.specs.Parts.{items_at}
use Rattle.hx_print.specs.Texts.{view_of_part}

-- an instance's rows, and those of some sessions in turn
abbrev pub seen_of : InstanceId → List Row → List Seen
seen_of i rows = map (λ r. record { instance = i; part = r.part; state = r.state }) rows

abbrev pub rows_seen : Cluster → List (SessionId × InstanceId) → List Seen
rows_seen c shown = flat_map (λ e. seen_of e.1 (states_shown c e.0)) shown

-- who has a replica of a part
abbrev pub held_at : List Seen → PartId → List (InstanceId × StateId)
held_at rows p = map (λ r. (r.instance, r.state)) (items_at (λ r. r.part) p rows)

-- whether a view shows a part: one of a dropped resource only where somebody has a replica
abbrev pub is_shown_by : List Seen → Bool → PartId → Bool
is_shown_by rows dropped p = not dropped || not (is_empty_list (items_at (λ r. r.part) p rows))

-- rows tell of each part who has it in a cluster
abbrev pub IsViewOf : List Seen → Cluster → Type 0
IsViewOf rows c = (p : PartId) → held_at rows p ≡ view_of_part c p
