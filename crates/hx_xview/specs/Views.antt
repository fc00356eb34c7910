-- The external view: which instance holds which part in which state, and what is looked up in it.
use Rattle.std.specs.Prelude.{◌≡◌, Bool, true, ◌==◌, ◌&&◌, ◌||◌, nat_lt, List, [], ◌∷◌, map, filter}
use Rattle.std.specs.List.{list_all}
use Rattle.hx_ids.specs.declared.InstanceId.{InstanceId}
use Rattle.hx_ids.specs.declared.PartId.{PartId}
use Rattle.hx_ids.specs.declared.StateId.{StateId}
use Rattle.hx_cluster.specs.declared.happenings.Seen.{Seen}
use Rattle.hx_cluster.specs.Ends.{part_eq, part_before}

-- a row comes before another: by part, then by instance
abbrev pub seen_before : Seen → Seen → Bool
seen_before a b = part_before a.part b.part || (part_eq a.part b.part && nat_lt a.instance.0 b.instance.0)

-- rows stand in that order, so each part and instance has one at most
abbrev pub is_view : List Seen → Bool
is_view [] = true
is_view (r ∷ rows) = list_all (seen_before r) rows && is_view rows

-- the rows of a part
abbrev pub rows_of : PartId → List Seen → List Seen
rows_of p rows = filter (λ r. part_eq r.part p) rows

-- the instances that hold a part, each with its state
abbrev pub holders_of : List Seen → PartId → List (InstanceId × StateId)
holders_of rows p = map (λ r. (r.instance, r.state)) (rows_of p rows)

-- the instances that hold a part in a state
abbrev pub routed : List Seen → PartId → StateId → List InstanceId
routed rows p t = map (λ r. r.instance) (filter (λ r. part_eq r.part p && (r.state.0 == t.0)) rows)

-- rows that show of each part what others show
abbrev pub Shows : List Seen → List Seen → Type 0
Shows shown rows = (p : PartId) → rows_of p shown ≡ rows_of p rows
