-- The rows of the shown sessions tell of each part who has a replica of it.
use Rattle.std.proofs.Common.{◌≡◌, ◌≤◌, ◌++◌, not, ◌==◌, ◌||◌, Bool, true, false, cond, List, [], ◌∷◌, length, map, Option, Some, None, refl, ap, ◌∙◌, arith}
use Rattle.std.specs.Prelude.{filter, find, option_map}
use Rattle.std.specs.List.{filter_map, cons_option}
use Rattle.std.proofs.lemmas.List.{map-append, nil_from_length}
use Rattle.std.proofs.lemmas.List.Elements.{filter-append, filter_agree}
use Rattle.hx_lists.specs.Lists.{count}
use Rattle.hx_ids.specs.declared.InstanceId.{InstanceId}
use Rattle.hx_ids.specs.declared.SessionId.{SessionId}
use Rattle.hx_ids.specs.declared.StateId.{StateId}
use Rattle.hx_ids.specs.declared.PartId.{PartId}
use Rattle.hx_cluster.specs.declared.state.Row.{Row}
use Rattle.hx_cluster.specs.declared.state.Cluster.{Cluster}
use Rattle.hx_cluster.specs.declared.happenings.Seen.{Seen}
use Rattle.hx_cluster.specs.Ends.{part_eq, is_row}
use Rattle.hx_cluster.specs.Steps.{is_empty_list}
use Rattle.hx_cluster.specs.Reads.{live_shown, states_shown}
use Rattle.hx_cluster.specs.Safe.{HasRows}
use Rattle.hx_parts.specs.Parts.{items_at, HasSameAt}
use Rattle.hx_print.specs.Texts.{row_seen, is_viewed}
use Rattle.hx_sim.specs.Viewing.{seen_of, rows_seen, held_at, is_shown_by, IsViewOf}

-- where at most one item passes, it is the one that is found
found_alone : {X Y : Type 0} (p : X → Bool) (f : X → Y) (xs : List X) (ys : List Y) → count p xs ≤ 1 → map f (filter p xs) ++ ys ≡ cons_option (option_map f (find p xs)) ys
found_alone p f [] ys few = refl
found_alone {X} {Y} p f (x ∷ xs) ys few = one (found_alone p f xs ys) (p x) few
  where
    one : (count p xs ≤ 1 → map f (filter p xs) ++ ys ≡ cons_option (option_map f (find p xs)) ys) → (b : Bool) → length (cond b (x ∷ filter p xs) (filter p xs)) ≤ 1
        → map f (cond b (x ∷ filter p xs) (filter p xs)) ++ ys ≡ cons_option (option_map f (cond b (Some x) (find p xs))) ys
    one more true few = let none : filter p xs ≡ [] = nil_from_length (filter p xs) (omega (arith, few)) in ap (λ (zs : List X). f x ∷ (map f zs ++ ys)) none
    one more false few = more few

-- a state with its instance
with_instance : (i : InstanceId) (o : Option Row) → option_map {U = InstanceId × StateId} (λ r. (i, r.state)) o ≡ option_map {U = InstanceId × StateId} (λ t. (i, t)) (option_map (λ r. r.state) o)
with_instance i None = refl
with_instance i (Some r) = refl

-- a session's rows of a part
held_own : (p : PartId) (i : InstanceId) (s : SessionId) (rows : List Row)
    → held_at (seen_of i (filter (λ r. r.session.0 == s.0) rows)) p ≡ map {B = InstanceId × StateId} (λ r. (i, r.state)) (filter (is_row s p) rows)
held_own p i s [] = refl
held_own p i s (r ∷ rows) = grind (arith, held_own p i s rows)

held_append : (p : PartId) (xs ys : List Seen) → held_at (xs ++ ys) p ≡ held_at xs p ++ held_at ys p
held_append p xs ys =
    ap (λ (zs : List Seen). map (λ r. (r.instance, r.state)) zs) (filter-append (λ r. part_eq r.part p) xs ys)
    ∙ map-append (λ (r : Seen). (r.instance, r.state)) (items_at (λ r. r.part) p xs) (items_at (λ r. r.part) p ys)

-- those of all shown sessions
held_by : (c : Cluster) → HasRows c → (p : PartId) (shown : List (SessionId × InstanceId)) → held_at (rows_seen c shown) p ≡ filter_map (row_seen c.rows p) shown
held_by c h p [] = refl
held_by c h p (e ∷ shown) =
    let rest = rows_seen c shown in
    held_append p (seen_of e.1 (states_shown c e.0)) rest
    ∙ ap (λ (ys : List (InstanceId × StateId)). ys ++ held_at rest p) (held_own p e.1 e.0 c.rows)
    ∙ found_alone (is_row e.0 p) (λ r. (e.1, r.state)) c.rows (held_at rest p) (h.single e.0 p)
    ∙ ap (λ (o : Option (InstanceId × StateId)). cons_option o (held_at rest p)) (with_instance e.1 (find (is_row e.0 p) c.rows))
    ∙ ap (λ (ys : List (InstanceId × StateId)). cons_option (row_seen c.rows p e) ys) (held_by c h p shown)

-- so rows that have the same of each part tell a cluster's view
pub view_kept : (c : Cluster) → HasRows c → (rows kept : List Seen) → rows ≡ rows_seen c (live_shown c) → HasSameAt (λ (r : Seen). r.part) rows kept → IsViewOf kept c
view_kept c h rows kept are same p =
    ap (λ (xs : List Seen). map (λ r. (r.instance, r.state)) xs) (same p)
    ∙ ap (λ (xs : List Seen). held_at xs p) are
    ∙ held_by c h p (live_shown c)

-- and show the parts that it shows
empty_map : {X Y : Type 0} (f : X → Y) (xs : List X) → is_empty_list xs ≡ is_empty_list (map f xs)
empty_map f [] = refl
empty_map f (x ∷ xs) = refl

pub shown_as : (c : Cluster) (rows : List Seen) → IsViewOf rows c → (dropped : Bool) (p : PartId) → is_shown_by rows dropped p ≡ is_viewed c dropped p
shown_as c rows view dropped p =
    ap (λ (b : Bool). not dropped || not b)
    (empty_map (λ (r : Seen). (r.instance, r.state)) (items_at (λ r. r.part) p rows) ∙ ap (λ (hs : List (InstanceId × StateId)). is_empty_list hs) (view p))

pub all_shown_as : (c : Cluster) (rows : List Seen) → IsViewOf rows c → (dropped : Bool) (ps : List PartId) → filter (is_shown_by rows dropped) ps ≡ filter (is_viewed c dropped) ps
all_shown_as c rows view dropped ps = filter_agree (is_shown_by rows dropped) (is_viewed c dropped) (shown_as c rows view dropped) ps
