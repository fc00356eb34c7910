use Rattle.std.proofs.Common.{◌≡◌, ◌++◌, ◌∙◌, ◌≤◌, ◌&&◌, List, length, get_or, map, nat_lt, true, refl, sym, ap, subst, arith}
use Rattle.std.specs.List.{list_any}
use Rattle.std.specs.List.Sorted.{IsSortedBy}
use Rattle.hx_ids.specs.declared.PartId.{PartId}
use Rattle.hx_cluster.specs.declared.state.Row.{Row}
use Rattle.hx_cluster.specs.declared.planning.View.{View}
use Rattle.hx_cluster.specs.declared.happenings.Seen.{Seen}
use Rattle.hx_cluster.specs.Ends.{part_eq}
use Rattle.hx_parts.specs.Parts.{items_at, IsByPart}
use Rattle.hx_pass.proofs.Filtered.{filter-map}
use Rattle.hx_pass.proofs.PostedAgain.{posted_by_part}
use Rattle.hx_parts.proofs.InPlace.{first_part}
use Rattle.hx_pass.specs.Turns.{posted_of, seen_of}
use Rattle.hx_pass.proofs.Among.{parts_more, parts_all, rows_posted, if_made}
use Rattle.hx_pass.proofs.narrow.posted_among.Goals as goal
use Rattle.hx_pass.proofs.narrow.posted_among.Goals.{Then-rise}

pub loop-part-preserved : goal.loop-part-preserved
loop-part-preserved c =
    let view = c.args.index.now in
    let live = c.in_ok-live.ensures ∙ c.as_slice.ensures ∙ ap (λ (v : View). v.live) c.view-view.ensures in
    let part = get_or c.args.parts.now c.loop-part.part-index first_part in
    let front = c.loop-part.rows.items in
    parts_more (λ s. s.part) (map (seen_of view) view.rows) c.args.parts.now c.loop-part.part-index first_part part c.loop-part-test.true refl
    front c.push_rows.new.seen.items _ c.loop-part.invariant
    (c.in_ok-push_rows.ensures view live
    ∙ ap (λ (rows : List Row). front ++ map (seen_of view) rows) (c.rows_at.ensures ∙ ap (λ (v : View). items_at (λ row. row.part) part v.rows) c.shown.ensures)
    ∙ ap (λ (seen : List Seen). front ++ seen) (sym (filter-map (λ s. part_eq s.part part) (seen_of view) view.rows)))

-- the rows of the parts, which rise
risen : (c : Then-rise) → IsByPart (λ s. s.part) c.loop-part.rows.items
    × ((p : PartId) → list_any (part_eq p) c.args.parts.now ≡ true → items_at (λ s. s.part) p c.loop-part.rows.items ≡ items_at (λ s. s.part) p (posted_of c.args.index.now))
risen c =
    let view = c.args.index.now in
    let parts = c.args.parts.now in
    let rows = c.loop-part.rows.items in
    let all : length parts ≤ c.loop-part.part-index = omega (arith, c.loop-part-test.false) in
    let rise : IsSortedBy (λ a b. part_eq a.part b.part && nat_lt a.instance.0 b.instance.0) rows =
    subst (λ (rs : List Seen). IsSortedBy (λ a b. part_eq a.part b.part && nat_lt a.instance.0 b.instance.0) rs) c.as_slice-2.ensures.value (c.rise.ensures c.if-rise.true) in
    rows_posted view parts c.requires rows (parts_all (λ s. s.part) (map (seen_of view) view.rows) parts c.loop-part.part-index all rows _ c.loop-part.invariant) rise

pub returns-then-rise-clause-by_part : goal.returns-then-rise-clause-by_part
returns-then-rise-clause-by_part c = (risen (goal.at.returns-then-rise-clause-by_part c).Then-rise).0

pub returns-then-rise-clause-at : goal.returns-then-rise-clause-at
returns-then-rise-clause-at c = (risen (goal.at.returns-then-rise-clause-at c).Then-rise).1

pub returns-clause-by_part : goal.returns-clause-by_part
returns-clause-by_part c =
    if_made _ _ (λ rows is. subst (λ (rs : List Seen). IsByPart (λ s. s.part) rs) (sym is) (posted_by_part c.view-view.result.now)) c.posted.result c.posted.ensures
