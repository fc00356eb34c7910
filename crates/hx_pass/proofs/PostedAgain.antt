-- The rows that a turn posts are those of an earlier view, but for the parts that changed.
use Rattle.std.proofs.Common.{◌≡◌, ◌∙◌, Bool, true, false, List, refl, sym, ap, arith}
use Rattle.std.specs.Prelude.{map, unwrap_or, if◌then◌else◌}
use Rattle.std.specs.Cmp.{IsStrictWeakOrder}
use Rattle.std.proofs.lemmas.Bool.Decides.{nat_tests}
use Rattle.hx_lists.specs.Lists.{sort_by}
use Rattle.hx_ids.specs.declared.PartId.{PartId}
use Rattle.hx_ids.specs.declared.SessionId.{SessionId}
use Rattle.hx_ids.specs.declared.InstanceId.{InstanceId}
use Rattle.hx_cluster.specs.declared.state.Row.{Row}
use Rattle.hx_cluster.specs.declared.planning.View.{View}
use Rattle.hx_cluster.specs.declared.happenings.Seen.{Seen}
use Rattle.hx_cluster.specs.Ends.{part_eq, part_before, instance_in}
use Rattle.hx_parts.specs.Parts.{items_at, IsByPart}
use Rattle.hx_pass.specs.Turns.{seen_before, seen_of, posted_of}
use Rattle.hx_parts.specs.Marks.{IsSpliced}
use Rattle.hx_pass.specs.Local.{IsAlike, ShowSame, DifferWithin, narrowed}
use Rattle.hx_parts.proofs.Rising.{rises-sort}
use Rattle.hx_pass.proofs.Sorted.{rises-wider, sorted_rises, sort-filter}
use Rattle.hx_pass.proofs.Filtered.{map-agree, filter-map}
use Rattle.hx_pass.proofs.OneByPart.{one_by_part}
use Rattle.hx_pass.proofs.FoundAgain.{narrowed_alike, narrowed_shows}

-- posted rows come one before another by a strict weak order
seen_order : IsStrictWeakOrder seen_before
seen_order = record {
  one_way = λ x y e. grind (arith, nat_tests, e);
  chain = λ x y z e h. grind (arith, nat_tests, e, h);
}

-- so they stand in order of part
behind : (a b : Seen) → seen_before a b ≡ false → part_before a.part b.part ≡ false
behind a b e = grind (arith, nat_tests, e)

pub posted_by_part : (v : View) → IsByPart (λ s. s.part) (posted_of v)
posted_by_part v =
    let before : Seen → Seen → Bool = λ a b. part_before a.part b.part in
    sorted_rises before (posted_of v) (rises-wider seen_before before behind (posted_of v) (rises-sort seen_before seen_order (map (seen_of v) v.rows)))

-- those of a part are the rows of that part
posted_at : (v : View) (p : PartId) → items_at (λ s. s.part) p (posted_of v) ≡ sort_by seen_before (map (seen_of v) (items_at (λ r. r.part) p v.rows))
posted_at v p =
    let at : Seen → Bool = λ s. part_eq s.part p in
    sort-filter seen_before seen_order at (map (seen_of v) v.rows)
    ∙ ap (sort_by seen_before) (filter-map at (seen_of v) v.rows)

-- and a row is posted the same of views with the same sessions
seen_alike : (v w : View) → IsAlike v w → (r : Row) → seen_of v r ≡ seen_of w r
seen_alike v w alike r =
    let seen : List (SessionId × InstanceId) → Seen = λ live. record { instance = unwrap_or (instance_in live r.session) (record { 0 = 0 }); part = r.part; state = r.state } in
    ap seen alike.live

-- views that are alike and show the same of a part post the same rows of it
pub same_posted : (v w : View) (p : PartId) → IsAlike v w → ShowSame v w p → items_at (λ s. s.part) p (posted_of v) ≡ items_at (λ s. s.part) p (posted_of w)
same_posted v w p alike same =
    posted_at v p
    ∙ ap (sort_by seen_before) (map-agree (seen_of v) (seen_of w) (seen_alike v w alike) (items_at (λ r. r.part) p v.rows))
    ∙ ap (λ (rows : List Row). sort_by seen_before (map (seen_of w) rows)) same.rows
    ∙ sym (posted_at w p)

-- so a list with the old ones of the parts that stayed and the new ones of the others is all
pub posted_again : (marked : PartId → Bool) (v w : View) → DifferWithin marked v w → (out : List Seen)
    → IsSpliced (λ s. s.part) marked (posted_of v) (posted_of (narrowed marked w)) out → out ≡ posted_of w
posted_again marked v w differ out spliced = one_by_part (λ s. s.part) (posted_of w) out (posted_by_part w) spliced.by_part (λ p. spliced.at p ∙ one p (marked p) refl)
  where
    new : List Seen
    new = posted_of (narrowed marked w)

    one : (p : PartId) (b : Bool) → marked p ≡ b
        → (if b then items_at (λ s. s.part) p new else items_at (λ s. s.part) p (posted_of v)) ≡ items_at (λ s. s.part) p (posted_of w)
    one p true m = same_posted (narrowed marked w) w p (narrowed_alike marked w) (narrowed_shows marked w p m)
    one p false m = same_posted v w p differ.alike (differ.same p m)
