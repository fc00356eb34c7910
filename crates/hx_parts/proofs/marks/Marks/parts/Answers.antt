use Rattle.std.proofs.Common.{◌≡◌, ◌∙◌, ◌≤◌, ◌++◌, length, sym, ap, subst, true, List, Bool, arith}
use Rattle.std.specs.List.{list_any}
use Rattle.hx_ids.specs.declared.PartId.{PartId}
use Rattle.hx_cluster.specs.Ends.{part_eq}
use Rattle.hx_parts.specs.Marks.{are_rising, is_marked, marked_in}
use Rattle.hx_parts.proofs.Cells.{all_marked, all_rise, parts_more, parts_done}
use Rattle.hx_parts.proofs.marks.Marks.parts.Goals as goal

pub loop-place-preserved : goal.loop-place-preserved
loop-place-preserved c =
    parts_more c.as_slice-cells.result.now c.loop-place.place c.in_ok-number.field-0 c.index-cells-place.result c.loop-place-test.true c.in_ok-number.ensures c.loop-place.parts.items c.push_marked.new.parts.items _
    c.loop-place.invariant (c.in_ok-push_marked.ensures ∙ ap (λ (row : List Bool). c.loop-place.parts.items ++ marked_in (record { 0 = c.in_ok-number.field-0 }) 0 row) (c.as_slice.ensures ∙ c.index-cells-place.is))

is_all : goal.returns-clause-rising
is_all c =
    let all : length c.as_slice-cells.result.now ≤ c.loop-place.place = omega (arith, c.loop-place-test.false) in
    subst (λ (parts : List PartId). are_rising parts ≡ true) (sym (parts_done c.as_slice-cells.result.now c.loop-place.place all c.loop-place.parts.items _ c.loop-place.invariant)) (all_rise c.as_slice-cells.result.now)

pub returns-clause-rising : goal.returns-clause-rising
returns-clause-rising c = is_all c

pub returns-clause-same : goal.returns-clause-same
returns-clause-same c p =
    let all : length c.as_slice-cells.result.now ≤ c.loop-place.place = omega (arith, c.loop-place-test.false) in
    ap (list_any (part_eq p)) (parts_done c.as_slice-cells.result.now c.loop-place.place all c.loop-place.parts.items _ c.loop-place.invariant)
    ∙ all_marked p c.as_slice-cells.result.now ∙ ap (λ (cells : List (List Bool)). is_marked cells p) (c.as_slice-cells.ensures ∙ c.self.view_is)
