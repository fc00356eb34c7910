use Rattle.std.proofs.Common.{rules, ap, sym, ◌∙◌, ◌-◌, ◌≤◌, length, take, drop, subst, arith}
use Rattle.std.specs.Prelude.{true, false, ◌≡◌}
use Rattle.std.specs.Ordering.{is_eq, is_lt, is_le, ordering_index}
use Rattle.std.specs.List.Sorted.{IsPartitionPoint, IsPartitionedBy}
use Rattle.std.proofs.lemmas.List.{take_rest}
use Rattle.std.proofs.lemmas.List.Elements.{filter_agree}
use Rattle.std.proofs.lemmas.List.Sorted.{IsPartitionPoint-from_clause, IsNonDecreasingBy-drop, searchable_from_sorted}
use Rattle.hx_cluster.specs.Ends.{part_eq}
use Rattle.hx_xview.specs.Parts.{part_cmp}
use Rattle.hx_xview.proofs.Orders.{part_total, part_tied}
use Rattle.hx_xview.proofs.Spans.{less_in_front, at_most_in_front, tied_span}
use Rattle.hx_xview.proofs.parts.rows_of_part.Goals as goal

pub returns : goal.returns
returns c =
    let part = c.args.part in
    let rows = c.args.rows.now in
    let start = c.partition_point-start.result in
    let n = c.partition_point-len.result in
    let behind = drop start rows in
    let rest = take_rest rows start in
    let up = searchable_from_sorted part_total (λ r. r.part) rows part c.requires in
    let first = IsPartitionPoint-from_clause (λ r. is_lt (part_cmp r.part part)) rows start c.partition_point-start.ensures.partitioned (less_in_front (λ r. part_cmp r.part part) rows up) (λ a r q k. search rules) in
    let parted = at_most_in_front (λ r. part_cmp r.part part) behind (IsNonDecreasingBy-drop (λ r. ordering_index (part_cmp r.part part)) start rows up) in
    let second =
    IsPartitionPoint-from_clause (λ r. is_le (part_cmp r.part part)) (take (length rows - start) behind) n c.partition_point-len.ensures.partitioned (subst (λ ys. IsPartitionedBy (λ r. is_le (part_cmp r.part part)) ys) (sym rest) parted) (λ a r q k. search rules) in
    let within : n ≤ length behind = omega (arith, c.partition_point-len.ensures.bound, ap length rest) in
    ap (take n) rest
    ∙ tied_span (λ r. part_cmp r.part part) rows start n c.partition_point-start.ensures.bound within first (subst (λ ys. IsPartitionPoint (λ r. is_le (part_cmp r.part part) ≡ true) (λ r. is_le (part_cmp r.part part) ≡ false) ys n) rest second)
    ∙ filter_agree (λ r. is_eq (part_cmp r.part part)) (λ r. part_eq r.part part) (λ r. part_tied r.part part) rows
