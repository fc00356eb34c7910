use Rattle.std.proofs.Common.{sym, ◌∙◌}
use Rattle.hx_cluster.specs.Ends.{is_row}
use Rattle.hx_records.proofs.Ending.{of_row, the_rows, row_within, row_own, part_goes, part_fewer, part_ended}
use Rattle.hx_records.proofs.Records.end_rows.Goals as goal

pub returns : goal.returns
returns c = c.in_default.ensures.rest ∙ part_ended the_rows (of_row c.args.session) _ _ c.loop-row.invariant (sym c.pop_row.ensures.first ∙ c.in_default.is)

pub loop-row-smaller : goal.loop-row-smaller
loop-row-smaller c = part_fewer the_rows (of_row c.args.session) (is_row c.args.session c.in-Some._row.part) _ _ _ (row_own _ c.in-Some._row) (sym c.pop_row.ensures.first ∙ c.in-Some.is) c.in-Some.ensures.rest

pub loop-row-preserved : goal.loop-row-preserved
loop-row-preserved c = part_goes the_rows (of_row c.args.session) (is_row c.args.session c.in-Some._row.part) _ _ _ (row_within _ _) c.loop-row.invariant c.in-Some.ensures.rest
