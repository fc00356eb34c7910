use Rattle.std.proofs.Common.{ap, ◌∙◌}
use Rattle.hx_xview.specs.Views.{is_view}
use Rattle.hx_xview.proofs.InOrder.{views_by_part}
use Rattle.hx_xview.proofs.views.ExternalView.holders.Goals as goal

pub rows_of_part-requires : goal.rows_of_part-requires
rows_of_part-requires c = views_by_part c.as_slice.result.now (ap is_view c.as_slice.ensures.value ∙ c.self.invariant)
