use Rattle.std.proofs.Common.{◌≡◌, ◌++◌}
use Rattle.std.specs.Prelude.{filter}
use Rattle.hx_print.specs.Texts.{parts_at}
use Rattle.hx_sim.specs.Viewing.{is_shown_by}
use Rattle.hx_sim.proofs.Viewing.{viewed_on}
use Rattle.hx_sim.proofs.rows.add_viewed.Given as goal

abbrev pub invariant-loop-index : goal.invariant-loop-index
invariant-loop-index l =
    l.parts.items ++ viewed_on (is_shown_by l.rows l.found.dropped) l.resource.0 l.index l.found.ideal.parts
    ≡ l.fn.parts.items ++ filter (is_shown_by l.rows l.found.dropped) (parts_at l.resource.0 l.found.ideal.parts)
