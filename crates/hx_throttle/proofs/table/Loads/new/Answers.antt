use Rattle.std.proofs.Common.{rules}
use Rattle.hx_throttle.proofs.Rows.{no_loads}
use Rattle.hx_throttle.proofs.table.Loads.new.Goals as goal

pub returns : goal.returns
returns c = no_loads _ _ c.new.result (c.in_ok-vec.ensures.items_if_clones_equal (λ y e. search rules)) c.new.ensures.loads
