-- What contracts see of the slots.
use Rattle.std.specs.Prelude.{List}
use Rattle.hx_cluster.specs.declared.state.Row.{Row}
use Rattle.hx_cluster.specs.declared.state.Message.{Message}

-- the rows by session, then part, and the pending messages by number
pub record Kept : Type 0 where
  pub rows : List Row
  pub mail : List Message
