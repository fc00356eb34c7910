-- What holds between a cluster and a later one where no dispatch came between them.
use Rattle.std.specs.Prelude.{◌≡◌, Bool, true, false, ◌==◌, ◌||◌, List, Option, None, Some}
use Rattle.std.specs.List.{list_any, list_all}
use Rattle.std.specs.Option.{option_map_or}
use Rattle.hx_ids.specs.declared.StateId.{StateId}
use Rattle.hx_ids.specs.declared.SessionId.{SessionId}
use Rattle.hx_ids.specs.declared.PartId.{PartId}
use Rattle.hx_cluster.specs.declared.state.Message.{Message}
use Rattle.hx_cluster.specs.declared.state.Cluster.{Cluster}
use Rattle.hx_cluster.specs.declared.happenings.Event.{Event}
use Rattle.hx_cluster.specs.declared.happenings.Event.TheVariants as events
use Rattle.hx_cluster.specs.Ends.{is_live, state_of, message_of}
use Rattle.hx_cluster.specs.Messages.{is_same}
use Rattle.hx_cluster.specs.Safe.{is_row_written}

-- a message stands in a list, but for its marks
abbrev pub is_among : List Message → Message → Bool
is_among mail m = list_any (is_same m) mail

abbrev pub is_same_state : Option StateId → Option StateId → Bool
is_same_state None None = true
is_same_state (Some s) (Some t) = s.0 == t.0
is_same_state a b = false

-- a replica stands where it stood, or where a message that it had put it
abbrev pub has_stayed : Option StateId → Option StateId → Option Message → Bool
has_stayed now before m =
    is_same_state now before || option_map_or (λ x. is_row_written x now) m false

-- no message is new, and each replica of a live session stands where it stood or where its message
-- put it
pub record IsCalm (c d : Cluster) : Type 0 where
  pub mail : list_all (is_among c.mail) d.mail ≡ true
  pub rows : (s : SessionId) (p : PartId) → is_live d.live s ≡ true
      → has_stayed (state_of d.rows s p) (state_of c.rows s p) (message_of c.mail s p) ≡ true

abbrev pub is_dispatch : Event → Bool
is_dispatch (events.Dispatch k epoch pass proposals answer) = true
is_dispatch _ = false
