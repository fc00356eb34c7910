-- Worlds that are put together of parts, with nothing open.
use Rattle.std.specs.Prelude.{◌≡◌, ◌≤◌, true, [], ◌||◌, map, is_none, nat_lt}
use Rattle.std.specs.List.{All, list_all}
use Rattle.hx_cluster.specs.declared.description.Spec.{Spec}
use Rattle.hx_replicas.specs.Participants.{Participant}
use Rattle.hx_replicas.specs.Layout.{AreDistinct}
use Rattle.hx_worlds.specs.World.{World}
use Rattle.hx_worlds.specs.Agree.{Agree, cluster_of, board_of, stationed_from}

-- a participant has one slot for a part, which knows the initial state of its messages only once it accepted one
pub record IsOrderly (w : Participant) : Type 0 where
  pub distinct : AreDistinct (map (λ x. x.part) w.slots)
  pub used : list_all (λ x. is_none x.initial || nat_lt 0 x.last.0) w.slots ≡ true

-- the world of a board, of controllers and of participants that agree
pub record IsOfParts (spec : Spec) (w : World) : Type 0 where
  pub cluster : w.cluster ≡ cluster_of (board_of w)
  pub jobs : w.jobs ≡ []
  pub bag : w.bag ≡ []
  pub weight : w.weight ≤ w.limit
  pub orderly : All IsOrderly w.participants
  pub agree : Agree spec (board_of w) w.controllers (stationed_from 0 w.participants)
