-- Worlds that stand as their histories tell.
use Rattle.std.specs.Prelude.{◌≡◌, Bool, true, List, length}
use Rattle.std.specs.List.{list_any, list_all}
use Rattle.hx_ids.specs.declared.ControllerId.{ControllerId}
use Rattle.hx_cluster.specs.declared.description.Spec.{Spec}
use Rattle.hx_cluster.specs.declared.state.Message.{Message}
use Rattle.hx_cluster.specs.declared.happenings.Event.{Event}
use Rattle.hx_cluster.specs.Steps.{opening}
use Rattle.hx_cluster.specs.Messages.{has_id}
use Rattle.hx_cluster.specs.Events.{replay, IsLegal}
use Rattle.hx_pass.specs.Lawful.{fetched_from}
use Rattle.hx_replicas.specs.declared.slots.Work.{Work}
use Rattle.hx_replicas.specs.declared.slots.Work.TheVariants.{Accepted}
use Rattle.hx_replicas.specs.Participants.{Participant, Slot}
use Rattle.hx_control.specs.Controllers.{Controller}
use Rattle.hx_control.specs.OfBoard.{OfBoard}
use Rattle.hx_worlds.specs.World.{World, controller_of}

-- a message was fetched, and so was what a participant has accepted
abbrev pub is_fetched : Spec → List Event → Message → Bool
is_fetched spec h m = list_any (has_id m.session m.id) (fetched_from (opening spec) h)

abbrev pub is_work_fetched : Spec → List Event → Work → Bool
is_work_fetched spec h (Accepted m) = is_fetched spec h m
is_work_fetched spec h _ = true

abbrev pub is_slot_fetched : Spec → List Event → Slot → Bool
is_slot_fetched spec h x = is_work_fetched spec h x.work

abbrev pub has_fetched : Spec → List Event → Participant → Bool
has_fetched spec h w = list_all (is_slot_fetched spec h) w.slots

-- a controller has its number, and its turn is one of the board
pub record IsTurnOf (spec : Spec) (h : List Event) (k : ControllerId) (x : Controller) : Type 0 where
  pub id : x.id ≡ k
  pub of_board : OfBoard spec h x

-- a world's history is legal. It led to the world's cluster, and to the turns of its controllers; and all in the bag was fetched, and
-- all that participants have accepted
pub record IsOfItsHistory (spec : Spec) (w : World) : Type 0 where
  pub given : w.spec ≡ spec
  pub legal : IsLegal (opening spec) w.history
  pub cluster : w.cluster ≡ replay (opening spec) w.history
  pub controllers : length w.controllers ≡ spec.controllers
  pub turns : (k : ControllerId) → IsTurnOf spec w.history k (controller_of w k)
  pub bag : list_all (is_fetched spec w.history) w.bag ≡ true
  pub accepted : list_all (has_fetched spec w.history) w.participants ≡ true
