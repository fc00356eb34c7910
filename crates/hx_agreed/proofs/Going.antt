-- Worlds of their histories that are in step, as a script goes on.
use Rattle.std.proofs.Common.{◌≡◌, ◌+◌, ◌≤◌, Bool, true, false, List, [], ◌∷◌, find, Some, refl, sym, subst, arith}
use Rattle.hx_ids.specs.declared.ControllerId.{ControllerId}
use Rattle.hx_cluster.specs.declared.description.Spec.{Spec}
use Rattle.hx_cluster.specs.declared.happenings.Event.{Event}
use Rattle.hx_cluster.specs.declared.happenings.Event.TheVariants as events
use Rattle.hx_cluster.specs.Ends.{limit_at}
use Rattle.hx_cluster.specs.Steps.{opening}
use Rattle.hx_cluster.specs.Events.{replay, IsStep}
use Rattle.hx_cluster.specs.Weight.{weight_of}
use Rattle.hx_cluster.specs.Valid.{IsValid}
use Rattle.hx_control.specs.OfBoard.{is_own}
use Rattle.hx_worlds.specs.World.{World, State}
use Rattle.hx_worlds.specs.Runs.{happened}
use Rattle.hx_safe.proofs.Whole.{IsWhole, whole_from, reached_safe, reached_ranged}
use Rattle.hx_scripted.proofs.Standing.{Last, IsScripted}
use Rattle.hx_agreed.specs.InStep.{Each, IsInStep}
use Rattle.hx_agreed.proofs.Boards.{is_of_board, board_in_step}

pub record IsGoing (spec : Spec) (last : Last) (x : State) : Type 0 where
  pub scripted : IsScripted spec last x.world
  pub in_step : IsInStep x.world

pub whole_there : (spec : Spec) (last : Last) (w : World) → IsValid spec → IsScripted spec last w → IsWhole w.cluster
whole_there spec last w valid s =
    subst IsWhole (sym s.of.cluster)
    (let c = replay (opening spec) w.history in whole_from (limit_at c) c (reached_safe spec valid w.history s.of.legal) (reached_ranged spec valid w.history s.of.legal))

-- a controller's own call is of the board
pub own_of_board : (k : ControllerId) (e : Event) → is_own k e ≡ true → is_of_board e ≡ true
own_of_board k (events.Take s id) is = cc
own_of_board k (events.Write s id outcome) is = cc
own_of_board k (events.Ack s id) is = cc
own_of_board k _ is = refl

-- an event of the board happens
pub board_happens : (spec : Spec) (valid : IsValid spec) (last : Last) (e : Event) (x : State) → IsGoing spec last x → IsStep x.world.cluster e → is_of_board e ≡ true
    → x.world.weight + weight_of e ≤ x.world.limit → IsInStep (happened e x).world
board_happens spec valid last e x g step of room = record {
  parts = board_in_step x.world.cluster e x.world.participants x.world.jobs x.world.bag (whole_there spec last x.world valid g.scripted) step of g.in_step.parts;
  participants = g.in_step.participants;
  weight = room;
}

pub each-find : {X : Type 0} (P : X → Type 0) (p : X → Bool) (xs : List X) (x : X) → Each P xs → find p xs ≡ Some x → P x
each-find P p [] x e is = cc
each-find {X} P p (y ∷ xs) x e is = one (p y) refl (each-find P p xs x e.1)
  where
    one : (b : Bool) → p y ≡ b → (find p xs ≡ Some x → P x) → P x
    one true f more = let same : y ≡ x = grind (arith, f, is) in subst P same e.0
    one false f more = more (grind (arith, f, is))
