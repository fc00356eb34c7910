-- What an operation on a world comes to: the items that it brought, and the world as it then is. It goes on, or it stops because the
-- history has no room.
use Rattle.std.specs.Prelude.{ℕ, ◌+◌, Bool, true, false, List, [], ◌∷◌, ◌++◌, if◌then◌else◌, nat_lt}
use Rattle.hx_cluster.specs.declared.happenings.Event.{Event}
use Rattle.hx_cluster.specs.Events.{next}
use Rattle.hx_cluster.specs.Weight.{weight_of}
use Rattle.hx_print.specs.declared.Note.{Note}
use Rattle.hx_print.specs.Texts.{note_text}
use Rattle.hx_worlds.specs.declared.Voice.{Voice}
use Rattle.hx_worlds.specs.declared.Voice.TheVariants.{Loud, Quiet}
use Rattle.hx_worlds.specs.Items.{Item, Happens, Says}
use Rattle.hx_worlds.specs.World.{State}

-- an operation that goes on has an answer
pub data Run (A : Type 0) : Type 0 where
  GoesOn : List Item → State → A → Run A
  Stops : List Item → State → Run A

-- one without an answer
abbrev pub Deed : Type 0
Deed = Run (Unit {0})

abbrev pub gives : {A : Type 0} → State → A → Run A
gives x answer = GoesOn [] x answer

abbrev pub done : State → Deed
done x = gives x tt

-- the items that it brought, the state that it left, and whether it stopped
abbrev pub items_of : {A : Type 0} → Run A → List Item
items_of (GoesOn items x answer) = items
items_of (Stops items x) = items

abbrev pub state_of : {A : Type 0} → Run A → State
state_of (GoesOn items x answer) = x
state_of (Stops items x) = x

abbrev pub is_stopped : {A : Type 0} → Run A → Bool
is_stopped (GoesOn items x answer) = false
is_stopped (Stops items x) = true

-- what comes after items
abbrev pub after_items : {A : Type 0} → List Item → Run A → Run A
after_items items (GoesOn more x answer) = GoesOn (items ++ more) x answer
after_items items (Stops more x) = Stops (items ++ more) x

-- one operation, and where it goes on another; after one that stops nothing is done
abbrev pub go_on : {A B : Type 0} → Run A → (A → State → Run B) → Run B
go_on (GoesOn items x answer) f = after_items items (f answer x)
go_on (Stops items x) f = Stops items x

abbrev pub and_then : {B : Type 0} → Deed → (State → Run B) → Run B
and_then r f = go_on r (λ _ x. f x)

-- an event happens
abbrev pub happened : Event → State → State
happened e x = record x {
  world = record x.world { cluster = next x.world.cluster e; history = x.world.history ++ e ∷ []; weight = x.world.weight + weight_of e };
}

abbrev pub make : Event → State → Deed
make e x = GoesOn (Happens e ∷ []) (happened e x) tt

-- where there is room for it
abbrev pub happen : Event → State → Deed
happen e x = if nat_lt x.world.limit (x.world.weight + weight_of e) then Stops [] x else make e x

-- a line that is no entry of the log is said, where there is room for its charge
abbrev pub charged : ℕ → State → State
charged charge x = record x { world = record x.world { weight = x.world.weight + charge } }

abbrev pub say : ℕ → List ℕ → State → Deed
say charge text x =
    if nat_lt x.world.limit (x.world.weight + charge) then Stops [] x
    else GoesOn (Says charge text ∷ []) (charged charge x) tt

abbrev pub note : Voice → Note → State → Deed
note Quiet n x = done x
note (Loud line) n x = say 1 (note_text x.world.spec line n) x

abbrev pub say_if_loud : Voice → ℕ → List ℕ → State → Deed
say_if_loud Quiet charge text x = done x
say_if_loud (Loud line) charge text x = say charge text x

-- an operation for each item of a list, in order
abbrev pub for_each : {X : Type 0} → (X → State → Deed) → List X → State → Deed
for_each f [] x = done x
for_each f (i ∷ is) x = and_then (f i x) (λ y. for_each f is y)
