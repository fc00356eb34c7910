-- What the lines of a script bring: events, and texts that are no entries of the log. Text and history are functions of it.
use Rattle.std.specs.Prelude.{ℕ, ◌+◌, List, [], ◌∷◌, ◌++◌}
use Rattle.hx_cluster.specs.declared.description.Spec.{Spec}
use Rattle.hx_cluster.specs.declared.state.Cluster.{Cluster}
use Rattle.hx_cluster.specs.declared.happenings.Event.{Event}
use Rattle.hx_cluster.specs.Events.{next}
use Rattle.hx_cluster.specs.Weight.{weight_of}
use Rattle.hx_print.specs.Texts.{entry_text}

-- an event, or a text with what it is charged
pub data Item : Type 0 where
  Happens : Event → Item
  Says : ℕ → List ℕ → Item

-- the events among items
abbrev pub events_in : List Item → List Event
events_in [] = []
events_in (Happens e ∷ is) = e ∷ events_in is
events_in (Says charge text ∷ is) = events_in is

-- what they print from a cluster on: an event adds its entry to the log
abbrev pub items_text : Spec → Cluster → List Item → List ℕ
items_text spec c [] = []
items_text spec c (Happens e ∷ is) = entry_text spec c e ++ items_text spec (next c e) is
items_text spec c (Says charge text ∷ is) = text ++ items_text spec c is

-- what they weigh
abbrev pub items_weight : List Item → ℕ
items_weight [] = 0
items_weight (Happens e ∷ is) = weight_of e + items_weight is
items_weight (Says charge text ∷ is) = charge + items_weight is
