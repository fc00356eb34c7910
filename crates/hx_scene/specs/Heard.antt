-- What is heard of a text that comes up in a scene: all of it, or nothing where the scene is muted.
use Rattle.std.specs.Prelude.{ℕ, Bool, true, false, List, []}
use Rattle.hx_cluster.specs.declared.happenings.Event.{Event}
use Rattle.hx_print.specs.declared.roll.Roll.{Roll}
use Rattle.hx_print.specs.Texts.{event_text, entry_text}
use Rattle.hx_worlds.specs.Items.{Item, items_text}
use Rattle.hx_scene.specs.Scenes.{SceneState}

abbrev pub heard : Bool → List ℕ → List ℕ
heard true text = []
heard false text = text

-- of the log line of an event, by a roll, and as the cluster before it has it
abbrev pub event_heard : SceneState → Roll → Event → List ℕ
event_heard s roll e = heard s.muted (event_text s.spec roll e)

abbrev pub entry_heard : SceneState → Event → List ℕ
entry_heard s e = heard s.muted (entry_text s.spec s.board.cluster e)

-- of items from the scene on
abbrev pub items_heard : SceneState → List Item → List ℕ
items_heard s items = heard s.muted (items_text s.spec s.board.cluster items)
