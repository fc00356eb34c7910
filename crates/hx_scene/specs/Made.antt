-- An operation that makes one event and is done with it, which is printed after it.
use Rattle.std.specs.Prelude.{◌≡◌, ℕ, List, ◌++◌}
use Rattle.hx_cluster.specs.declared.happenings.Event.{Event}
use Rattle.hx_text.specs.Texts.{PutsFront}
use Rattle.hx_worlds.specs.World.{State}
use Rattle.hx_worlds.specs.Runs.{Deed}
use Rattle.hx_scene.specs.Scenes.{SceneState}
use Rattle.hx_scene.specs.Advances.{no_roll}
use Rattle.hx_scene.specs.Heard.{event_heard, entry_heard}
use Rattle.hx_scene.specs.Doing.{Ends, IsCut}

-- the event was made, and the rest of the operation done: once its line is printed the operation is at its end
pub record IsMadeBy (f : State → Deed) (e : Event) (s u : SceneState) : Type 0 where
  pub line : event_heard u no_roll e ≡ entry_heard s e
  pub ends : (p q : List ℕ) → q ≡ p ++ entry_heard s e → Ends f s p tt u q
  pub cut : (p q : List ℕ) → PutsFront (entry_heard s e) p q → IsCut f s p u q
