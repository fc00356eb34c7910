-- What is kept of an event, and what holds of the columns of a history.
use Rattle.std.specs.Prelude.{◌≡◌, ◌*◌, ◌≤◌, [], take, Some}
use Rattle.hx_cluster.specs.declared.happenings.Event.{Event}
use Rattle.hx_history.specs.declared.briefs.Brief.{Brief}
use Rattle.hx_history.specs.declared.entries.Entries.TheInside.{Inside}
use Rattle.hx_history.specs.Columns.{words_of, kept_of, event_of, Fit}

-- an event is told by words alone, and by these
pub record Tells (brief : Brief) (event : Event) : Type 0 where
  pub alone : kept_of brief.kind ≡ 0
  pub words : event_of brief.kind (take (words_of brief.kind) brief.words) [] ≡ Some event

-- the columns fit, and in each there is room for so many events more
pub record AreColumns (a : Inside) : Type 0 where
  pub fit : Fit a.kinds.items a.words.items a.whole.items
  pub kinds : a.spare ≤ a.kinds.spare
  pub words : 3 * a.spare ≤ a.words.spare
  pub whole : a.spare ≤ a.whole.spare
