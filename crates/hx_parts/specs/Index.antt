-- A view in order of part.
use Rattle.std.specs.Prelude.{ℕ, ◌<◌, ◌^◌, List, length, map}
use Rattle.hx_ids.specs.declared.PartId.{PartId}
use Rattle.hx_ids.specs.declared.SessionId.{SessionId}
use Rattle.hx_ids.specs.declared.StateId.{StateId}
use Rattle.hx_cluster.specs.declared.state.Row.{Row}
use Rattle.hx_cluster.specs.declared.state.Message.{Message}
use Rattle.hx_cluster.specs.declared.planning.View.{View}
use Rattle.hx_cluster.specs.Ends.{count_over}
use Rattle.hx_parts.specs.Parts.{HasSameAt}

-- the lists kept have the same of each part as those of the view
pub record IsIndex (view : View) (kept_rows : List Row) (kept_mail : List Message) (kept_resets : List (SessionId × PartId)) : Type 0 where
  pub few : length view.live < 2 ^ 32
  pub rows : HasSameAt (λ r. r.part) view.rows kept_rows
  pub mail : HasSameAt (λ m. m.part) view.mail kept_mail
  pub resets : HasSameAt (λ f. f.1) view.ideals.resets kept_resets

-- how many of the sessions that a view shows have a state among the ends of a part
abbrev pub count_in : View → PartId → StateId → ℕ
count_in view p t = count_over (map (λ e. e.0) view.live) view.rows view.mail p t
