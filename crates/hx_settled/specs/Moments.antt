-- A view that agrees with a cluster in all that a plan looks up.
use Rattle.std.specs.Prelude.{◌≡◌, ℕ}
use Rattle.hx_ids.specs.declared.StateId.{StateId}
use Rattle.hx_ids.specs.declared.SessionId.{SessionId}
use Rattle.hx_ids.specs.declared.PartId.{PartId}
use Rattle.hx_cluster.specs.declared.description.Rule.{Rule}
use Rattle.hx_cluster.specs.declared.state.Cluster.{Cluster}
use Rattle.hx_cluster.specs.declared.planning.View.{View}
use Rattle.hx_cluster.specs.Ends.{is_live, is_shown, shown_of, instance_in, row_of, message_of}
use Rattle.hx_cluster.specs.Ends.{count_over, count_of, load_over, load_of}
use Rattle.hx_select.specs.Selection.{shown_sessions}

-- each session is shown exactly where it is live, with its instance, its rows and its messages; and
-- counts and loads are the same
pub record AgreesWith (c : Cluster) (view : View) : Type 0 where
  pub live : (s : SessionId) → is_shown view.live s ≡ is_live c.live s
  pub instances : (s : SessionId) → instance_in view.live s ≡ instance_in (shown_of c.live) s
  pub rows : (s : SessionId) (p : PartId) → row_of view.rows s p ≡ row_of c.rows s p
  pub messages : (s : SessionId) (p : PartId) → message_of view.mail s p ≡ message_of c.mail s p
  pub counts : (p : PartId) (t : StateId)
      → count_over (shown_sessions view) view.rows view.mail p t ≡ count_of c p t
  pub loads : (r : Rule) (key : ℕ) → load_over view.live view.mail r key ≡ load_of c r key
