-- What holds of a controller's turn along a history, whatever stands between its calls.
use Rattle.std.specs.Prelude.{◌≡◌, ◌≤◌, Bool, true, false, not, ◌==◌, ◌&&◌, ◌||◌, List, [], ◌∷◌, length, nat_lt, if◌then◌else◌}
use Rattle.std.specs.List.{list_any, list_all}
use Rattle.hx_lists.specs.Lists.{count}
use Rattle.hx_ids.specs.declared.SessionId.{SessionId}
use Rattle.hx_cluster.specs.declared.planning.View.{View}
use Rattle.hx_cluster.specs.declared.state.Cluster.{Cluster}
use Rattle.hx_cluster.specs.Ends.{is_live, shown_of, is_shown, instance_in}
use Rattle.hx_cluster.specs.Reads.{ideals_shown, nothing_shown}
use Rattle.hx_cluster.specs.Views.{is_well_formed}
use Rattle.hx_pass.specs.Turns.{Call, Live, Mail, States, Ideals, Send, Post, same_call, is_first, Turn}
use Rattle.hx_safe.specs.Onward.{is_front, is_same_kind, has_same_replicas}

-- which call follows another, and which are last
abbrev pub may_follow : Call → Call → Bool
may_follow (Mail s) (Mail t) = true
may_follow (Mail s) (States t) = true
may_follow (States s) (States t) = true
may_follow (States s) Ideals = true
may_follow Ideals Send = true
may_follow Send Post = true
may_follow a b = false

abbrev pub may_end : Call → Bool
may_end Live = true
may_end Post = true
may_end _ = false

-- the mail of all sessions is read before the states of any; then come ideals, send and post. What
-- follows live isn't known before it
abbrev pub is_in_order_from : Call → List Call → Bool
is_in_order_from a [] = may_end a
is_in_order_from a (b ∷ rest) = may_follow a b && is_in_order_from b rest

abbrev pub is_in_order : List Call → Bool
is_in_order [] = true
is_in_order (a ∷ rest) = is_in_order_from a rest

-- a read of a session that is left has shown nothing yet, and the session was shown
abbrev pub is_unread : View → Call → Bool
is_unread view (Mail s) = is_shown view.live s && not (list_any (λ m. m.session.0 == s.0) view.mail)
is_unread view (States s) =
    is_shown view.live s && not (list_any (λ r. r.session.0 == s.0) view.rows)
is_unread view _ = true

-- only the send and the post are left
abbrev pub is_read : Turn → Bool
is_read t = is_first Send t.left || is_first Post t.left

-- what was shown; until ideals are read, with those that the board has
abbrev pub view_with : Cluster → Turn → View
view_with c t = if is_read t then t.view else record t.view { ideals = ideals_shown c }

pub record IsTurn (c : Cluster) (t : Turn) : Type 0 where
  pub epoch : t.begun.epoch.0 ≤ c.epoch.0
  pub order : is_in_order t.left ≡ true
  pub once : (call : Call) → count (same_call call) t.left ≤ 1
  pub unread : list_all (is_unread t.view) t.left ≡ true
  pub nothing : is_first Live t.left ≡ true → t.view ≡ nothing_shown
  -- the states of a session are read after its mail
  pub mail_first : (s : SessionId) → list_any (same_call (Mail s)) t.left ≡ true
      → list_any (same_call (States s)) t.left ≡ true
  -- shown sessions have old numbers, and those that are live their own instances
  pub below : list_all (λ e. nat_lt e.0.0 c.next_session) t.view.live ≡ true
  pub own : (s : SessionId) → is_live c.live s ≡ true → is_shown t.view.live s ≡ true
      → instance_in (shown_of c.live) s ≡ instance_in t.view.live s
  -- each shown message and row is of a shown session and of a part that is there, one for each, and
  -- the states are the model's
  pub well_formed : is_well_formed c.models (length c.instances) (view_with c t) ≡ true
  -- the board has the resources that were shown
  pub resources : is_read t ≡ true
      → is_front is_same_kind t.view.ideals.resources c.resources ≡ true
  pub replicas : is_read t ≡ true
      → is_front has_same_replicas t.view.ideals.resources c.resources ≡ true
