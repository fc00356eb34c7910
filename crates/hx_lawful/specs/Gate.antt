-- When a plan's proposals pass the board's tests.
use Rattle.std.specs.Prelude.{◌≡◌, ℕ, ◌+◌, ◌≤◌, Bool, true, false, ◌==◌, ◌&&◌, ◌||◌, List, None, Some, nat_lt, unwrap_or}
use Rattle.std.specs.List.{list_any, list_all}
use Rattle.hx_lists.specs.Lists.{count}
use Rattle.hx_ids.specs.declared.StateId.{StateId}
use Rattle.hx_ids.specs.declared.SessionId.{SessionId}
use Rattle.hx_ids.specs.declared.PartId.{PartId}
use Rattle.hx_cluster.specs.declared.description.Rule.{Rule}
use Rattle.hx_cluster.specs.declared.planning.View.{View}
use Rattle.hx_cluster.specs.declared.planning.Candidate.{Candidate}
use Rattle.hx_cluster.specs.declared.state.Cluster.{Cluster}
use Rattle.hx_model.specs.declared.ModelParts.{ModelParts}
use Rattle.hx_model.specs.Model.{is_legal}
use Rattle.hx_cluster.specs.Ends.{model_of, parts_of, part_eq, is_message, is_live, is_shown, shown_of, instance_in, state_of, message_of, count_of, limit_at, load_of}
use Rattle.hx_select.specs.Selection.{goes_to}
use Rattle.hx_throttle.specs.Throttle.{counts_too}
use Rattle.hx_safe.specs.Onward.{is_front, is_same_kind, has_same_replicas}
use Rattle.hx_safe.specs.Calm.{is_among, has_stayed}
use Rattle.hx_lawful.specs.Covers.{has_nothing}

-- a view shows what the board has, but for messages that moved replicas since, and for what is gone
pub record Shows (c : Cluster) (view : View) : Type 0 where
  pub mail : list_all (is_among view.mail) c.mail ≡ true
  pub single : (s : SessionId) (p : PartId) → count (is_message s p) view.mail ≤ 1
  pub unshown : list_all (λ l. is_shown view.live l.session || has_nothing c l.session) c.live
      ≡ true
  pub instances : (s : SessionId) → is_live c.live s ≡ true → is_shown view.live s ≡ true
      → instance_in (shown_of c.live) s ≡ instance_in view.live s
  pub rows : (s : SessionId) (p : PartId) → is_live c.live s ≡ true → is_shown view.live s ≡ true
      → has_stayed (state_of c.rows s p) (state_of view.rows s p) (message_of view.mail s p) ≡ true
  pub resources : is_front is_same_kind view.ideals.resources c.resources ≡ true
  pub replicas : is_front has_same_replicas view.ideals.resources c.resources ≡ true

-- where a view has a replica: an absent one counts as at the initial state of its model
abbrev pub stands_in : List ModelParts → View → SessionId → PartId → StateId
stands_in models view s p =
    unwrap_or (state_of view.rows s p) (model_of models view.ideals.resources p.resource).initial

-- whether a candidate is of a session's part
abbrev pub is_for : SessionId → PartId → Candidate → Bool
is_for s p x = (x.session.0 == s.0) && part_eq x.part p

-- what the candidates that were sent so far may have changed of the board: they added ends in the
-- states that they go to, and loads under the keys that count them
pub record IsWithin (view : View) (b d : Cluster) (before : List Candidate) : Type 0 where
  pub rows : d.rows ≡ b.rows
  pub live : d.live ≡ b.live
  pub resources : d.resources ≡ b.resources
  pub models : d.models ≡ b.models
  pub rules : d.rules ≡ b.rules
  pub counts : (p : PartId) (t : StateId) (limit : ℕ) → limit_at b p t ≡ Some limit
      → count_of d p t ≤ count_of b p t + count (goes_to p t) before
  pub loads : (r : Rule) (key : ℕ)
      → load_of d r key ≤ load_of b r key + count (counts_too view r key) before
  pub messages : (s : SessionId) (p : PartId) → list_any (is_for s p) before ≡ false
      → message_of d.mail s p ≡ message_of b.mail s p

-- a candidate as a plan makes it: of a shown session and a part that is there, without a shown
-- message, from where the replica was shown, by a transition of the model
pub record IsFit (models : List ModelParts) (view : View) (x : Candidate) : Type 0 where
  pub shown : is_shown view.live x.session ≡ true
  pub part : nat_lt x.part.index (parts_of view.ideals.resources x.part.resource) ≡ true
  pub idle : message_of view.mail x.session x.part ≡ None
  pub from : (stands_in models view x.session x.part).0 ≡ x.from.0
  pub legal : is_legal (model_of models view.ideals.resources x.part.resource) x.from x.to ≡ true
