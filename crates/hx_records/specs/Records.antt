-- What contracts see of the records of a cluster, and what holds of them.
use Rattle.std.specs.Prelude.{◌≡◌, ℕ, ◌-◌, ◌≤◌, true, not, List, [], length, take, filter, Option, None, slice_index_or}
use Rattle.std.specs.List.{list_all}
use Rattle.hx_ids.specs.declared.SessionId.{SessionId}
use Rattle.hx_ids.specs.declared.InstanceId.{InstanceId}
use Rattle.hx_ids.specs.declared.MsgId.{MsgId}
use Rattle.hx_cluster.specs.declared.state.Cluster.{Cluster}
use Rattle.hx_cluster.specs.declared.happenings.Proposal.{Proposal}
use Rattle.hx_cluster.specs.declared.happenings.Placed.{Placed}
use Rattle.hx_cluster.specs.Steps.{session_of}
use Rattle.hx_cluster.specs.Messages.{has_id, placed_of, after_proposal, placed_all, after_proposals}
use Rattle.hx_cluster.specs.Events.{has_part, is_proposable}
use Rattle.hx_slots.specs.Tallies.{IsCounted}
use Rattle.hx_safe.proofs.Kept.{IsKept}
use Rattle.hx_records.specs.declared.Records.TheInside.{Inside}

abbrev pub seen : Inside → Cluster
seen a = record a.rest { live = a.sessions.live; rows = a.slots.rows; mail = a.slots.mail }

-- the live session that sits at an instance's place
abbrev pub seat_at : List (Option SessionId) → InstanceId → Option SessionId
seat_at seats i = slice_index_or seats i.0 None

-- the rest has no sessions, rows and messages of its own, the live sessions are counted, each instance's live session sits at its place, and the counts are those of the
-- cluster
pub record AreRecords (a : Inside) : Type 0 where
  pub live : a.rest.live ≡ []
  pub rows : a.rest.rows ≡ []
  pub mail : a.rest.mail ≡ []
  pub count : a.live ≡ length a.sessions.live
  pub next : a.sessions.next ≡ a.rest.next_session
  pub places : length a.seats ≡ length a.rest.instances
  pub seats : (i : InstanceId) → seat_at a.seats i ≡ session_of (seen a) i
  pub counted : IsCounted (seen a) a.counts

-- with the message that was sent last taken back
abbrev pub unsent : Cluster → SessionId → MsgId → Cluster
unsent c s id = record c { mail = filter (λ m. not (has_id s id m)) c.mail; next_msg = c.next_msg - 1; change = c.change - 1 }

-- a proposal got an answer in a cluster, and led to another one
pub record IsAnswered (c : Cluster) (q : Proposal) (answer : Placed) (new : Cluster) : Type 0 where
  pub kept : IsKept c
  pub range : has_part c q.part ≡ true
  pub placed : placed_of c q ≡ answer
  pub after : after_proposal c q ≡ new

-- the first proposals got these answers in a cluster, and led to another one
pub record IsPlacedFrom (c : Cluster) (qs : List Proposal) (placed : List Placed) (new : Cluster) : Type 0 where
  pub kept : IsKept c
  pub range : list_all (is_proposable c) qs ≡ true
  pub few : length placed ≤ length qs
  pub answers : placed_all c (take (length placed) qs) ≡ placed
  pub after : after_proposals c (take (length placed) qs) ≡ new
