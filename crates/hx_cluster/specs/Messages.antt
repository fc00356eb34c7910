-- How proposals become messages, and how a message is taken, written and acknowledged.
use Rattle.std.specs.Prelude.{ℕ, ◌+◌, Bool, true, false, not, ◌==◌, ◌&&◌, ◌||◌, List, [], ◌∷◌, ◌++◌, map, filter, find, Option, None, Some, if◌then◌else◌, is_none, unwrap_or, slice_get, slice_set, nat_lt, nat_le}
use Rattle.std.specs.List.{list_any}
use Rattle.hx_lists.specs.Lists.{insert_by}
use Rattle.hx_ids.specs.declared.StateId.{StateId}
use Rattle.hx_ids.specs.declared.ControllerId.{ControllerId}
use Rattle.hx_ids.specs.declared.PassNo.{PassNo}
use Rattle.hx_ids.specs.declared.SessionId.{SessionId}
use Rattle.hx_ids.specs.declared.MsgId.{MsgId}
use Rattle.hx_ids.specs.declared.PartId.{PartId}
use Rattle.hx_model.specs.Model.{is_legal, error, dropped}
use Rattle.hx_cluster.specs.declared.description.Rule.{Rule}
use Rattle.hx_cluster.specs.declared.state.Row.{Row}
use Rattle.hx_cluster.specs.declared.state.Message.{Message}
use Rattle.hx_cluster.specs.declared.state.Cluster.{Cluster}
use Rattle.hx_cluster.specs.declared.happenings.Proposal.{Proposal}
use Rattle.hx_cluster.specs.declared.happenings.Placed.{Placed}
use Rattle.hx_cluster.specs.declared.happenings.Placed.TheVariants as placings
use Rattle.hx_cluster.specs.declared.happenings.Outcome.{Outcome}
use Rattle.hx_cluster.specs.declared.happenings.Outcome.TheVariants as outcomes
use Rattle.hx_cluster.specs.Ends.{part_eq, part_before, is_row, message_of, state_of, is_live, shown_of, model_of, limit_at, count_of, matches, key_of, load_of}
use Rattle.hx_cluster.specs.Steps.{is_dropped, is_flag}

-- where a replica stands: an absent one counts as at the initial state of its model
abbrev pub initial_of : Cluster → PartId → StateId
initial_of c p = (model_of c.models c.resources p.resource).initial

abbrev pub standing_of : Cluster → SessionId → PartId → StateId
standing_of c s p = unwrap_or (state_of c.rows s p) (initial_of c p)

-- the key of a proposal under a rule, and the load there
abbrev pub proposal_load : Cluster → Proposal → Rule → ℕ
proposal_load c q r = load_of c r (key_of r.scope (shown_of c.live) q.session q.part)

-- the first rule, from the one with number k on, that has no room for a proposal; or it is sent
abbrev pub throttled_from : Cluster → Proposal → ℕ → List Rule → Placed
throttled_from c q k [] = placings.Sent (record { 0 = c.next_msg })
throttled_from c q k (r ∷ rs) =
    if matches r q.from q.to && nat_le r.limit (proposal_load c q r)
    then placings.OverThrottle k (proposal_load c q r) r.limit
    else throttled_from c q (k + 1) rs

-- a state that is limited and has no room refuses it
abbrev pub bounded : Cluster → Proposal → Option ℕ → Placed
bounded c q None = throttled_from c q 0 c.rules
bounded c q (Some limit) =
    if nat_le limit (count_of c q.part q.to)
    then placings.OverBound (count_of c q.part q.to) limit
    else throttled_from c q 0 c.rules

-- the answer where no message of the session's part is pending, and where one may be
abbrev pub placed_idle : Cluster → Proposal → Option Message → Placed
placed_idle c q (Some m) = placings.Busy m.id
placed_idle c q None =
    if not ((standing_of c q.session q.part).0 == q.from.0) then placings.WrongFrom (state_of c.rows q.session q.part)
    else if not (is_legal (model_of c.models c.resources q.part.resource) q.from q.to) then placings.Illegal
    else bounded c q (limit_at c q.part q.to)

-- the answer to a proposal: the first that fits
abbrev pub placed_of : Cluster → Proposal → Placed
placed_of c q =
    if not (is_live c.live q.session) then placings.Ended
    else if is_dropped c.resources q.part.resource && is_none (state_of c.rows q.session q.part) then placings.ResourceDropped
    else placed_idle c q (message_of c.mail q.session q.part)

-- the message that a proposal becomes
abbrev pub message_from : Cluster → MsgId → Proposal → Message
message_from c id q = record {
  id = id;
  session = q.session;
  part = q.part;
  from = q.from;
  to = q.to;
  initial = initial_of c q.part;
  epoch = c.epoch;
  taken = false;
  written = false;
}

-- two messages are the same but for their marks
abbrev pub is_same : Message → Message → Bool
is_same a b =
    (a.id.0 == b.id.0) && (a.session.0 == b.session.0) && part_eq a.part b.part && (a.from.0 == b.from.0) && (a.to.0 == b.to.0)
    && (a.initial.0 == b.initial.0) && (a.epoch.0 == b.epoch.0)

-- the message that an answer sends, if it sends one
abbrev pub sent_by : Cluster → Proposal → Placed → List Message
sent_by c q (placings.Sent id) = message_from c id q ∷ []
sent_by c q _ = []

-- the cluster after an answer: only one that is sent changes it
abbrev pub after_placed : Cluster → Proposal → Placed → Cluster
after_placed c q (placings.Sent id) = record c { mail = c.mail ++ message_from c id q ∷ []; next_msg = c.next_msg + 1; change = c.change + 1 }
after_placed c q _ = c

abbrev pub after_proposal : Cluster → Proposal → Cluster
after_proposal c q = after_placed c q (placed_of c q)

-- the answers to proposals, each at its own moment, and the cluster after them
abbrev pub placed_all : Cluster → List Proposal → List Placed
placed_all c [] = []
placed_all c (q ∷ qs) = placed_of c q ∷ placed_all (after_proposal c q) qs

abbrev pub after_proposals : Cluster → List Proposal → Cluster
after_proposals c [] = c
after_proposals c (q ∷ qs) = after_proposals (after_proposal c q) qs

-- the messages that they become
abbrev pub sent_all : Cluster → List Proposal → List Message
sent_all c [] = []
sent_all c (q ∷ qs) = sent_by c q (placed_of c q) ++ sent_all (after_proposal c q) qs

-- a controller's next pass
abbrev pub raised_pass : Cluster → ControllerId → Option (Bool × PassNo) → Cluster
raised_pass c k None = c
raised_pass c k (Some d) = record c { controllers = slice_set c.controllers k.0 (d.0, record { 0 = d.1.0 + 1 }) }

abbrev pub next_pass : Cluster → ControllerId → Cluster
next_pass c k = raised_pass c k (slice_get c.controllers k.0)

-- a dispatch ends the pass, and places the proposals in order
abbrev pub after_dispatch : Cluster → ControllerId → List Proposal → Cluster
after_dispatch c k qs = after_proposals (next_pass c k) qs

-- a session's pending message by number
abbrev pub has_id : SessionId → MsgId → Message → Bool
has_id s id m = (m.session.0 == s.0) && (m.id.0 == id.0)

abbrev pub pending_of : Cluster → SessionId → MsgId → Option Message
pending_of c s id = find (has_id s id) c.mail

-- it with a mark
abbrev pub as_taken : SessionId → MsgId → Message → Message
as_taken s id m = if has_id s id m then record m { taken = true } else m

abbrev pub as_written : SessionId → MsgId → Message → Message
as_written s id m = if has_id s id m then record m { written = true } else m

abbrev pub after_take : Cluster → SessionId → MsgId → Cluster
after_take c s id = record c { mail = map (as_taken s id) c.mail; change = c.change + 1 }

-- the row of a replica at a state; rows stand by session, then part
abbrev pub row_before : Row → Row → Bool
row_before a b = nat_lt a.session.0 b.session.0 || ((a.session.0 == b.session.0) && part_before a.part b.part)

abbrev pub restated : SessionId → PartId → StateId → Row → Row
restated s p t r = if is_row s p r then record r { state = t } else r

abbrev pub with_row : List Row → SessionId → PartId → StateId → List Row
with_row rows s p t =
    if list_any (is_row s p) rows
    then map (restated s p t) rows
    else insert_by row_before (record { session = s; part = p; state = t }) rows

-- and without it, for DROPPED
abbrev pub row_put : List Row → SessionId → PartId → StateId → List Row
row_put rows s p t = if t.0 == dropped.0 then filter (λ r. not (is_row s p r)) rows else with_row rows s p t

-- where an outcome puts the replica, and which flags then stand
abbrev pub state_after : Message → Outcome → StateId
state_after m outcomes.Ok = m.to
state_after m outcomes.Failed = error

abbrev pub flags_after : List (SessionId × PartId) → Message → Outcome → List (SessionId × PartId)
flags_after flags m outcomes.Ok = filter (λ f. not (is_flag m.session m.part f)) flags
flags_after flags m outcomes.Failed = flags

abbrev pub written_of : Cluster → SessionId → MsgId → Outcome → Option Message → Cluster
written_of c s id outcome None = c
written_of c s id outcome (Some m) = record c {
  rows = row_put c.rows m.session m.part (state_after m outcome);
  mail = map (as_written s id) c.mail;
  resets = flags_after c.resets m outcome;
  change = c.change + 1;
}

abbrev pub after_write : Cluster → SessionId → MsgId → Outcome → Cluster
after_write c s id outcome = written_of c s id outcome (pending_of c s id)

-- an acknowledgement removes the message
abbrev pub after_ack : Cluster → SessionId → MsgId → Cluster
after_ack c s id = record c { mail = filter (λ m. not (has_id s id m)) c.mail; change = c.change + 1 }
