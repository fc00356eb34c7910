-- When a board, its controllers and its participants agree: between the lines of a script, and while turns, deliveries and jobs are open.
use Rattle.std.specs.Prelude.{◌≡◌, ◌≤◌, ℕ, ◌+◌, Bool, true, false, not, ◌==◌, ◌&&◌, ◌||◌, List, [], ◌∷◌, map, length, Option, None, Some, is_some, is_none, if◌then◌else◌, nat_lt, nat_le, IsSomeAnd}
use Rattle.std.specs.List.{All, list_any, list_all, sum_by}
use Rattle.std.specs.Option.{option_map_or}
use Rattle.hx_lists.specs.Lists.{count, numbers_below}
use Rattle.hx_ids.specs.declared.InstanceId.{InstanceId}
use Rattle.hx_ids.specs.declared.StateId.{StateId}
use Rattle.hx_ids.specs.declared.SessionId.{SessionId}
use Rattle.hx_ids.specs.declared.PartId.{PartId}
use Rattle.hx_ids.specs.declared.Live.{Live}
use Rattle.hx_model.specs.Model.{is_legal, dropped}
use Rattle.hx_cluster.specs.declared.description.Spec.{Spec}
use Rattle.hx_cluster.specs.declared.state.Message.{Message}
use Rattle.hx_cluster.specs.declared.state.Cluster.{Cluster}
use Rattle.hx_cluster.specs.declared.happenings.Event.{Event}
use Rattle.hx_cluster.specs.Ends.{part_eq, is_live, state_of, message_of, model_of}
use Rattle.hx_cluster.specs.Steps.{opening, session_of}
use Rattle.hx_cluster.specs.Messages.{initial_of, standing_of, state_after, is_same}
use Rattle.hx_cluster.specs.Events.{replay, has_part}
use Rattle.hx_replicas.specs.declared.slots.Work.{Work}
use Rattle.hx_replicas.specs.declared.slots.Work.TheVariants as works
use Rattle.hx_replicas.specs.Participants.{Participant, Slot, slot_of, counts_as, all_idle, is_out, is_session}
use Rattle.hx_control.specs.Controllers.{Controller, idle_controller}
use Rattle.hx_control.specs.OfBoard.{OfBoard}
use Rattle.hx_worlds.specs.World.{World, Job}
use Rattle.hx_worlds.specs.Jobs.{is_job}
use Rattle.hx_worlds.specs.Summaries.{joined_in, sent_in}

-- a board, as far as it matters here: its description and its history
pub record BoardState : Type 0 where
  pub spec : Spec
  pub history : List Event

abbrev pub cluster_of : BoardState → Cluster
cluster_of b = replay (opening b.spec) b.history

-- a participant with its instance
pub record Stationed : Type 0 where
  pub instance : InstanceId
  pub plain : Participant

-- what holds always. There is one controller for each number and one participant for each instance, in order; sessions are below the
-- next number; one that no participant has is untouched; and the next numbers are one more than the joins and the messages sent
abbrev pub is_below : ℕ → Option SessionId → Bool
is_below next s = option_map_or (λ mine. nat_lt mine.0 next) s true

abbrev pub has_any : SessionId → List Stationed → Bool
has_any s ps = list_any (λ p. is_session p.plain.session s) ps

abbrev pub is_untouched : Cluster → SessionId → Bool
is_untouched c s = not (list_any (λ r. r.session.0 == s.0) c.rows) && not (list_any (λ m. (m.session.0 == s.0) && m.taken) c.mail)

abbrev pub is_cared_for : Cluster → List Stationed → Live → Bool
is_cared_for c ps l = has_any l.session ps || is_untouched c l.session

pub record IsStaffed (given : Spec) (b : BoardState) (ks : List Controller) (ps : List Stationed) : Type 0 where
  pub spec : b.spec ≡ given
  pub controllers : map (λ k. k.id.0) ks ≡ numbers_below b.spec.controllers
  pub participants : map (λ p. p.instance.0) ps ≡ numbers_below (length b.spec.instances)
  pub sessions : list_all (λ p. is_below (cluster_of b).next_session p.plain.session) ps ≡ true
  pub others : list_all (is_cared_for (cluster_of b) ps) (cluster_of b).live ≡ true
  pub joins : (cluster_of b).next_session ≡ 1 + sum_by joined_in b.history
  pub sent : (cluster_of b).next_msg ≡ 1 + sum_by sent_in b.history

-- what holds always of a participant whose session is live: it is that of its instance, and the participant accepted messages of parts
-- that there are, with numbers that were given, and with the initial state of the part's model
pub record IsAttached (c : Cluster) (p : Stationed) (s : SessionId) : Type 0 where
  pub own : session_of c p.instance ≡ Some s
  pub parts : (q : PartId) → nat_lt 0 (slot_of p.plain q).last.0 ≡ true → has_part c q ≡ true
  pub numbers : (q : PartId) → nat_lt (slot_of p.plain q).last.0 c.next_msg ≡ true
  pub initial : (q : PartId) → (t : StateId) → (slot_of p.plain q).initial ≡ Some t → t ≡ initial_of c q

-- for a participant whose session is live
abbrev pub IfLive : Cluster → Stationed → (SessionId → Type 0) → Type 0
IfLive c p holds = (s : SessionId) → p.plain.session ≡ Some s → is_live c.live s ≡ true → holds s

-- between lines: each replica counts as at its row, and each message of the session is untaken, and above what was accepted
abbrev pub is_to_come : Participant → SessionId → Message → Bool
is_to_come w s m = not (m.session.0 == s.0) || (not m.taken && nat_lt (slot_of w m.part).last.0 m.id.0)

abbrev pub StandsAsRow : Cluster → Participant → SessionId → PartId → Type 0
StandsAsRow c w s q = counts_as (slot_of w q) (initial_of c q) ≡ standing_of c s q

pub record IsSettledIn (c : Cluster) (p : Stationed) (s : SessionId) : Type 0 where
  pub attached : IsAttached c p s
  pub rows : (q : PartId) → StandsAsRow c p.plain s q
  pub mail : list_all (is_to_come p.plain s) c.mail ≡ true

-- the parts agree: nothing is open
pub record Agree (given : Spec) (b : BoardState) (ks : List Controller) (ps : List Stationed) : Type 0 where
  pub staffed : IsStaffed given b ks ps
  pub turns : All (λ k. k ≡ idle_controller k.id) ks
  pub quiet : list_all (λ p. all_idle p.plain) ps ≡ true
  pub settled : All (λ p. IfLive (cluster_of b) p (IsSettledIn (cluster_of b) p)) ps

-- with open work: a pending message of the session is accepted, or out, or above what was accepted; a taken one is out
abbrev pub is_accepted_as : Message → Work → Bool
is_accepted_as m (works.Accepted n) = is_same m n
is_accepted_as m _ = false

abbrev pub is_out_as : Message → Work → Bool
is_out_as m (works.Out n is_held) = is_same m n
is_out_as m _ = false

abbrev pub is_known_at : Slot → Message → Bool
is_known_at x m = (not m.taken && (is_accepted_as m x.work || nat_lt x.last.0 m.id.0)) || is_out_as m x.work

abbrev pub is_known : Participant → SessionId → Message → Bool
is_known w s m = not (m.session.0 == s.0) || is_known_at (slot_of w m.part) m

-- an accepted message stands in the bag; where its session is live it is pending, and not taken
abbrev pub is_pending_as : Cluster → Message → Bool
is_pending_as c m = list_any (is_same m) c.mail

abbrev pub is_waiting : Cluster → Message → Bool
is_waiting c m = list_any (λ n. is_same m n && not n.taken) c.mail

abbrev pub is_accepted_well : Cluster → List Message → Work → Bool
is_accepted_well c bag (works.Accepted m) = list_any (is_same m) bag && (not (is_live c.live m.session) || is_waiting c m)
is_accepted_well c bag _ = true

-- a message in the bag is legal, with its model's initial state, and with numbers that were given; where its session is live it is
-- pending, or not above what was accepted
abbrev pub is_old : List Stationed → Message → Bool
is_old ps m = list_any (λ p. is_session p.plain.session m.session && nat_le m.id.0 (slot_of p.plain m.part).last.0) ps

pub record IsBagged (c : Cluster) (ps : List Stationed) (m : Message) : Type 0 where
  pub id : nat_lt m.id.0 c.next_msg ≡ true
  pub session : nat_lt m.session.0 c.next_session ≡ true
  pub legal : is_legal (model_of c.models c.resources m.part.resource) m.from m.to ≡ true
  pub initial : m.initial ≡ initial_of c m.part
  pub pending : is_live c.live m.session ≡ true → is_pending_as c m || is_old ps m ≡ true

-- of a participant's session, it has the initial state of the messages of its part that were accepted
abbrev pub LikeAccepted : Participant → Message → Type 0
LikeAccepted w m =
    is_session w.session m.session ≡ true → (t : StateId) → (slot_of w m.part).initial ≡ Some t → t ≡ m.initial

-- a replica counts as at its row, unless its message is out
pub record IsOpenIn (c : Cluster) (p : Stationed) (s : SessionId) : Type 0 where
  pub attached : IsAttached c p s
  pub rows : (q : PartId) → is_out (slot_of p.plain q).work ≡ false → StandsAsRow c p.plain s q
  pub mail : list_all (is_known p.plain s) c.mail ≡ true

-- an open job is that of the slot which its message is out of, with its handler, and it is the only one. Where its session is live its message is the taken
-- one of its replica, which the participant has at from; it is written, with the job's outcome, exactly where the job is past its write
abbrev pub is_at_end : StateId → Option StateId → Bool
is_at_end t None = t.0 == dropped.0
is_at_end t (Some has) = has.0 == t.0

pub record IsTakenAs (c : Cluster) (j : Job) (m : Message) : Type 0 where
  pub same : is_same j.message m ≡ true
  pub taken : m.taken ≡ true
  pub written : m.written ≡ j.is_written
  pub ended : j.is_written ≡ true → is_at_end (state_after m j.outcome) (state_of c.rows m.session m.part) ≡ true

-- a message is exactly another one, with its marks as well
abbrev pub same_mark : Bool → Bool → Bool
same_mark true b = b
same_mark false b = not b

abbrev pub is_exactly : Message → Message → Bool
is_exactly a b = is_same a b && same_mark a.taken b.taken && same_mark a.written b.written

abbrev pub is_lent_to : Job → Work → Bool
is_lent_to j (works.Out m is_held) = is_exactly j.message m && (if is_held then is_some j.handler else is_none j.handler)
is_lent_to j _ = false

pub record IsOpenJob (c : Cluster) (ps : List Stationed) (jobs : List Job) (j : Job) : Type 0 where
  pub only : count (is_job j.instance j.message.id) jobs ≡ 1
  pub out : list_any (λ p. (p.instance.0 == j.instance.0) && is_lent_to j (slot_of p.plain j.message.part).work) ps ≡ true
  pub taken : is_live c.live j.message.session ≡ true → IsSomeAnd (message_of c.mail j.message.session j.message.part) (IsTakenAs c j)

-- a slot whose message is out is at its from, and has its job
abbrev pub has_job : List Job → InstanceId → Slot → Work → Bool
has_job jobs i x (works.Out m is_held) = list_any (is_job i m.id) jobs && (x.state.0 == m.from.0)
has_job jobs i x _ = true

-- the parts of a world agree with what is open
pub record AgreeOpen
    (given : Spec) (b : BoardState) (ks : List Controller) (ps : List Stationed) (jobs : List Job) (bag : List Message) : Type 0 where
  pub staffed : IsStaffed given b ks ps
  pub turns : All (OfBoard b.spec b.history) ks
  pub accepted : All (λ p. list_all (λ x. is_accepted_well (cluster_of b) bag x.work) p.plain.slots ≡ true) ps
  pub bagged : All (IsBagged (cluster_of b) ps) bag
  pub alike : All (λ p. All (LikeAccepted p.plain) bag) ps
  pub slots : All (λ p. list_all (λ x. has_job jobs p.instance x x.work) p.plain.slots ≡ true) ps
  pub each_job : All (IsOpenJob (cluster_of b) ps jobs) jobs
  pub live : All (λ p. IfLive (cluster_of b) p (IsOpenIn (cluster_of b) p)) ps

-- what a world keeps: its cluster is the one that its history leaves, its weight is within the limit, and all in it agrees
abbrev pub stationed_from : ℕ → List Participant → List Stationed
stationed_from n [] = []
stationed_from n (w ∷ ws) = (record { instance = record { 0 = n }; plain = w }) ∷ stationed_from (n + 1) ws

abbrev pub board_of : World → BoardState
board_of w = record { spec = w.spec; history = w.history }

pub record IsKept (w : World) : Type 0 where
  pub cluster : w.cluster ≡ cluster_of (board_of w)
  pub weight : w.weight ≤ w.limit
  pub agree : AgreeOpen w.spec (board_of w) w.controllers (stationed_from 0 w.participants) w.jobs w.bag
