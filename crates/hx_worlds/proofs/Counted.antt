-- The next numbers of a cluster are one more than the joins and the messages sent in its history.
use Rattle.std.proofs.Common.{◌≡◌, ℕ, ◌+◌, Bool, true, false, List, [], ◌∷◌, Option, Some, None, refl, ap, arith}
use Rattle.std.specs.List.{sum_by}
use Rattle.std.proofs.lemmas.List.Sums.{sum_by-cons}
use Rattle.hx_lists.specs.Lists.{count}
use Rattle.hx_ids.specs.declared.SessionId.{SessionId}
use Rattle.hx_ids.specs.declared.PartId.{PartId}
use Rattle.hx_ids.specs.declared.Live.{Live}
use Rattle.hx_cluster.specs.declared.state.Message.{Message}
use Rattle.hx_cluster.specs.declared.state.Cluster.{Cluster}
use Rattle.hx_cluster.specs.declared.happenings.Placed.{Placed}
use Rattle.hx_cluster.specs.declared.happenings.Placed.TheVariants as placings
use Rattle.hx_cluster.specs.declared.happenings.Dispatched.{Dispatched}
use Rattle.hx_cluster.specs.declared.happenings.Proposal.{Proposal}
use Rattle.hx_cluster.specs.declared.happenings.Outcome.{Outcome}
use Rattle.hx_cluster.specs.declared.happenings.Admin.{Admin}
use Rattle.hx_cluster.specs.declared.happenings.Admin.TheVariants as steps
use Rattle.hx_cluster.specs.declared.happenings.Event.{Event}
use Rattle.hx_cluster.specs.declared.happenings.Event.TheVariants as events
use Rattle.hx_cluster.specs.Steps.{after, ended_by, live_of, without, without_all, ended_of, beaten_of, asked_of}
use Rattle.hx_cluster.specs.Messages.{placed_of, placed_all, after_placed, after_proposal, after_proposals, next_pass, pending_of, written_of}
use Rattle.hx_cluster.specs.Events.{next, replay, IsStep, IsLegal}
use Rattle.hx_control.specs.Steps.{is_sent}
use Rattle.hx_worlds.specs.Summaries.{joined_in, sent_in}
use Rattle.hx_safe.proofs.Beside.{IsBeside, beside_step, beside_pass}

-- the next numbers rise by so much
pub record Rises (c d : Cluster) (sessions messages : ℕ) : Type 0 where
  pub sessions_up : d.next_session ≡ c.next_session + sessions
  pub messages_up : d.next_msg ≡ c.next_msg + messages

same : (c d : Cluster) → d.next_session ≡ c.next_session → d.next_msg ≡ c.next_msg → Rises c d 0 0
same c d s m = record { sessions_up = omega arith; messages_up = omega arith }

beside : (c d : Cluster) → IsBeside c d → Rises c d 0 0
beside c d b = same c d b.next_session b.next_msg

all_sessions : (c : Cluster) (ss : List SessionId) → (without_all c ss).next_session ≡ c.next_session
all_sessions c [] = refl
all_sessions c (s ∷ ss) = all_sessions (without c s) ss

all_messages : (c : Cluster) (ss : List SessionId) → (without_all c ss).next_msg ≡ c.next_msg
all_messages c [] = refl
all_messages c (s ∷ ss) = all_messages (without c s) ss

ended : (c : Cluster) (o : Option Live) → Rises c (ended_of c o) 0 0
ended c None = same c c refl refl
ended c (Some l) = same c (without c l.session) refl refl

beaten : (c : Cluster) (o : Option Live) → Rises c (beaten_of c o) 0 0
beaten c None = same c c refl refl
beaten c (Some l) = same c (beaten_of c (Some l)) refl refl

asked : (c : Cluster) (p : PartId) (o : Option Live) → Rises c (asked_of c p o) 0 0
asked c p None = same c c refl refl
asked c p (Some l) = same c (asked_of c p (Some l)) refl refl

written : (c : Cluster) (s : SessionId) (id : _) (outcome : Outcome) (o : Option Message) → Rises c (written_of c s id outcome o) 0 0
written c s id outcome None = same c c refl refl
written c s id outcome (Some m) = same c (written_of c s id outcome (Some m)) refl refl

proposal : (c : Cluster) (q : Proposal) (a : Placed) → Rises c (after_placed c q a) 0 (count is_sent (a ∷ []))
proposal c q (placings.Sent id) = record { sessions_up = omega arith; messages_up = refl }
proposal c q placings.Ended = same c c refl refl
proposal c q placings.ResourceDropped = same c c refl refl
proposal c q (placings.Busy id) = same c c refl refl
proposal c q (placings.WrongFrom has) = same c c refl refl
proposal c q placings.Illegal = same c c refl refl
proposal c q (placings.OverBound n limit) = same c c refl refl
proposal c q (placings.OverThrottle k load limit) = same c c refl refl

count-two : (a : Placed) (more : List Placed) → count is_sent (a ∷ more) ≡ count is_sent (a ∷ []) + count is_sent more
count-two a more = one (is_sent a) refl
  where
    one : (b : Bool) → is_sent a ≡ b → count is_sent (a ∷ more) ≡ count is_sent (a ∷ []) + count is_sent more
    one true e = grind (arith, e)
    one false e = grind (arith, e)

proposals : (c : Cluster) (qs : List Proposal) → Rises c (after_proposals c qs) 0 (count is_sent (placed_all c qs))
proposals c [] = same c c refl refl
proposals c (q ∷ qs) =
    let d = after_proposal c q in
    let first : Rises c d 0 (count is_sent (placed_of c q ∷ [])) = proposal c q (placed_of c q) in
    let rest = proposals d qs in
    let two = count-two (placed_of c q) (placed_all d qs) in
    let a = first.sessions_up in
    let b = rest.sessions_up in
    let f = first.messages_up in
    let g = rest.messages_up in
    record { sessions_up = omega arith; messages_up = omega arith }

step : (c : Cluster) (a : Admin) (did : _) → Rises c (after c a) (joined_in (events.Admin a did)) 0
step c (steps.Join i) did = record { sessions_up = refl; messages_up = omega arith }
step c (steps.End i) did = ended c (live_of c.live i)
step c (steps.Beat i) did = beaten c (live_of c.live i)
step c (steps.Tick n) did =
    let cl = record c { clock = c.clock + n } in
    same c (without_all cl (ended_by c n)) (all_sessions cl (ended_by c n)) (all_messages cl (ended_by c n))
step c (steps.Reset i p) did = asked c p (live_of c.live i)
step c (steps.Drain i) did = beside c (after c (steps.Drain i)) (beside_step c (steps.Drain i) refl)
step c (steps.Undrain i) did = beside c (after c (steps.Undrain i)) (beside_step c (steps.Undrain i) refl)
step c (steps.Add name model ideal) did = beside c (after c (steps.Add name model ideal)) (beside_step c (steps.Add name model ideal) refl)
step c (steps.Drop r) did = beside c (after c (steps.Drop r)) (beside_step c (steps.Drop r) refl)
step c (steps.SetList p list) did = beside c (after c (steps.SetList p list)) (beside_step c (steps.SetList p list) refl)
step c (steps.SetMap p map) did = beside c (after c (steps.SetMap p map)) (beside_step c (steps.SetMap p map) refl)
step c (steps.Lead k) did = beside c (after c (steps.Lead k)) (beside_step c (steps.Lead k) refl)
step c (steps.Stop k) did = beside c (after c (steps.Stop k)) (beside_step c (steps.Stop k) refl)
step c (steps.Start k) did = beside c (after c (steps.Start k)) (beside_step c (steps.Start k) refl)

one_event : (c : Cluster) (e : Event) → IsStep c e → Rises c (next c e) (joined_in e) (sent_in e)
one_event c (events.Admin a did) is = step c a did
one_event c (events.Begin k begun) is = beside c (next_pass c k) (beside_pass c k)
one_event c (events.Dispatch k epoch pass qs answer) is =
    let d = next_pass c k in
    let b = beside c d (beside_pass c k) in
    let p = proposals d qs in
    let counted : count is_sent answer.placed ≡ count is_sent (placed_all d qs) = ap (λ (x : Dispatched). count is_sent x.placed) is.3 in
    let s1 = b.sessions_up in
    let s2 = p.sessions_up in
    let m1 = b.messages_up in
    let m2 = p.messages_up in
    record { sessions_up = omega arith; messages_up = omega arith }
one_event c (events.Write s id outcome) is = written c s id outcome (pending_of c s id)
one_event c (events.Line n) is = same c (next c (events.Line n)) refl refl
one_event c (events.Live k pass) is = same c c refl refl
one_event c (events.Mail k pass s) is = same c c refl refl
one_event c (events.States k pass s) is = same c c refl refl
one_event c (events.Ideals k pass) is = same c c refl refl
one_event c (events.Post k epoch rows) is = same c (next c (events.Post k epoch rows)) refl refl
one_event c (events.Fetch i s n) is = same c c refl refl
one_event c (events.Take s id) is = same c (next c (events.Take s id)) refl refl
one_event c (events.Ack s id) is = same c (next c (events.Ack s id)) refl refl

pub counted : (c : Cluster) (h : List Event) → IsLegal c h → Rises c (replay c h) (sum_by joined_in h) (sum_by sent_in h)
counted c [] legal = same c c refl refl
counted c (e ∷ h) legal =
    let first = one_event c e legal.0 in
    let rest = counted (next c e) h legal.1 in
    let s1 = first.sessions_up in
    let s2 = rest.sessions_up in
    let s3 = sum_by-cons joined_in e h in
    let m1 = first.messages_up in
    let m2 = rest.messages_up in
    let m3 = sum_by-cons sent_in e h in
    record { sessions_up = omega arith; messages_up = omega arith }
