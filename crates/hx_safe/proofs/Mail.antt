-- What holds of each pending message, whatever its marks, and of each new one, holds of each after any event.
use Rattle.std.proofs.Common.{◌≡◌, ℕ, ◌+◌, ◌≤◌, ◌==◌, not, Bool, true, false, List, [], ◌∷◌, ◌++◌, map, Option, Some, None, refl, sym, ap, ◌∙◌, arith}
use Rattle.std.specs.Prelude.{if◌then◌else◌, nat_le}
use Rattle.std.specs.List.{list_all}
use Rattle.std.proofs.lemmas.Bool.Decides.{nat_tests}
use Rattle.hx_lists.specs.Lists.{count}
use Rattle.hx_ids.specs.declared.SessionId.{SessionId}
use Rattle.hx_ids.specs.declared.MsgId.{MsgId}
use Rattle.hx_ids.specs.declared.PartId.{PartId}
use Rattle.hx_ids.specs.declared.ControllerId.{ControllerId}
use Rattle.hx_ids.specs.declared.Live.{Live}
use Rattle.hx_cluster.specs.declared.state.Message.{Message}
use Rattle.hx_cluster.specs.declared.state.Cluster.{Cluster}
use Rattle.hx_cluster.specs.declared.happenings.Placed.{Placed}
use Rattle.hx_cluster.specs.declared.happenings.Placed.TheVariants as placings
use Rattle.hx_cluster.specs.declared.happenings.Proposal.{Proposal}
use Rattle.hx_cluster.specs.declared.happenings.Outcome.{Outcome}
use Rattle.hx_cluster.specs.declared.happenings.Admin.{Admin}
use Rattle.hx_cluster.specs.declared.happenings.Admin.TheVariants as steps
use Rattle.hx_cluster.specs.declared.happenings.Event.{Event}
use Rattle.hx_cluster.specs.declared.happenings.Event.TheVariants as events
use Rattle.hx_cluster.specs.Steps.{after, ended_by, live_of, without, without_all, ended_of, beaten_of, asked_of}
use Rattle.hx_cluster.specs.Messages.{placed_of, message_from, after_placed, after_proposal, after_proposals, next_pass, has_id, as_taken, as_written, pending_of, written_of}
use Rattle.hx_cluster.specs.Events.{next}
use Rattle.hx_safe.specs.Calm.{is_dispatch}
use Rattle.hx_safe.proofs.Counting.{and-both, all-append, all-le, all-map, all-filter}
use Rattle.hx_safe.proofs.Sending.{room_from, sent_next}
use Rattle.hx_safe.proofs.Beside.{beside_step, beside_pass}

-- the next number of a message doesn't fall
pub next_msg_all : (c : Cluster) (ss : List SessionId) → (without_all c ss).next_msg ≡ c.next_msg
next_msg_all c [] = refl
next_msg_all c (s ∷ ss) = next_msg_all (without c s) ss

next_msg_end : (c : Cluster) (o : Option Live) → (ended_of c o).next_msg ≡ c.next_msg
next_msg_end c None = refl
next_msg_end c (Some l) = refl

next_msg_beat : (c : Cluster) (o : Option Live) → (beaten_of c o).next_msg ≡ c.next_msg
next_msg_beat c None = refl
next_msg_beat c (Some l) = refl

next_msg_asked : (c : Cluster) (p : PartId) (o : Option Live) → (asked_of c p o).next_msg ≡ c.next_msg
next_msg_asked c p None = refl
next_msg_asked c p (Some l) = refl

next_msg_step : (c : Cluster) (step : Admin) → (after c step).next_msg ≡ c.next_msg
next_msg_step c (steps.Join i) = refl
next_msg_step c (steps.End i) = next_msg_end c (live_of c.live i)
next_msg_step c (steps.Beat i) = next_msg_beat c (live_of c.live i)
next_msg_step c (steps.Tick n) = next_msg_all (record c { clock = c.clock + n }) (ended_by c n)
next_msg_step c (steps.Reset i p) = next_msg_asked c p (live_of c.live i)
next_msg_step c step = (beside_step c step refl).next_msg

next_msg_placed : (c : Cluster) (q : Proposal) (a : Placed) → c.next_msg ≤ (after_placed c q a).next_msg
next_msg_placed c q (placings.Sent id) = omega arith
next_msg_placed c q _ = omega arith

next_msg_proposals : (c : Cluster) (qs : List Proposal) → c.next_msg ≤ (after_proposals c qs).next_msg
next_msg_proposals c [] = omega arith
next_msg_proposals c (q ∷ qs) =
    let one = next_msg_placed c q (placed_of c q) in
    let two = next_msg_proposals (after_proposal c q) qs in
    omega (arith, one, two)

next_msg_written : (c : Cluster) (s : SessionId) (id : MsgId) (outcome : Outcome) (o : Option Message) → (written_of c s id outcome o).next_msg ≡ c.next_msg
next_msg_written c s id outcome None = refl
next_msg_written c s id outcome (Some m) = refl

pub next_msg_next : (c : Cluster) (e : Event) → c.next_msg ≤ (next c e).next_msg
next_msg_next c (events.Admin step did) = omega (arith, next_msg_step c step)
next_msg_next c (events.Begin k begun) = omega (arith, (beside_pass c k).next_msg)
next_msg_next c (events.Dispatch k epoch pass proposals answer) =
    let one = (beside_pass c k).next_msg in
    let two = next_msg_proposals (next_pass c k) proposals in
    omega (arith, one, two)
next_msg_next c (events.Write s id outcome) = omega (arith, next_msg_written c s id outcome (pending_of c s id))
next_msg_next c _ = omega arith

-- a test of messages that marks don't fail
pub record IsSteady (q : Message → Bool) : Type 0 where
  pub taken : (m : Message) → q m ≡ true → q (record m { taken = true }) ≡ true
  pub written : (m : Message) → q m ≡ true → q (record m { written = true }) ≡ true

all_taken : (q : Message → Bool) → IsSteady q → (s : SessionId) (id : MsgId) (mail : List Message) → list_all q mail ≡ true → list_all q (map (as_taken s id) mail) ≡ true
all_taken q steady s id mail all =
    all-map q (as_taken s id) mail ∙ all-le q (λ m. q (as_taken s id m)) (λ m e. one m (has_id s id m) e) mail all
  where
    one : (m : Message) (b : Bool) → q m ≡ true → q (if b then record m { taken = true } else m) ≡ true
    one m true e = steady.taken m e
    one m false e = e

all_written : (q : Message → Bool) → IsSteady q → (c : Cluster) (s : SessionId) (id : MsgId) (outcome : Outcome) (o : Option Message) → list_all q c.mail ≡ true
    → list_all q (written_of c s id outcome o).mail ≡ true
all_written q steady c s id outcome None all = all
all_written q steady c s id outcome (Some w) all =
    all-map q (as_written s id) c.mail ∙ all-le q (λ m. q (as_written s id m)) (λ m e. one m (has_id s id m) e) c.mail all
  where
    one : (m : Message) (b : Bool) → q m ≡ true → q (if b then record m { written = true } else m) ≡ true
    one m true e = steady.written m e
    one m false e = e

pub all_without : (q : Message → Bool) (c : Cluster) (ss : List SessionId) → list_all q c.mail ≡ true → list_all q (without_all c ss).mail ≡ true
all_without q c [] all = all
all_without q c (s ∷ ss) all = all_without q (without c s) ss (all-filter q (λ m. not (m.session.0 == s.0)) c.mail all)

all_end : (q : Message → Bool) (c : Cluster) (o : Option Live) → list_all q c.mail ≡ true → list_all q (ended_of c o).mail ≡ true
all_end q c None all = all
all_end q c (Some l) all = all-filter q (λ m. not (m.session.0 == l.session.0)) c.mail all

all_beat : (q : Message → Bool) (c : Cluster) (o : Option Live) → list_all q c.mail ≡ true → list_all q (beaten_of c o).mail ≡ true
all_beat q c None all = all
all_beat q c (Some l) all = all

all_asked : (q : Message → Bool) (c : Cluster) (p : PartId) (o : Option Live) → list_all q c.mail ≡ true → list_all q (asked_of c p o).mail ≡ true
all_asked q c p None all = all
all_asked q c p (Some l) all = all

pub all_step : (q : Message → Bool) (c : Cluster) (step : Admin) → list_all q c.mail ≡ true → list_all q (after c step).mail ≡ true
all_step q c (steps.Join i) all = all
all_step q c (steps.End i) all = all_end q c (live_of c.live i) all
all_step q c (steps.Beat i) all = all_beat q c (live_of c.live i) all
all_step q c (steps.Tick n) all = all_without q (record c { clock = c.clock + n }) (ended_by c n) all
all_step q c (steps.Reset i p) all = all_asked q c p (live_of c.live i) all
all_step q c step all = ap (list_all q) (beside_step c step refl).mail ∙ all

-- a new message has the next number, or a later one
all_placed : (q : Message → Bool) (c : Cluster) (p : Proposal) → ((m : Message) → nat_le c.next_msg m.id.0 ≡ true → q m ≡ true) → list_all q c.mail ≡ true
    → list_all q (after_proposal c p).mail ≡ true
all_placed q c p new all = one (placed_of c p) refl
  where
    sent : (id : MsgId) → id ≡ record { 0 = c.next_msg } → list_all q (c.mail ++ message_from c id p ∷ []) ≡ true
    sent id is =
        let at : nat_le c.next_msg id.0 ≡ true = let same : id.0 ≡ c.next_msg = ap (λ (x : MsgId). x.0) is in grind (arith, nat_tests, same) in
        let here = new (message_from c id p) at in
        all-append q c.mail (message_from c id p ∷ []) ∙ and-both (list_all q c.mail) (list_all q (message_from c id p ∷ [])) all (grind (arith, here))

    one : (a : Placed) → placed_of c p ≡ a → list_all q (after_placed c p a).mail ≡ true
    one (placings.Sent id) is = sent id (sent_next c p 0 c.rules id (room_from c p id is).throttles)
    one _ is = all

all_proposals : (q : Message → Bool) (c : Cluster) (ps : List Proposal) → ((m : Message) → nat_le c.next_msg m.id.0 ≡ true → q m ≡ true) → list_all q c.mail ≡ true
    → list_all q (after_proposals c ps).mail ≡ true
all_proposals q c [] new all = all
all_proposals q c (p ∷ ps) new all =
    all_proposals q (after_proposal c p) ps (λ m low. new m (later m low)) (all_placed q c p new all)
  where
    later : (m : Message) → nat_le (after_proposal c p).next_msg m.id.0 ≡ true → nat_le c.next_msg m.id.0 ≡ true
    later m low = let less = next_msg_placed c p (placed_of c p) in grind (arith, nat_tests, low, less)

all_dispatch : (q : Message → Bool) (c : Cluster) (k : ControllerId) (ps : List Proposal) → ((m : Message) → nat_le c.next_msg m.id.0 ≡ true → q m ≡ true) → list_all q c.mail ≡ true
    → list_all q (after_proposals (next_pass c k) ps).mail ≡ true
all_dispatch q c k ps new all =
    let beside = beside_pass c k in
    all_proposals q (next_pass c k) ps (λ m low. new m (ap (λ (n : ℕ). nat_le n m.id.0) (sym beside.next_msg) ∙ low)) (ap (list_all q) beside.mail ∙ all)

-- without a dispatch there is no new message
pub all_quiet : (q : Message → Bool) → IsSteady q → (c : Cluster) (e : Event) → is_dispatch e ≡ false → list_all q c.mail ≡ true → list_all q (next c e).mail ≡ true
all_quiet q steady c (events.Admin step did) quiet all = all_step q c step all
all_quiet q steady c (events.Begin k begun) quiet all = ap (list_all q) (beside_pass c k).mail ∙ all
all_quiet q steady c (events.Dispatch k epoch pass proposals answer) quiet all = cc
all_quiet q steady c (events.Take s id) quiet all = all_taken q steady s id c.mail all
all_quiet q steady c (events.Write s id outcome) quiet all = all_written q steady c s id outcome (pending_of c s id) all
all_quiet q steady c (events.Ack s id) quiet all = all-filter q (λ m. not (has_id s id m)) c.mail all
all_quiet q steady c _ quiet all = all

pub all_next : (q : Message → Bool) → IsSteady q → (c : Cluster) (e : Event) → ((m : Message) → nat_le c.next_msg m.id.0 ≡ true → q m ≡ true) → list_all q c.mail ≡ true
    → list_all q (next c e).mail ≡ true
all_next q steady c (events.Dispatch k epoch pass proposals answer) new all = all_dispatch q c k proposals new all
all_next q steady c e new all = all_quiet q steady c e refl all
