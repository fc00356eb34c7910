-- What is done to participants, their jobs and the bag keeps what holds of a world, where what is accepted was fetched.
use Rattle.std.proofs.Common.{◌≡◌, ℕ, Bool, true, List, [], ◌∷◌, ◌++◌, map, find, Option, Some, None, refl, ap, ◌∙◌, subst, arith}
use Rattle.std.specs.Prelude.{unwrap_or, slice_set}
use Rattle.std.specs.List.{list_any, list_all}
use Rattle.hx_ids.specs.declared.InstanceId.{InstanceId}
use Rattle.hx_ids.specs.declared.SessionId.{SessionId}
use Rattle.hx_ids.specs.declared.MsgId.{MsgId}
use Rattle.hx_ids.specs.declared.PartId.{PartId}
use Rattle.hx_cluster.specs.declared.description.Spec.{Spec}
use Rattle.hx_cluster.specs.declared.state.Message.{Message}
use Rattle.hx_cluster.specs.declared.happenings.Event.{Event}
use Rattle.hx_cluster.specs.declared.happenings.Event.TheVariants as events
use Rattle.hx_cluster.specs.declared.happenings.Outcome.{Outcome}
use Rattle.hx_cluster.specs.Ends.{part_eq}
use Rattle.hx_cluster.specs.Steps.{opening}
use Rattle.hx_cluster.specs.Reads.{messages_for}
use Rattle.hx_cluster.specs.Messages.{has_id}
use Rattle.hx_cluster.specs.Events.{replay}
use Rattle.hx_pass.specs.Lawful.{fetched_from}
use Rattle.hx_replicas.specs.declared.slots.Work.{Work}
use Rattle.hx_replicas.specs.declared.slots.Work.TheVariants.{Idle, Accepted, Out}
use Rattle.hx_replicas.specs.Participants.{Participant, Slot, new_participant, new_slot, slot_in, slot_of, put_slot, accepted, accept, accepted_of, has_accepted, accepted_in, accepted_by, made_ready, readied, emptied_for, hand_out, end_of, brought, finish, emptied, adopt}
use Rattle.hx_worlds.specs.World.{World, Job, State, participant_of, with_participant}
use Rattle.hx_worlds.specs.Jobs
use Rattle.hx_safe.proofs.Counting.{and-first, and-second, any-append, all-le, all-find}
use Rattle.hx_safe.proofs.Ends.{same-self}
use Rattle.hx_safe.proofs.Ideals.{all-put}
use Rattle.hx_scripted.specs.OfHistory.{is_fetched, is_work_fetched, is_slot_fetched, has_fetched}
use Rattle.hx_scripted.proofs.Standing.{Last, IsScripted, fetched_more, or-second, item_at}

-- worlds that differ in what the history doesn't tell, where what they hold was fetched
told_alike : (spec : Spec) (last : Last) (w : World) (weight : ℕ) (participants : List Participant) (jobs : List Job) (bag : List Message) → IsScripted spec last w
    → list_all (is_fetched spec w.history) bag ≡ true → list_all (has_fetched spec w.history) participants ≡ true
    → IsScripted spec last (record w { weight = weight; participants = participants; jobs = jobs; bag = bag })
told_alike spec last w weight participants jobs bag s bagged accepted = record {
  of = record {
    given = s.of.given;
    legal = s.of.legal;
    cluster = s.of.cluster;
    controllers = s.of.controllers;
    turns = s.of.turns;
    bag = bagged;
    accepted = accepted;
  };
  line = s.line;
  proper = s.proper;
}

pub weighed_there : (spec : Spec) (last : Last) (w : World) (weight : ℕ) → IsScripted spec last w → IsScripted spec last (record w { weight = weight })
weighed_there spec last w weight s = told_alike spec last w weight w.participants w.jobs w.bag s s.of.bag s.of.accepted

pub jobs_there : (spec : Spec) (last : Last) (w : World) (jobs : List Job) → IsScripted spec last w → IsScripted spec last (record w { jobs = jobs })
jobs_there spec last w jobs s = told_alike spec last w w.weight w.participants jobs w.bag s s.of.bag s.of.accepted

bag_there : (spec : Spec) (last : Last) (w : World) (bag : List Message) → IsScripted spec last w → list_all (is_fetched spec w.history) bag ≡ true
    → IsScripted spec last (record w { bag = bag })
bag_there spec last w bag s all = told_alike spec last w w.weight w.participants w.jobs bag s all s.of.accepted

pub participant_put : (spec : Spec) (last : Last) (w : World) (i : InstanceId) (p : Participant) → IsScripted spec last w → has_fetched spec w.history p ≡ true
    → IsScripted spec last (record w { participants = slice_set w.participants i.0 p })
participant_put spec last w i p s is =
    told_alike spec last w w.weight (slice_set w.participants i.0 p) w.jobs w.bag s s.of.bag (all-put (has_fetched spec w.history) w.participants i.0 p s.of.accepted is)

pub participant_there : (spec : Spec) (last : Last) (w : World) (i : InstanceId) → IsScripted spec last w → has_fetched spec w.history (participant_of w i) ≡ true
participant_there spec last w i s = item_at (has_fetched spec w.history) w.participants i.0 new_participant s.of.accepted refl

-- slots
put-slot : (p : Slot → Bool) (xs : List Slot) (y : Slot) → list_all p xs ≡ true → p y ≡ true → list_all p (put_slot xs y) ≡ true
put-slot p [] y all is = grind (arith, is)
put-slot p (x ∷ xs) y all is = grind (arith, all, is, put-slot p xs y)

slot-of : (p : Slot → Bool) (xs : List Slot) (q : PartId) → list_all p xs ≡ true → p (new_slot q) ≡ true → p (slot_in xs q) ≡ true
slot-of p xs q all new = one (find (λ x. part_eq x.part q) xs) refl
  where
    one : (o : Option Slot) → find (λ x. part_eq x.part q) xs ≡ o → p (unwrap_or o (new_slot q)) ≡ true
    one None is = new
    one (Some x) is = all-find p (λ x. part_eq x.part q) xs x all is

all-emptied : (spec : Spec) (h : List Event) (xs : List Slot) → list_all (is_slot_fetched spec h) (map emptied xs) ≡ true
all-emptied spec h [] = refl
all-emptied spec h (x ∷ xs) = all-emptied spec h xs

-- participants
adopted_fetched : (spec : Spec) (h : List Event) (w : Participant) (session : Option SessionId) → has_fetched spec h (adopt w session) ≡ true
adopted_fetched spec h w session = all-emptied spec h w.slots

finished_fetched : (spec : Spec) (h : List Event) (w : Participant) (m : Message) (outcome : Option Outcome) (runs : Option ℕ) → has_fetched spec h w ≡ true
    → has_fetched spec h (finish w m outcome runs) ≡ true
finished_fetched spec h w m outcome runs all = put-slot (is_slot_fetched spec h) w.slots (brought (slot_of w m.part) (end_of m outcome) runs) all refl

pub accepting_fetched : (spec : Spec) (h : List Event) (w : Participant) (m : Message) → has_fetched spec h w ≡ true → is_fetched spec h m ≡ true → has_fetched spec h (accept w m) ≡ true
accepting_fetched spec h w m all is = put-slot (is_slot_fetched spec h) w.slots (accepted (slot_of w m.part) m) all is

handed_fetched : (spec : Spec) (h : List Event) (w : Participant) (m : Message) (is_failed : Bool) → has_fetched spec h w ≡ true → has_fetched spec h (hand_out w m is_failed) ≡ true
handed_fetched spec h w m is_failed all =
    let ready = made_ready (slot_of w m.part) m is_failed in
    let first = put-slot (is_slot_fetched spec h) w.slots ready all (slot-of (is_slot_fetched spec h) w.slots m.part all refl) in
    put-slot (is_slot_fetched spec h) (put_slot w.slots ready) (emptied_for (slot_of (readied w m is_failed) m.part) m) first refl

work-accepted : (spec : Spec) (h : List Event) (w : Work) (m : Message) → is_work_fetched spec h w ≡ true → accepted_of w ≡ Some m → is_fetched spec h m ≡ true
work-accepted spec h (Accepted n) m is e = let same : n ≡ m = cc in subst (λ (x : Message). is_fetched spec h x ≡ true) same is
work-accepted spec h Idle m is e = cc
work-accepted spec h (Out n is_held) m is e = cc

pub accepted_fetched : (spec : Spec) (h : List Event) (w : Participant) (id : MsgId) (m : Message) → has_fetched spec h w ≡ true → accepted_by w id ≡ Some m → is_fetched spec h m ≡ true
accepted_fetched spec h w id m all e = one (find (λ x. has_accepted id x.work) w.slots) refl e
  where
    one : (o : Option Slot) → find (λ x. has_accepted id x.work) w.slots ≡ o → accepted_in o ≡ Some m → is_fetched spec h m ≡ true
    one None is e = cc
    one (Some x) is e = work-accepted spec h x.work m (all-find (is_slot_fetched spec h) (λ x. has_accepted id x.work) w.slots x all is) e

-- jobs that end, and a session that is adopted
pub job_ended : (spec : Spec) (last : Last) (j : Job) (x : State) → IsScripted spec last x.world → IsScripted spec last (Jobs.end_job j x).world
job_ended spec last j x s =
    let w = participant_of x.world j.instance in
    let y = finish w j.message (Some j.outcome) j.handler in
    let put = participant_put spec last x.world j.instance y s (finished_fetched spec x.world.history w j.message (Some j.outcome) j.handler (participant_there spec last x.world j.instance s)) in
    jobs_there spec last (with_participant j.instance y x).world (Jobs.end_job j x).world.jobs put

jobs_ended : (spec : Spec) (last : Last) (js : List Job) (x : State) → IsScripted spec last x.world → IsScripted spec last (Jobs.end_jobs js x).world
jobs_ended spec last [] x s = s
jobs_ended spec last (j ∷ js) x s = jobs_ended spec last js (Jobs.end_job j x) (job_ended spec last j x s)

pub adopted_there : (spec : Spec) (last : Last) (i : InstanceId) (session : Option SessionId) (x : State) → IsScripted spec last x.world → IsScripted spec last (Jobs.adopt_in i session x).world
adopted_there spec last i session x s =
    let y = Jobs.end_jobs (Jobs.jobs_of i x) x in
    participant_put spec last y.world i (adopt (participant_of y.world i) session) (jobs_ended spec last (Jobs.jobs_of i x) x s)
    (adopted_fetched spec y.world.history (participant_of y.world i) session)

-- their history is as it was
pub history_kept : (js : List Job) (x : State) → (Jobs.end_jobs js x).world.history ≡ x.world.history
history_kept [] x = refl
history_kept (j ∷ js) x = history_kept js (Jobs.end_job j x)

-- the bag
put-message : (p : Message → Bool) (bag : List Message) (m : Message) → list_all p bag ≡ true → p m ≡ true → list_all p (Jobs.put_in_bag bag m) ≡ true
put-message p [] m all is = grind (arith, is)
put-message p (x ∷ xs) m all is = grind (arith, all, is, put-message p xs m)

put-messages : (p : Message → Bool) (bag ms : List Message) → list_all p bag ≡ true → list_all p ms ≡ true → list_all p (Jobs.put_all bag ms) ≡ true
put-messages p bag [] all more = all
put-messages p bag (m ∷ ms) all more =
    put-messages p (Jobs.put_in_bag bag m) ms (put-message p bag m all (and-first (p m) (list_all p ms) more)) (and-second (p m) (list_all p ms) more)

pub bagged_there : (spec : Spec) (last : Last) (ms : List Message) (x : State) → IsScripted spec last x.world → list_all (is_fetched spec x.world.history) ms ≡ true
    → IsScripted spec last (Jobs.bagged ms x).world
bagged_there spec last ms x s more =
    bag_there spec last x.world (Jobs.put_all x.world.bag ms) s (put-messages (is_fetched spec x.world.history) x.world.bag ms s.of.bag more)

-- what a fetch shows is fetched
has-self : (m : Message) → has_id m.session m.id m ≡ true
has-self m = let a = same-self m.session.0 in let b = same-self m.id.0 in grind (arith, a, b)

each-there : (ms : List Message) → list_all (λ m. list_any (has_id m.session m.id) ms) ms ≡ true
each-there [] = refl
each-there (n ∷ ms) =
    grind (arith, has-self n, all-le (λ (m : Message). list_any (has_id m.session m.id) ms) (λ (m : Message). list_any (has_id m.session m.id) (n ∷ ms)) (λ (m : Message) (is : list_any (has_id m.session m.id) ms ≡ true). or-second (has_id m.session m.id n) (list_any (has_id m.session m.id) ms) is) ms (each-there ms))

pub fetch_fetched : (spec : Spec) (h : List Event) (i : InstanceId) (s : Option SessionId) (n : ℕ)
    → list_all (is_fetched spec (h ++ events.Fetch i s n ∷ [])) (messages_for (replay (opening spec) h) s) ≡ true
fetch_fetched spec h i s n =
    let ms = messages_for (replay (opening spec) h) s in
    all-le (λ (m : Message). list_any (has_id m.session m.id) ms) (is_fetched spec (h ++ events.Fetch i s n ∷ []))
    (λ (m : Message) (is : list_any (has_id m.session m.id) ms ≡ true).
    ap (list_any (has_id m.session m.id)) (fetched_more (opening spec) h (events.Fetch i s n))
    ∙ any-append (has_id m.session m.id) (fetched_from (opening spec) h) ms
    ∙ or-second (list_any (has_id m.session m.id) (fetched_from (opening spec) h)) (list_any (has_id m.session m.id) ms) is)
    ms (each-there ms)

-- a message is handed out, and put back
pub handed_there : (spec : Spec) (last : Last) (i : InstanceId) (m : Message) (is_failed : Bool) (x : State) → IsScripted spec last x.world
    → IsScripted spec last (with_participant i (hand_out (participant_of x.world i) m is_failed) x).world
handed_there spec last i m is_failed x s =
    participant_put spec last x.world i (hand_out (participant_of x.world i) m is_failed) s
    (handed_fetched spec x.world.history (participant_of x.world i) m is_failed (participant_there spec last x.world i s))

pub put_back_there : (spec : Spec) (last : Last) (i : InstanceId) (m : Message) (handler : Option ℕ) (x : State) → IsScripted spec last x.world
    → IsScripted spec last (Jobs.put_back i m handler x).world
put_back_there spec last i m handler x s =
    participant_put spec last x.world i (finish (participant_of x.world i) m None handler) s
    (finished_fetched spec x.world.history (participant_of x.world i) m None handler (participant_there spec last x.world i s))

pub accepted_there : (spec : Spec) (last : Last) (i : InstanceId) (m : Message) (x : State) → IsScripted spec last x.world → is_fetched spec x.world.history m ≡ true
    → IsScripted spec last (with_participant i (accept (participant_of x.world i) m) x).world
accepted_there spec last i m x s is =
    participant_put spec last x.world i (accept (participant_of x.world i) m) s
    (accepting_fetched spec x.world.history (participant_of x.world i) m (participant_there spec last x.world i s) is)
