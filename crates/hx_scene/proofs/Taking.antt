-- How a message is handed out, taken and run in a scene, or put back.
use Rattle.std.proofs.Common.{◌≡◌, ℕ, ◌+◌, ◌<◌, not, Bool, true, false, List, [], ◌∷◌, ◌++◌, map, length, Option, None, Some, refl, sym, ap, ◌∙◌}
use Rattle.std.specs.Prelude.{if◌then◌else◌, is_none, slice_set, slice_index_or}
use Rattle.std.proofs.lemmas.List.{get_or-map, map-set, map-append}
use Rattle.hx_ids.specs.declared.InstanceId.{InstanceId}
use Rattle.hx_ids.specs.declared.MsgId.{MsgId}
use Rattle.hx_cluster.specs.declared.state.Message.{Message}
use Rattle.hx_cluster.specs.declared.happenings.Outcome.{Outcome}
use Rattle.hx_cluster.specs.declared.happenings.Outcome.TheVariants as outcomes
use Rattle.hx_lists.specs.Counts.{count_up}
use Rattle.hx_handler.specs.Makings.{tried_of}
use Rattle.hx_replicas.specs.Participants.{Participant, Slot, slot_of, put_slot, accepted_by, makes, made_ready, given, hand_out, leaves_error, new_participant}
use Rattle.hx_replicas.specs.Jobs.{ParticipantState, Held, Job, Ran, RunsWith, runs_of, is_failed}
use Rattle.hx_handler.specs.Makings.{tried_up}
use Rattle.hx_worlds.specs.World.{Answers, State, World, answer_of, told_outcome, participant_of, with_participant}
use Rattle.hx_worlds.specs.World.{Job as PlainJob}
use Rattle.hx_worlds.specs.declared.Voice.{Voice}
use Rattle.hx_worlds.specs.Jobs.{do_take, take_accepted, take_job, fails_to_make, handed_out, if_answered, ran, handler_after, outcome_of_run, runs_handler, job_run}
use Rattle.hx_worlds.specs.Jobs.{is_failed as is_failed_outcome}
use Rattle.hx_scene.specs.Scenes.{SceneState, plain_job, world_of, at, staff_of, new_staff, lists_of}
use Rattle.hx_scene.specs.Doing.{Asked, Gives, left}
use Rattle.hx_scene.specs.Taking.{HandsOut, opened}

-- the participant of an instance, in a scene and in its world
pub participant_at : (s : SceneState) (i : InstanceId) → i.0 < length s.staff → participant_of (world_of s) i ≡ (staff_of s i).plain
participant_at s i lt = get_or-map (λ (p : ParticipantState). p.plain) s.staff i.0 new_staff new_participant lt

pub list_at : (s : SceneState) (i : InstanceId) → i.0 < length s.staff → slice_index_or (lists_of s) i.0 None ≡ (staff_of s i).listed
list_at s i lt = get_or-map (λ (p : ParticipantState). p.listed) s.staff i.0 new_staff None lt

-- a making that isn't made makes no difference
same_ready : (x : Slot) (m : Message) (f g : Bool) → (makes x m ≡ true → f ≡ g) → made_ready x m f ≡ made_ready x m g
same_ready x m f g same = one (makes x m) same
  where
    ready : Bool → Bool → Slot
    ready b e = record { part = x.part; state = x.state; last = x.last; initial = x.initial; work = x.work; handler = if b then (if e then None else Some 0) else x.handler }

    one : (b : Bool) → (b ≡ true → f ≡ g) → ready b f ≡ ready b g
    one true e = ap (λ (t : Bool). ready true t) (e refl)
    one false e = refl

-- what a taking comes to where its making is answered so
take_as : (v : Voice) (i : InstanceId) (id : MsgId) (m : Message) (f : Bool) (h : Option ℕ) (x : State) → accepted_by (participant_of x.world i) id ≡ Some m
    → (makes (slot_of (participant_of x.world i) m.part) m ≡ true → fails_to_make i m x ≡ f) → h ≡ (made_ready (slot_of (participant_of x.world i) m.part) m f).handler
    → do_take v i id x ≡ take_job v i m h (handed_out i m f x)
take_as v i id m f h x is answer runs =
    let w = participant_of x.world i in
    let y = slot_of w m.part in
    let ready = same_ready y m (fails_to_make i m x) f answer in
    ap (λ o. take_accepted v i o x) is
    ∙ ap (λ (z : Slot). take_job v i m z.handler (if_answered (makes y m) (with_participant i (given (record { session = w.session; slots = put_slot w.slots z; tried = if makes y m then tried_up w.tried m.part else w.tried }) m) x))) ready
    ∙ ap (λ (z : Option ℕ). take_job v i m z (handed_out i m f x)) (sym runs)

-- what is asked: the making, where one is made, and the run, where a handler runs
abbrev pub asked_if : Bool → Asked → List Asked
asked_if b x = if b then x ∷ [] else []

abbrev pub making : InstanceId → Message → ℕ → Bool → Asked
making i m tried f = record { instance = i; part = m.part; is_making = true; number = tried + 1; outcome = told_outcome f }

abbrev pub running : InstanceId → Message → ℕ → Outcome → Asked
running i m runs o = record { instance = i; part = m.part; is_making = false; number = runs + 1; outcome = o }

abbrev pub making_for : InstanceId → Participant → Message → Bool → List Asked
making_for i w m f = asked_if (makes (slot_of w m.part) m) (making i m (tried_of w.tried m.part) f)

abbrev pub running_for : InstanceId → Message → Option Held → Outcome → List Asked
running_for i m None o = []
running_for i m (Some h) o = asked_if (not (leaves_error m)) (running i m h.runs o)

gives_if : (b : Bool) (x : Asked) (a : Answers) → Gives (asked_if b x) a → b ≡ true → answer_of a x.instance x.part x.is_making x.number ≡ x.outcome
gives_if true x a g e = g.0
gives_if false x a g e = cc

left_if : (b : Bool) (x : Asked) (w : World) (a : Answers) → if_answered b (record { world = w; answers = a }) ≡ record { world = w; answers = left (asked_if b x) a }
left_if true x w a = refl
left_if false x w a = refl

failed_told : (f : Bool) → is_failed_outcome (told_outcome f) ≡ f
failed_told true = refl
failed_told false = refl

-- the scene with a participant that handed out
abbrev pub with_staff : SceneState → InstanceId → ParticipantState → SceneState
with_staff s i b = record s { staff = slice_set s.staff i.0 b }

pub world_with : (s : SceneState) (i : InstanceId) (b : ParticipantState) (p : Participant) → p ≡ b.plain
    → record (world_of s) { participants = slice_set (world_of s).participants i.0 p } ≡ world_of (with_staff s i b)
world_with s i b p is =
    ap (λ ps. record (world_of s) { participants = ps })
    (ap (λ (q : Participant). slice_set (map (λ (z : ParticipantState). z.plain) s.staff) i.0 q) is ∙ sym (map-set (λ (z : ParticipantState). z.plain) s.staff i.0 b))

handed_at : (s : SceneState) (i : InstanceId) (b : ParticipantState) (job : Job) (a : Answers) → i.0 < length s.staff → HandsOut (staff_of s i) b job
    → handed_out i job.message (is_none job.handler) (at s a)
    ≡ at (with_staff s i b) (left (making_for i (staff_of s i).plain job.message (is_none job.handler)) a)
handed_at s i b job a lt h =
    let m = job.message in
    let f = is_none job.handler in
    let w = (staff_of s i).plain in
    ap (λ (p : Participant). if_answered (makes (slot_of p m.part) m) (with_participant i (hand_out p m f) (at s a))) (participant_at s i lt)
    ∙ ap (λ (z : World). if_answered (makes (slot_of w m.part) m) (record { world = z; answers = a })) (world_with s i b (hand_out w m f) (sym h.plain))
    ∙ left_if (makes (slot_of w m.part) m) (making i m (tried_of w.tried m.part) f) (world_of (with_staff s i b)) a

-- it comes to the taking of that job
pub take_at : (v : Voice) (s : SceneState) (i : InstanceId) (id : MsgId) (b : ParticipantState) (job : Job) (a : Answers) → i.0 < length s.staff → accepted_by (staff_of s i).plain id ≡ Some job.message
    → HandsOut (staff_of s i) b job → Gives (making_for i (staff_of s i).plain job.message (is_none job.handler)) a
    → do_take v i id (at s a) ≡ take_job v i job.message (runs_of job.handler) (at (with_staff s i b) (left (making_for i (staff_of s i).plain job.message (is_none job.handler)) a))
take_at v s i id b job a lt is h given =
    let m = job.message in
    let f = is_none job.handler in
    let w = (staff_of s i).plain in
    let here = participant_at s i lt in
    let asks : Asked = making i m (tried_of w.tried m.part) f in
    take_as v i id m f (runs_of job.handler) (at s a) (ap (λ (p : Participant). accepted_by p id) here ∙ is)
    (λ e.
    ap (λ (p : Participant). is_failed_outcome (answer_of a i m.part true (tried_of p.tried m.part + 1))) here
    ∙ ap is_failed_outcome (gives_if (makes (slot_of w m.part) m) asks a given (sym (ap (λ (p : Participant). makes (slot_of p m.part) m) here) ∙ e))
    ∙ failed_told f)
    (h.handed.runs ∙ ap (λ (p : Participant). (made_ready (slot_of p m.part) m f).handler) (sym here))
    ∙ ap (λ z. take_job v i m (runs_of job.handler) z) (handed_at s i b job a lt h)

-- the run
ok_is : (o : Outcome) → is_failed o ≡ false → o ≡ outcomes.Ok
ok_is outcomes.Ok e = refl
ok_is outcomes.Failed e = cc

failed_is : (o : Outcome) → is_failed o ≡ true → o ≡ outcomes.Failed
failed_is outcomes.Ok e = cc
failed_is outcomes.Failed e = refl

record IsRunAs (i : InstanceId) (m : Message) (h : Option Held) (r : Ran) (x : State) : Type 0 where
  handler : handler_after m (runs_of h) ≡ runs_of r.handler
  outcome : outcome_of_run i m (runs_of h) x ≡ r.outcome
  answers : (w : World) → if_answered (runs_handler m (runs_of h)) (record { world = w; answers = x.answers }) ≡ record { world = w; answers = left (running_for i m h r.outcome) x.answers }

run_is : (i : InstanceId) (m : Message) (h : Option Held) (r : Ran) (x : State) → RunsWith m h r.handler (is_failed r.outcome) → Gives (running_for i m h r.outcome) x.answers → IsRunAs i m h r x
run_is i m None r x runs given = none r.handler refl runs
  where
    by : (t : Bool) → leaves_error m ≡ t → (leaves_error m ≡ true → is_failed r.outcome ≡ false) × (leaves_error m ≡ false → is_failed r.outcome ≡ true)
        → (if t then outcomes.Ok else outcomes.Failed) ≡ r.outcome
    by true e k = sym (ok_is r.outcome (k.0 e))
    by false e k = sym (failed_is r.outcome (k.1 e))

    none : (g : Option Held) → r.handler ≡ g → RunsWith m None g (is_failed r.outcome) → IsRunAs i m None r x
    none None e k = record {
      handler = ap runs_of (sym e);
      outcome = by (leaves_error m) refl k;
      answers = λ w. refl;
    }
    none (Some b) e k = absurd k
run_is i m (Some h) r x runs given = some r.handler refl runs
  where
    after : (t : Bool) (g : Held) → leaves_error m ≡ t → RunsWith m (Some h) (Some g) (is_failed r.outcome) → (if not t then Some (count_up h.runs) else Some h.runs) ≡ Some g.runs
    after true g e k = ap Some (sym ((k.0 e).runs))
    after false g e k = ap Some (sym ((k.1 e).runs))

    by : (t : Bool) (g : Held) → leaves_error m ≡ t → RunsWith m (Some h) (Some g) (is_failed r.outcome)
        → (if t then outcomes.Ok else answer_of x.answers i m.part false (h.runs + 1)) ≡ r.outcome
    by true g e k = sym (ok_is r.outcome ((k.0 e).succeeds))
    by false g e k = gives_if (not (leaves_error m)) (running i m h.runs r.outcome) x.answers given (ap not e)

    some : (g : Option Held) → r.handler ≡ g → RunsWith m (Some h) g (is_failed r.outcome) → IsRunAs i m (Some h) r x
    some None e k = absurd k
    some (Some g) e k = record {
      handler = after (leaves_error m) g refl k ∙ ap runs_of (sym e);
      outcome = by (leaves_error m) g refl k;
      answers = λ w. left_if (not (leaves_error m)) (running i m h.runs r.outcome) w x.answers;
    }

abbrev pub with_open : SceneState → InstanceId → Ran → SceneState
with_open s i r = record s { jobs = s.jobs ++ opened i r ∷ [] }

pub ran_at : (s : SceneState) (i : InstanceId) (job : Job) (r : Ran) (a : Answers) → r.message ≡ job.message → RunsWith job.message job.handler r.handler (is_failed r.outcome)
    → Gives (running_for i job.message job.handler r.outcome) a
    → ran i job.message (runs_of job.handler) (at s a) ≡ at (with_open s i r) (left (running_for i job.message job.handler r.outcome) a)
ran_at s i job r a same runs given =
    let m = job.message in
    let is = run_is i m job.handler r (at s a) runs given in
    let job_is : job_run i m (runs_of job.handler) (at s a) ≡ plain_job (opened i r) =
    ap (λ (z : Option ℕ). record { instance = i; message = m; handler = z; outcome = outcome_of_run i m (runs_of job.handler) (at s a); is_written = false }) is.handler
    ∙ ap (λ (z : Outcome). record { instance = i; message = m; handler = runs_of r.handler; outcome = z; is_written = false }) is.outcome
    ∙ ap (λ (z : Message). record { instance = i; message = z; handler = runs_of r.handler; outcome = r.outcome; is_written = false }) (sym same) in
    let jobs_are : (world_of s).jobs ++ job_run i m (runs_of job.handler) (at s a) ∷ [] ≡ (world_of (with_open s i r)).jobs =
    ap (λ (z : PlainJob). map plain_job s.jobs ++ z ∷ []) job_is ∙ sym (map-append plain_job s.jobs (opened i r ∷ [])) in
    ap (λ (z : State). record { world = record z.world { jobs = z.world.jobs ++ job_run i m (runs_of job.handler) (at s a) ∷ [] }; answers = z.answers }) (is.answers (world_of s))
    ∙ ap (λ js. record { world = record (world_of s) { jobs = js }; answers = left (running_for i m job.handler r.outcome) a }) jobs_are
