-- What a taking of a message comes to in a scene, and that it keeps it.
use Rattle.std.proofs.Common.{◌≡◌, ℕ, ◌+◌, ◌≤◌, ◌<◌, ◌^◌, not, Bool, true, false, List, [], ◌∷◌, ◌++◌, map, length, Option, None, Some, refl, sym, ap, subst, ◌∙◌, arith}
use Rattle.std.proofs.lemmas.List.{length-map}
use Rattle.std.specs.Prelude.{if◌then◌else◌, ◌==◌, is_none, is_some, slice_set, slice_index_or, IfSome, Result, Ok, Err}
use Rattle.std.specs.List.{All}
use Rattle.std.specs.Option.{option_map, ForSome}
use Rattle.std.proofs.lemmas.List.{get_or_read, length-set, get_or-set_same, set-set}
use Rattle.std.proofs.lemmas.List.Elements.{All-set, All-push, All-weaker, All-get_or}
use Rattle.std.proofs.Math.Seq.{map-set_same}
use Rattle.hx_ids.specs.declared.InstanceId.{InstanceId}
use Rattle.hx_ids.specs.declared.MsgId.{MsgId}
use Rattle.hx_ids.specs.declared.SessionId.{SessionId}
use Rattle.hx_model.specs.Model.{dropped}
use Rattle.hx_cluster.specs.declared.description.Failure.{Failure}
use Rattle.hx_cluster.specs.declared.state.Message.{Message}
use Rattle.hx_cluster.specs.declared.happenings.Outcome.{Outcome}
use Rattle.hx_cluster.specs.declared.happenings.Outcome.TheVariants as outcomes
use Rattle.hx_cluster.specs.declared.happenings.Event.{Event}
use Rattle.hx_cluster.specs.declared.happenings.Event.TheVariants as events
use Rattle.hx_cluster.specs.declared.happenings.TakeFault.{TakeFault}
use Rattle.hx_cluster.specs.Events.{can_take}
use Rattle.hx_cluster.specs.Marks.{take_refusal}
use Rattle.hx_lists.specs.Counts.{count_up, CountsOn}
use Rattle.hx_handler.specs.Makings.{tried_of}
use Rattle.hx_handler.specs.Told.{IsTold}
use Rattle.hx_print.specs.declared.Note.{Note}
use Rattle.hx_print.specs.declared.Note.TheVariants as notes
use Rattle.hx_text.specs.Texts.{PutsFront}
use Rattle.hx_board.specs.Board.{Held as Board, HasHistory, happened as on_board}
use Rattle.hx_replicas.specs.Participants.{Participant, Slot, slot_of, accepted_by, makes, finish, brought, end_of, leaves_error}
use Rattle.hx_replicas.specs.declared.slots.Work.TheVariants.{Out}
use Rattle.hx_replicas.specs.Jobs.{ParticipantState, Held, Job, Ran, Done, RunsWith, runs_of, is_failed}
use Rattle.hx_replicas.proofs.Outs.{run-listed, out-job}
use Rattle.hx_scripted.specs.OfHistory.{IsOfItsHistory}
use Rattle.hx_scripted.proofs.Standing.{since}
use Rattle.hx_agreed.specs.InStep.{IsInStep}
use Rattle.hx_agreed.proofs.Operations.{take_keeps}
use Rattle.hx_worlds.specs.World.{Answers, State, told_outcome, participant_of, with_participant}
use Rattle.hx_worlds.specs.declared.Voice.{Voice}
use Rattle.hx_worlds.specs.declared.Voice.TheVariants.{Quiet}
use Rattle.hx_worlds.specs.Runs.{Deed, GoesOn, done, and_then, make, note, happened, items_of}
use Rattle.hx_worlds.specs.Items.{Happens}
use Rattle.hx_worlds.specs.Jobs.{do_take, take_accepted, put_back, ran}
use Rattle.hx_scene.specs.Scenes.{SceneState, OpenState, plain_job, world_of, at, staff_of, new_staff, lists_of}
use Rattle.hx_scene.specs.Heard.{entry_heard}
use Rattle.hx_scene.specs.Doing.{Asked, Gives, left, IsToldBy, AreTold, IsRunsBelow, IsBelow, IsCounted, Keeps, Reaches, Ends, IsCut}
use Rattle.hx_scene.specs.Kept.{IsScene, IsListed}
use Rattle.hx_scene.specs.Taking.{HandsOut, IsStill, IsRunBy, IsPutBack, IsTaken, IsRefused, TakesJob, TakesTo, opened}
use Rattle.hx_scene.specs.Made.{IsMadeBy}
use Rattle.hx_scene.proofs.Reaching.{listed_there, told_both, gives_first, gives_rest, left_both, at_happened, event_cut, event_ends, nothing_yet, one_step, kept_going, keeps_unasked}
use Rattle.hx_scene.proofs.Standing.{valid_in}
use Rattle.hx_scene.proofs.Making.{Makes, ComesTo, IsCutHere, makes_as, made_by}
use Rattle.hx_scene.proofs.Handing.{runs_more, below_more, below_handed, below_still, runs_ready, all_put}
use Rattle.hx_scene.proofs.Taking.{participant_at, list_at, asked_if, making, running, making_for, running_for, with_staff, with_open, world_with, take_at, ran_at}

-- a message is handed out in a scene
pub record IsHandedOut (s : SceneState) (i : InstanceId) (id : MsgId) (b : ParticipantState) (job : Job) : Type 0 where
  pub scene : IsScene s
  pub instance : i.0 < length s.staff
  pub accepted : accepted_by (staff_of s i).plain id ≡ Some job.message
  pub hands : HandsOut (staff_of s i) b job
  pub few : s.handed < 2 ^ 62

-- the scene then
abbrev pub taken_scene : SceneState → InstanceId → ParticipantState → Event → Ran → SceneState
taken_scene s i b e r = record s { board = on_board s.board e; staff = slice_set s.staff i.0 b; jobs = s.jobs ++ opened i r ∷ []; handed = s.handed + 1 }

abbrev pub back_scene : SceneState → InstanceId → ParticipantState → ParticipantState → SceneState
back_scene s i b c = record s { staff = slice_set (slice_set s.staff i.0 b) i.0 c; handed = s.handed + 1 }

abbrev pub asked_by : SceneState → InstanceId → Job → List Asked
asked_by s i job = making_for i (staff_of s i).plain job.message (is_none job.handler)

-- what lists tell
told_of : (o : Option (List Failure)) (x : Asked) (f : Bool) → x.outcome ≡ told_outcome f → IsTold o x.part x.is_making x.number f → IsToldBy o x
told_of None x f e t = tt
told_of (Some failures) x f e t = e ∙ ap told_outcome t

told_if : (lists : List (Option (List Failure))) (b : Bool) (x : Asked) → x.instance.0 < length lists → (b ≡ true → IsToldBy (slice_index_or lists x.instance.0 None) x) → AreTold lists (asked_if b x)
told_if lists true x lt t = (subst (λ (o : Option (List Failure)). IsToldBy o x) (sym (listed_there lists x.instance.0 (Some []) lt)) (t refl), tt)
told_if lists false x lt t = tt

has_list : (s : SceneState) (i : InstanceId) → i.0 < length s.staff → i.0 < length (lists_of s)
has_list s i lt = let many = length-map s.staff (λ (p : ParticipantState). p.listed) in omega (arith, many, lt)

as_told : (o : Outcome) → o ≡ told_outcome (is_failed o)
as_told outcomes.Ok = refl
as_told outcomes.Failed = refl

counts_on : (most n : ℕ) → most < 2 ^ 62 → n ≤ most + 1 → CountsOn n
counts_on most n few e = omega arith

below_at : (s : SceneState) (i : InstanceId) → i.0 < length s.staff → All (IsBelow s.handed) s.staff → IsBelow s.handed (staff_of s i)
below_at s i lt all = All-get_or (IsBelow s.handed) s.staff i.0 new_staff lt all

not_true : (b : Bool) → not b ≡ true → b ≡ false
not_true true e = cc
not_true false e = refl

-- what comes back stays within bounds
runs_back : (n : ℕ) (t : Bool) (h : Option ℕ) → IsRunsBelow n h → IsRunsBelow n (if t then None else h)
runs_back n true h e = tt
runs_back n false h e = e

finished_below : (n : ℕ) (b c : ParticipantState) (m : Message) (o : Option Outcome) (h : Option ℕ) → c.plain ≡ finish b.plain m o h → c.made ≡ b.made → IsRunsBelow n h → IsBelow n b → IsBelow n c
finished_below n b c m o h plain made runs below =
    let P = λ (x : Slot). IsRunsBelow n x.handler in
    record {
      made = let was = below.made in omega (arith, was, made);
      tried = λ q. subst (λ (w : Participant). tried_of w.tried q ≤ n) (sym plain) (below.tried q);
      runs = subst (λ (w : Participant). All P w.slots) (sym plain)
          (all_put P b.plain.slots (brought (slot_of b.plain m.part) (end_of m o) h) below.runs (runs_back n ((end_of m o).0 == dropped.0) h runs));
    }

-- a run stays within bounds
up_below : (n r : ℕ) → r ≤ n → count_up r ≤ n + 1
up_below n r e = omega arith

run_below : (n : ℕ) (m : Message) (h g : Option Held) (f : Bool) → RunsWith m h g f → IsRunsBelow n (runs_of h) → IsRunsBelow (n + 1) (runs_of g)
run_below n m None None f k e = tt
run_below n m None (Some b) f k e = absurd k
run_below n m (Some a) None f k e = absurd k
run_below n m (Some a) (Some b) f k e = one (leaves_error m) refl
  where
    one : (t : Bool) → leaves_error m ≡ t → b.runs ≤ n + 1
    one true is = let same : b.runs ≡ a.runs = (k.0 is).runs in omega (arith, same, e)
    one false is = let up : b.runs ≡ count_up a.runs = (k.1 is).runs in let le = up_below n a.runs e in omega (arith, up, le)

module _ {s : SceneState} {i : InstanceId} {id : MsgId} {b : ParticipantState} {job : Job} (h : IsHandedOut s i id b job) where
  handler_below : IsCounted s → IsRunsBelow s.handed (runs_of job.handler)
  handler_below c = subst (IsRunsBelow s.handed) (sym h.hands.handed.runs) (runs_ready s.handed (staff_of s i) job.message (is_none job.handler) (below_at s i h.instance c.staff))

  staff_below : IsCounted s → All (IsBelow (s.handed + 1)) (slice_set s.staff i.0 b)
  staff_below c =
      All-set (IsBelow (s.handed + 1)) s.staff i.0 b (below_handed s.handed (staff_of s i) b job h.hands (below_at s i h.instance c.staff))
      (All-weaker (IsBelow s.handed) (IsBelow (s.handed + 1)) (λ p e. below_more s.handed p e) s.staff c.staff)

  jobs_below : IsCounted s → All (λ j. IsRunsBelow (s.handed + 1) (plain_job j).handler) s.jobs
  jobs_below c = All-weaker (λ j. IsRunsBelow s.handed (plain_job j).handler) (λ j. IsRunsBelow (s.handed + 1) (plain_job j).handler) (λ j e. runs_more s.handed (plain_job j).handler e) s.jobs c.jobs

  made_told : IsCounted s → AreTold (lists_of s) (asked_by s i job)
  made_told c =
      let a = staff_of s i in
      let m = job.message in
      let below = below_at s i h.instance c.staff in
      let made : b.made ≤ s.handed + 1 = let was = below.made in let now = h.hands.made in omega (arith, was, now) in
      let tried : tried_of a.plain.tried m.part ≤ s.handed + 1 = let was = below.tried m.part in omega (arith, was) in
      told_if (lists_of s) (makes (slot_of a.plain m.part) m) (making i m (tried_of a.plain.tried m.part) (is_none job.handler)) (has_list s i h.instance)
      (λ e. subst (λ (o : Option (List Failure)). IsToldBy o (making i m (tried_of a.plain.tried m.part) (is_none job.handler))) (sym (list_at s i h.instance))
      (told_of a.listed (making i m (tried_of a.plain.tried m.part) (is_none job.handler)) (is_none job.handler) refl
      ((h.hands.handed.answer e).told (counts_on s.handed b.made h.few made) (counts_on s.handed (tried_of a.plain.tried m.part) h.few tried))))

  lists_with : map (λ (p : ParticipantState). p.listed) (slice_set s.staff i.0 b) ≡ lists_of s
  lists_with = map-set_same (λ (p : ParticipantState). p.listed) s.staff i.0 b new_staff h.hands.listed

  -- the run
  run_told : (r : Ran) → IsRunBy job r → IsCounted s → AreTold (lists_of s) (running_for i job.message job.handler r.outcome)
  run_told r k c = one job.handler refl r.handler refl
    where
      one : (g : Option Held) → job.handler ≡ g → (g' : Option Held) → r.handler ≡ g' → AreTold (lists_of s) (running_for i job.message g r.outcome)
      one None e g' e' = tt
      one (Some x) e None e' =
          absurd (subst (λ (z : Option Held). RunsWith job.message (Some x) z (is_failed r.outcome)) e' (subst (λ (z : Option Held). RunsWith job.message z r.handler (is_failed r.outcome)) e k.runs))
      one (Some x) e (Some y) e' =
          let runs : RunsWith job.message (Some x) (Some y) (is_failed r.outcome) =
          subst (λ (z : Option Held). RunsWith job.message (Some x) z (is_failed r.outcome)) e' (subst (λ (z : Option Held). RunsWith job.message z r.handler (is_failed r.outcome)) e k.runs) in
          let few : x.runs ≤ s.handed = subst (λ (z : Option Held). IsRunsBelow s.handed (runs_of z)) e (handler_below c) in
          let list : x.listed ≡ slice_index_or (lists_of s) i.0 None = h.hands.handed.listed x e ∙ sym (list_at s i h.instance) in
          told_if (lists_of s) (not (leaves_error job.message)) (running i job.message x.runs r.outcome) (has_list s i h.instance)
          (λ t. subst (λ (o : Option (List Failure)). IsToldBy o (running i job.message x.runs r.outcome)) list
          (told_of x.listed (running i job.message x.runs r.outcome) (is_failed r.outcome) (as_told r.outcome)
          ((runs.1 (not_true (leaves_error job.message) t)).told (counts_on s.handed x.runs h.few (omega (arith, few))))))

  keeps_taken : (e : Event) (r : Ran) → IsRunBy job r → Keeps s (taken_scene s i b e r) (asked_by s i job ++ running_for i job.message job.handler r.outcome)
  keeps_taken e r k = record {
    muted = refl;
    lists = lists_with;
    lines = refl;
    told = λ c. (
      record {
        few = let few = h.few in omega (arith, few);
        staff = staff_below c;
        jobs = All-push (λ j. IsRunsBelow (s.handed + 1) (plain_job j).handler) s.jobs (opened i r) (jobs_below c)
            (run_below s.handed job.message job.handler r.handler (is_failed r.outcome) k.runs (handler_below c));
      },
      told_both (lists_of s) (asked_by s i job) (running_for i job.message job.handler r.outcome) (made_told c) (run_told r k c),
    );
  }

  taken_goes : (v : Voice) (r : Ran) → IsRunBy job r → take_refusal s.board.cluster job.message.session job.message.id ≡ None → (a : Answers)
      → Gives (asked_by s i job ++ running_for i job.message job.handler r.outcome) a
      → do_take v i id (at s a)
      ≡ GoesOn (Happens (events.Take job.message.session job.message.id) ∷ [])
      (at (taken_scene s i b (events.Take job.message.session job.message.id) r) (left (asked_by s i job ++ running_for i job.message job.handler r.outcome) a)) tt
  taken_goes v r k free a given =
      let m = job.message in
      let e : Event = events.Take m.session m.id in
      let t = with_staff s i b in
      let t2 : SceneState = record t { board = on_board s.board e } in
      let first = asked_by s i job in
      let more = running_for i m job.handler r.outcome in
      let o = left first a in
      let can : can_take s.board.cluster m.session m.id ≡ true = ap (λ (z : Option TakeFault). is_none z) free in
      let end : ran i m (runs_of job.handler) (happened e (at t o)) ≡ at (with_open t2 i r) (left more o) =
      ap (λ x. ran i m (runs_of job.handler) x) (at_happened e t t2 o refl) ∙ ran_at t2 i job r o k.message k.runs (gives_rest first more a given) in
      take_at v s i id b job a h.instance h.accepted h.hands (gives_first first more a given)
      ∙ ap (λ (z : Bool). if z then and_then (make e (at t o)) (λ y. done (ran i m (runs_of job.handler) y)) else note v notes.SessionEnded (put_back i m (runs_of job.handler) (at t o))) can
      ∙ ap (λ x. GoesOn (Happens e ∷ []) x tt) (end ∙ ap (λ z. at (with_open t2 i r) z) (sym (left_both first more a)))

  -- the event is made, the scene is as that tells, and it is printed, whole or by a front
  take_ends : (v : Voice) (r : Ran) → IsRunBy job r → take_refusal s.board.cluster job.message.session job.message.id ≡ None → (p q : List ℕ)
      → q ≡ p ++ entry_heard s (events.Take job.message.session job.message.id)
      → Ends (λ x. do_take v i id x) s p tt (taken_scene s i b (events.Take job.message.session job.message.id) r) q
  take_ends v r k free p q text =
      let e : Event = events.Take job.message.session job.message.id in
      event_ends (λ x. do_take v i id x) e tt (asked_by s i job ++ running_for i job.message job.handler r.outcome) s (taken_scene s i b e r) p q (λ a given. taken_goes v r k free a given) refl refl
      (keeps_taken e r k) text

  take_cut : (v : Voice) (r : Ran) → IsRunBy job r → take_refusal s.board.cluster job.message.session job.message.id ≡ None → (p q : List ℕ)
      → PutsFront (entry_heard s (events.Take job.message.session job.message.id)) p q
      → IsCut (λ x. do_take v i id x) s p (taken_scene s i b (events.Take job.message.session job.message.id) r) q
  take_cut v r k free p q front =
      let e : Event = events.Take job.message.session job.message.id in
      event_cut (λ x. do_take v i id x) e (asked_by s i job ++ running_for i job.message job.handler r.outcome) s (taken_scene s i b e r) p q (λ a given. ([], ap items_of (taken_goes v r k free a given)))
      refl refl (keeps_taken e r k) front

  take_scene : (r : Ran) → IsRunBy job r → take_refusal s.board.cluster job.message.session job.message.id ≡ None
      → HasHistory (on_board s.board (events.Take job.message.session job.message.id)) → IsScene (taken_scene s i b (events.Take job.message.session job.message.id) r)
  take_scene r k free history =
      let e : Event = events.Take job.message.session job.message.id in
      let text = entry_heard s e in
      let kept = kept_going {spec = s.spec} (take_ends Quiet r k free [] text refl) h.scene.of_history h.scene.in_step (λ a st. take_keeps s.spec (valid_in s h.scene) (since s.board.cluster.line) Quiet i id (at s a) st) in
      record {
        own = h.scene.own;
        history = history;
        of_history = kept.0;
        in_step = kept.1;
        listed = subst (λ (l : List (Option (List Failure))). All (IsListed l) (s.jobs ++ opened i r ∷ [])) (sym lists_with)
            (All-push (IsListed (lists_of s)) s.jobs (opened i r) h.scene.listed
            (subst (λ (o : Option (List Failure)). ForSome r.handler (λ z. z.listed ≡ o)) (sym (list_at s i h.instance))
            (run-listed job.message job.handler r.handler (is_failed r.outcome) (staff_of s i).listed k.runs h.hands.handed.listed)));
      }

  -- it is put back
  back_at : (c : ParticipantState) (a : Answers) → IsPutBack b c job → put_back i job.message (runs_of job.handler) (at (with_staff s i b) a) ≡ at (back_scene s i b c) a
  back_at c a k =
      let t = with_staff s i b in
      let within : i.0 < length t.staff = subst (λ (n : ℕ). i.0 < n) (sym (length-set s.staff i.0 b)) h.instance in
      let here : participant_of (world_of t) i ≡ b.plain = participant_at t i within ∙ ap (λ (p : ParticipantState). p.plain) (get_or-set_same s.staff i.0 b new_staff h.instance) in
      ap (λ (w : Participant). with_participant i (finish w job.message None (runs_of job.handler)) (at t a)) here
      ∙ ap (λ w. record { world = w; answers = a }) (world_with t i c (finish b.plain job.message None (runs_of job.handler)) (sym k.plain))

  back_goes : (v : Voice) (c : ParticipantState) (fault : TakeFault) → IsPutBack b c job → take_refusal s.board.cluster job.message.session job.message.id ≡ Some fault → (a : Answers)
      → Gives (asked_by s i job) a → do_take v i id (at s a) ≡ note v notes.SessionEnded (at (back_scene s i b c) (left (asked_by s i job) a))
  back_goes v c fault k full a given =
      let m = job.message in
      let e : Event = events.Take m.session m.id in
      let t = with_staff s i b in
      let o = left (asked_by s i job) a in
      let can : can_take s.board.cluster m.session m.id ≡ false = ap (λ (z : Option TakeFault). is_none z) full in
      take_at v s i id b job a h.instance h.accepted h.hands given
      ∙ ap (λ (z : Bool). if z then and_then (make e (at t o)) (λ y. done (ran i m (runs_of job.handler) y)) else note v notes.SessionEnded (put_back i m (runs_of job.handler) (at t o))) can
      ∙ ap (λ x. note v notes.SessionEnded x) (back_at c o k)

  lists_back : (c : ParticipantState) → IsPutBack b c job → lists_of (back_scene s i b c) ≡ lists_of s
  lists_back c k =
      map-set_same (λ (p : ParticipantState). p.listed) (slice_set s.staff i.0 b) i.0 c new_staff
      (k.listed ∙ ap (λ (p : ParticipantState). p.listed) (sym (get_or-set_same s.staff i.0 b new_staff h.instance)))
      ∙ lists_with

  back_below : (c : ParticipantState) → IsPutBack b c job → IsCounted s → IsBelow (s.handed + 1) c
  back_below c k n =
      let below = below_handed s.handed (staff_of s i) b job h.hands (below_at s i h.instance n.staff) in
      finished_below (s.handed + 1) b c job.message None (runs_of job.handler) k.plain k.made (runs_more s.handed (runs_of job.handler) (handler_below n)) below

  keeps_back : (c : ParticipantState) → IsPutBack b c job → Keeps s (back_scene s i b c) (asked_by s i job)
  keeps_back c k = record {
    muted = refl;
    lists = lists_back c k;
    lines = refl;
    told = λ n. (
      record {
        few = let few = h.few in omega (arith, few);
        staff = All-set (IsBelow (s.handed + 1)) (slice_set s.staff i.0 b) i.0 c (back_below c k n) (staff_below n);
        jobs = jobs_below n;
      },
      made_told n,
    );
  }

  back_reaches : (v : Voice) (c : ParticipantState) (fault : TakeFault) → IsPutBack b c job → take_refusal s.board.cluster job.message.session job.message.id ≡ Some fault → (p : List ℕ)
      → Reaches (λ x. do_take v i id x) s p (λ x. note v notes.SessionEnded x) (back_scene s i b c) p
  back_reaches v c fault k full p =
      one_step (λ x. do_take v i id x) (λ x. note v notes.SessionEnded x) s p (back_scene s i b c) (asked_by s i job) (λ a given. back_goes v c fault k full a given) refl refl (keeps_back c k)

  back_is : (c : ParticipantState) (fault : TakeFault) → IsPutBack b c job → take_refusal s.board.cluster job.message.session job.message.id ≡ Some fault → IsScene (back_scene s i b c)
  back_is c fault k full =
      let kept = kept_going {spec = s.spec} (back_reaches Quiet c fault k full []) h.scene.of_history h.scene.in_step (λ a st. take_keeps s.spec (valid_in s h.scene) (since s.board.cluster.line) Quiet i id (at s a) st) in
      record {
        own = h.scene.own;
        history = h.scene.history;
        of_history = kept.0;
        in_step = kept.1;
        listed = subst (λ (l : List (Option (List Failure))). All (IsListed l) s.jobs) (sym (lists_back c k)) h.scene.listed;
      }

-- nothing is handed out
module _ {s : SceneState} {i : InstanceId} {b : ParticipantState} (scene : IsScene s) (lt : i.0 < length s.staff) (still : IsStill (staff_of s i) b) where
  still_world : world_of (with_staff s i b) ≡ world_of s
  still_world = ap (λ ps. record (world_of s) { participants = ps }) (map-set_same (λ (p : ParticipantState). p.plain) s.staff i.0 b new_staff still.plain)

  still_lists : lists_of (with_staff s i b) ≡ lists_of s
  still_lists = map-set_same (λ (p : ParticipantState). p.listed) s.staff i.0 b new_staff still.listed

  keeps_still : Keeps s (with_staff s i b) []
  keeps_still = keeps_unasked refl still_lists refl (λ c. record {
    few = c.few;
    staff = All-set (IsBelow s.handed) s.staff i.0 b (below_still s.handed (staff_of s i) b still (below_at s i lt c.staff)) c.staff;
    jobs = c.jobs;
  })

  still_scene : IsScene (with_staff s i b)
  still_scene = record {
    own = scene.own;
    history = scene.history;
    of_history = subst (IsOfItsHistory s.spec) (sym still_world) scene.of_history;
    in_step = subst IsInStep (sym still_world) scene.in_step;
    listed = subst (λ (l : List (Option (List Failure))). All (IsListed l) s.jobs) (sym still_lists) scene.listed;
  }

  still_cut : (f : State → Deed) (p : List ℕ) → IsCut f s p (with_staff s i b) p
  still_cut f p = nothing_yet f s p (with_staff s i b) refl refl keeps_still

  none_reaches : (v : Voice) (id : MsgId) (p : List ℕ) → accepted_by (staff_of s i).plain id ≡ None → Reaches (λ x. do_take v i id x) s p (λ x. note v notes.NoJob x) (with_staff s i b) p
  none_reaches v id p none =
      one_step (λ x. do_take v i id x) (λ x. note v notes.NoJob x) s p (with_staff s i b) []
      (λ a _. ap (λ (w : Participant). take_accepted v i (accepted_by w id) (at s a)) (participant_at s i lt) ∙ ap (λ o. take_accepted v i o (at s a)) none
      ∙ ap (λ w. note v notes.NoJob (record { world = w; answers = a })) (sym still_world))
      refl refl keeps_still

-- by what the calls told
pub handed_of : (s : SceneState) (i : InstanceId) (id : MsgId) (a b : ParticipantState) (found : Option Job) (job : Job) → IsScene s → i.0 < length s.staff → a ≡ slice_index_or s.staff i.0 a
    → option_map (λ j. j.message) found ≡ accepted_by a.plain id → IfSome found (HandsOut a b) → found ≡ Some job → s.handed < 2 ^ 62 → IsHandedOut s i id b job
handed_of s i id a b found job scene lt at_i asked some is few =
    let here : a ≡ staff_of s i = get_or_read s.staff i.0 a lt at_i new_staff in
    record {
      scene = scene;
      instance = lt;
      accepted = ap (λ (p : ParticipantState). accepted_by p.plain id) (sym here) ∙ sym asked ∙ ap (λ o. option_map (λ j. j.message) o) is;
      hands = subst (λ (p : ParticipantState). HandsOut p b job) here (subst (λ o. IfSome o (HandsOut a b)) is some);
      few = few;
    }

still_of : (s : SceneState) (i : InstanceId) (a b : ParticipantState) → i.0 < length s.staff → a ≡ slice_index_or s.staff i.0 a → IsStill a b → IsStill (staff_of s i) b
still_of s i a b lt at_i still = subst (λ (p : ParticipantState). IsStill p b) (get_or_read s.staff i.0 a lt at_i new_staff) still

none_of : (s : SceneState) (i : InstanceId) (id : MsgId) (a : ParticipantState) (found : Option Job) → i.0 < length s.staff → a ≡ slice_index_or s.staff i.0 a
    → option_map (λ j. j.message) found ≡ accepted_by a.plain id → found ≡ None → accepted_by (staff_of s i).plain id ≡ None
none_of s i id a found lt at_i asked is =
    ap (λ (p : ParticipantState). accepted_by p.plain id) (sym (get_or_read s.staff i.0 a lt at_i new_staff)) ∙ sym asked ∙ ap (λ o. option_map (λ j. j.message) o) is

scene_is : (s : SceneState) (i : InstanceId) (b : ParticipantState) (board : Board) (jobs reserved : List OpenState) (e : Event) (r : Ran) → board ≡ on_board s.board e → jobs ≡ reserved ++ opened i r ∷ []
    → reserved ≡ s.jobs → record s { board = board; staff = slice_set s.staff i.0 b; jobs = jobs; handed = s.handed + 1 } ≡ taken_scene s i b e r
scene_is s i b board jobs reserved e r is pushed same =
    let are : jobs ≡ s.jobs ++ opened i r ∷ [] = pushed ∙ ap (λ (js : List OpenState). js ++ opened i r ∷ []) same in
    ap (λ (z : Board). record s { board = z; staff = slice_set s.staff i.0 b; jobs = jobs; handed = s.handed + 1 }) is
    ∙ ap (λ js. record s { board = on_board s.board e; staff = slice_set s.staff i.0 b; jobs = js; handed = s.handed + 1 }) are

-- what runs it asks for
pub handed_out : {s : SceneState} {i : InstanceId} {id : MsgId} {b : ParticipantState} {job : Job} → IsHandedOut s i id b job → (slot_of b.plain job.message.part).work ≡ Out job.message (is_some job.handler)
handed_out {s} {i} {id} {b} {job} h = out-job (staff_of s i) b job h.hands.plain h.hands.handed

pub handed_listed : {s : SceneState} {i : InstanceId} {id : MsgId} {b : ParticipantState} {job : Job} → IsHandedOut s i id b job → ForSome job.handler (λ y. y.listed ≡ b.listed)
handed_listed h y e = h.hands.handed.listed y e ∙ sym h.hands.listed

-- a job that was handed out goes back
abbrev put_of : Job → Done
put_of job = record { message = job.message; handler = job.handler; outcome = None }

pub put_out : {job : Job} (p : ParticipantState) (d : Done) → d ≡ put_of job → (slot_of p.plain job.message.part).work ≡ Out job.message (is_some job.handler)
    → (slot_of p.plain d.message.part).work ≡ Out d.message (is_some d.handler)
put_out p d is out = subst (λ (z : Done). (slot_of p.plain z.message.part).work ≡ Out z.message (is_some z.handler)) (sym is) out

pub put_listed : {job : Job} (p : ParticipantState) (d : Done) → d ≡ put_of job → ForSome job.handler (λ y. y.listed ≡ p.listed) → ForSome d.handler (λ y. y.listed ≡ p.listed)
put_listed p d is listed = subst (λ (z : Done). ForSome z.handler (λ y. y.listed ≡ p.listed)) (sym is) listed

-- by what the calls told: it was taken and run, or refused and put back
pub taken_of : {i : InstanceId} {job : Job} {b c : Board} {jobs later : List OpenState} {m : Message} (p : ParticipantState) (r : Ran) → m ≡ job.message → take_refusal b.cluster m.session m.id ≡ None
    → c ≡ on_board b (events.Take m.session m.id) → IsRunBy job r → later ≡ jobs ++ opened i r ∷ [] → TakesJob i job b c jobs later p p (Ok (m.session, m.id))
taken_of {i} {job} {b} {c} {jobs} {later} {m} p r same free made k pushed = (
  record {
    told = ap (λ (z : Message). (z.session, z.id)) same;
    free = subst (λ (z : Message). take_refusal b.cluster z.session z.id ≡ None) same free;
    made = made ∙ ap (λ (z : Message). on_board b (events.Take z.session z.id)) same;
    ran = r;
    run = k;
    stands = pushed;
  },
  refl,
)

pub refused_of : {job : Job} {b c : Board} {m : Message} {p q : ParticipantState} (i : InstanceId) (jobs : List OpenState) (fault : TakeFault) (d : Done) → m ≡ job.message
    → take_refusal b.cluster m.session m.id ≡ Some fault → c ≡ b → d ≡ put_of job → q.plain ≡ finish p.plain d.message d.outcome (runs_of d.handler) → q.made ≡ p.made → q.listed ≡ p.listed
    → TakesJob i job b c jobs jobs p q (Err notes.SessionEnded)
refused_of {job} {b} {c} {m} {p} {q} i jobs fault d same full stays is plain made listed = record {
  why = refl;
  fault = fault;
  refused = subst (λ (z : Message). take_refusal b.cluster z.session z.id ≡ Some fault) same full;
  same = stays;
  stands = refl;
  back = record { plain = plain ∙ ap (λ (z : Done). finish p.plain z.message z.outcome (runs_of z.handler)) is; made = made; listed = listed };
}

with_parts_is : (P : SceneState → Type 0) (s : SceneState) (board : Board) (jobs : List OpenState) → board ≡ s.board → jobs ≡ s.jobs → P s → P (record s { board = board; jobs = jobs })
with_parts_is P s board jobs is are here =
    subst (λ (z : Board). P (record s { board = z; jobs = jobs })) (sym is) (subst (λ (z : List OpenState). P (record s { jobs = z })) (sym are) here)

-- the message is taken and run, or its session has ended and it is put back; or there is none
took : {s : SceneState} {i : InstanceId} {id : MsgId} {b : ParticipantState} {job : Job} {board : Board} {jobs reserved : List OpenState} {told : SessionId × MsgId} → IsHandedOut s i id b job
    → IsTaken i job s.board board reserved jobs told → reserved ≡ s.jobs → (v : Voice)
    → Makes (λ x. do_take v i id x) (events.Take job.message.session job.message.id) s board (record s { board = board; staff = slice_set s.staff i.0 b; jobs = jobs; handed = s.handed + 1 })
took {s} {i} {id} {b} {job} {board} {jobs} {reserved} h t kept v =
    makes_as (scene_is s i b board jobs reserved (events.Take job.message.session job.message.id) t.ran t.made t.stands kept) t.made refl (take_ends h v t.ran t.run t.free) (take_cut h v t.ran t.run t.free)
    (take_scene h t.ran t.run t.free)

refused : {s : SceneState} {i : InstanceId} {id : MsgId} {b c : ParticipantState} {job : Job} {board : Board} {jobs reserved : List OpenState} {why : Note} → IsHandedOut s i id b job
    → IsRefused job s.board board reserved jobs b c why → reserved ≡ s.jobs → (v : Voice)
    → ComesTo (λ x. do_take v i id x) (λ x. note v why x) s (record s { board = board; staff = slice_set s.staff i.0 c; jobs = jobs; handed = s.handed + 1 })
refused {s} {i} {id} {b} {c} {job} {board} {jobs} {reserved} {why} h r kept v =
    subst (λ (n : Note). ComesTo (λ x. do_take v i id x) (λ x. note v n x) s (record s { board = board; staff = slice_set s.staff i.0 c; jobs = jobs; handed = s.handed + 1 })) (sym r.why)
    (subst
    (λ (z : List ParticipantState). ComesTo (λ x. do_take v i id x) (λ x. note v notes.SessionEnded x) s (record s { board = board; staff = z; jobs = jobs; handed = s.handed + 1 }))
    (set-set s.staff i.0 b c)
    (with_parts_is (λ (u : SceneState). ComesTo (λ x. do_take v i id x) (λ x. note v notes.SessionEnded x) s u) (back_scene s i b c) board jobs r.same (r.stands ∙ kept)
    (record { reaches = λ p. back_reaches h v c r.fault r.back r.refused p; scene = back_is h c r.fault r.back r.refused })))

pub run_comes : {s : SceneState} {i : InstanceId} {id : MsgId} {b : ParticipantState} {job : Job} {reserved : List OpenState} → IsHandedOut s i id b job → reserved ≡ s.jobs
    → (c : ParticipantState) (board : Board) (jobs : List OpenState) (result : Result (SessionId × MsgId) Note) → TakesJob i job s.board board reserved jobs b c result
    → TakesTo i id s (record s { board = board; staff = slice_set s.staff i.0 c; jobs = jobs; handed = s.handed + 1 }) result
run_comes {s} {i} {id} {b} {job} {reserved} h kept c board jobs (Ok told) t =
    λ v.
    subst (λ (z : SessionId × MsgId). IsMadeBy (λ x. do_take v i id x) (events.Take z.0 z.1) s (record s { board = board; staff = slice_set s.staff i.0 c; jobs = jobs; handed = s.handed + 1 })) (sym t.0.told)
    (subst
    (λ (z : ParticipantState).
    IsMadeBy (λ x. do_take v i id x) (events.Take job.message.session job.message.id) s (record s { board = board; staff = slice_set s.staff i.0 z; jobs = jobs; handed = s.handed + 1 }))
    (sym t.1) (made_by refl refl (took h t.0 kept v)))
run_comes h kept c board jobs (Err why) r = λ v p. (refused h r kept v).reaches p

pub run_scene : {s : SceneState} {i : InstanceId} {id : MsgId} {b : ParticipantState} {job : Job} {reserved : List OpenState} → IsHandedOut s i id b job → reserved ≡ s.jobs
    → (c : ParticipantState) (board : Board) (jobs : List OpenState) (result : Result (SessionId × MsgId) Note) → TakesJob i job s.board board reserved jobs b c result → HasHistory board
    → IsScene (record s { board = board; staff = slice_set s.staff i.0 c; jobs = jobs; handed = s.handed + 1 })
run_scene {s} {i} {id} {b} {job} {reserved} h kept c board jobs (Ok told) t history =
    subst (λ (z : ParticipantState). IsScene (record s { board = board; staff = slice_set s.staff i.0 z; jobs = jobs; handed = s.handed + 1 })) (sym t.1) ((took h t.0 kept Quiet).scene history)
run_scene h kept c board jobs (Err why) r history = (refused h r kept Quiet).scene

pub none_comes : {s : SceneState} {i : InstanceId} {a b : ParticipantState} {found : Option Job} {jobs : List OpenState} (v : Voice) (id : MsgId) → IsScene s → i.0 < length s.staff → a ≡ slice_index_or s.staff i.0 a → IsStill a b
    → option_map (λ j. j.message) found ≡ accepted_by a.plain id → found ≡ None → jobs ≡ s.jobs
    → ComesTo (λ x. do_take v i id x) (λ x. note v notes.NoJob x) s (record (with_staff s i b) { jobs = jobs })
none_comes {s} {i} {a} {b} {found} {jobs} v id scene lt at_i same asked is are =
    let still = still_of s i a b lt at_i same in
    with_parts_is (λ (u : SceneState). ComesTo (λ x. do_take v i id x) (λ x. note v notes.NoJob x) s u) (with_staff s i b) s.board jobs refl are
    (record { reaches = λ p. none_reaches scene lt still v id p (none_of s i id a found lt at_i asked is); scene = still_scene scene lt still })

-- no memory was there to hand it out
pub still_here : {s : SceneState} {i : InstanceId} {a b : ParticipantState} {jobs : List OpenState} (f : State → Deed) → IsScene s → i.0 < length s.staff → a ≡ slice_index_or s.staff i.0 a → IsStill a b → jobs ≡ s.jobs
    → IsCutHere f s (record (with_staff s i b) { jobs = jobs })
still_here {s} {i} {a} {b} {jobs} f scene lt at_i same are =
    let still = still_of s i a b lt at_i same in
    with_parts_is (IsCutHere f s) (with_staff s i b) s.board jobs refl are (record { cut = λ p. still_cut scene lt still f p; scene = still_scene scene lt still })
