-- How an open job ends in a scene: acknowledged, or because its session ended.
use Rattle.std.proofs.Common.{◌≡◌, ℕ, ◌+◌, not, Bool, true, false, List, [], ◌∷◌, ◌++◌, map, take, drop, Option, None, Some, refl, sym, ap, subst, ◌∙◌}
use Rattle.std.specs.Prelude.{if◌then◌else◌, is_none, position, slice_get}
use Rattle.std.specs.List.{All}
use Rattle.hx_ids.specs.declared.InstanceId.{InstanceId}
use Rattle.hx_ids.specs.declared.MsgId.{MsgId}
use Rattle.hx_ids.specs.declared.SessionId.{SessionId}
use Rattle.hx_cluster.specs.declared.description.Failure.{Failure}
use Rattle.hx_cluster.specs.declared.happenings.Event.{Event}
use Rattle.hx_cluster.specs.declared.happenings.Event.TheVariants as events
use Rattle.hx_cluster.specs.declared.happenings.WriteRefusal.{WriteRefusal}
use Rattle.hx_cluster.specs.declared.happenings.AckFault.{AckFault}
use Rattle.hx_cluster.specs.Events.{can_write, can_ack}
use Rattle.hx_cluster.specs.Marks.{write_refusal, ack_refusal}
use Rattle.hx_print.specs.declared.Note.TheVariants as notes
use Rattle.hx_text.specs.Texts.{PutsFront}
use Rattle.hx_board.specs.Board.{Held, HasHistory, happened as on_board}
use Rattle.hx_replicas.specs.Jobs.{ParticipantState}
use Rattle.hx_scripted.proofs.Standing.{since}
use Rattle.hx_agreed.proofs.Operations.{write_keeps, ack_keeps}
use Rattle.hx_worlds.specs.World.{Answers, State}
use Rattle.hx_worlds.specs.declared.Voice.{Voice}
use Rattle.hx_worlds.specs.declared.Voice.TheVariants.{Quiet}
use Rattle.hx_worlds.specs.Runs.{Deed, GoesOn, done, and_then, make, note, items_of}
use Rattle.hx_worlds.specs.Items.{Happens}
use Rattle.hx_worlds.specs.Jobs.{do_write, write_job, do_ack, ack_job, is_job, with_written, end_job}
use Rattle.hx_scene.specs.Scenes.{SceneState, OpenState, plain_job, at, lists_of}
use Rattle.hx_scene.specs.Heard.{entry_heard}
use Rattle.hx_scene.specs.Doing.{Keeps, Reaches, Ends, IsCut}
use Rattle.hx_scene.specs.Kept.{IsScene, IsListed}
use Rattle.hx_scene.specs.Ending.{CanEnd, KeepsParts, ended_staff, plain_staff, staff_in}
use Rattle.hx_scene.proofs.Reaching.{at_happened, event_cut, event_ends, here, one_step, reaches_as, kept_going, keeps_unasked}
use Rattle.hx_scene.proofs.Standing.{valid_in}
use Rattle.hx_scene.proofs.Adopting.{AreEnding, ending_first, can_end, ends_as}
use Rattle.hx_scene.proofs.Making.{Makes, ComesTo, makes_as}
use Rattle.hx_scene.proofs.Written.{StandsAt, not_found, found, got, refusal_is}

-- the job at a place ended
record IsEnded (s : SceneState) (n : ℕ) (j : OpenState) (later : List OpenState) (after : List ParticipantState) : Type 0 where
  pub jobs : later ≡ take n s.jobs ++ drop (n + 1) s.jobs
  pub plain : plain_staff after ≡ ended_staff j (plain_staff s.staff) (staff_in s.staff j.instance).plain
  pub kept : KeepsParts s.jobs later s.staff after

abbrev pub ended_scene : SceneState → Held → List OpenState → List ParticipantState → SceneState
ended_scene s board later after = record s { board = board; staff = after; jobs = later }

ending : (s : SceneState) → IsScene s → AreEnding s.jobs s.staff
ending s is = ending_first s.jobs s.staff (record { scene = s; is = is; has_jobs = refl; has_staff = refl })

pub job_can : (s : SceneState) (n : ℕ) (j : OpenState) → IsScene s → slice_get s.jobs n ≡ Some j → CanEnd s.staff j
job_can s n j is here = can_end s.jobs s.staff n j (ending s is) here

module _ {s : SceneState} {i : InstanceId} {id : MsgId} {n : ℕ} {j : OpenState} (h : StandsAt s i id n j) {later : List OpenState} {after : List ParticipantState} (e : IsEnded s n j later after) where
  ended_at : (board : Held) (a : Answers) → end_job (plain_job j) (at (record s { board = board }) a) ≡ at (ended_scene s board later after) a
  ended_at board a = ends_as s.jobs s.staff n j (ending s h.scene) (got h) later after e.jobs e.plain e.kept (at (record s { board = board }) a)

  keeps_ended : (board : Held) → board.lines ≡ s.board.lines → Keeps s (ended_scene s board later after) []
  keeps_ended board lines =
      keeps_unasked refl e.kept.lists lines (λ c. let below = e.kept.below s.handed (c.staff, c.jobs) in record { few = c.few; staff = below.0; jobs = below.1 })

  listed_ended : All (IsListed (map (λ (p : ParticipantState). p.listed) after)) later
  listed_ended = subst (λ (l : List (Option (List Failure))). All (IsListed l) later) (sym e.kept.lists) (e.kept.listed (lists_of s) h.scene.listed)

  -- its session ended before it was written
  write_ended : (v : Voice) (fault : WriteRefusal) (a : Answers) → j.is_written ≡ false → write_refusal s.board.cluster j.ran.message.session j.ran.message.id ≡ Some fault
      → do_write v i id (at s a) ≡ note v notes.SessionEnded (at (ended_scene s s.board later after) a)
  write_ended v fault a unwritten full =
      let k = plain_job j in
      let x = at s a in
      let event : Event = events.Write k.message.session k.message.id k.outcome in
      let can : can_write s.board.cluster k.message.session k.message.id ≡ false = ap (λ (z : Option WriteRefusal). is_none z) full in
      ap (λ o. write_job v o x) (found h)
      ∙ ap (λ (b : Bool). if b then note v notes.NoJob x else if can_write s.board.cluster k.message.session k.message.id then and_then (make event x) (λ y. done (with_written k.instance k.message.id y)) else note v notes.SessionEnded (end_job k x)) unwritten
      ∙ ap (λ (b : Bool). if b then and_then (make event x) (λ y. done (with_written k.instance k.message.id y)) else note v notes.SessionEnded (end_job k x)) can
      ∙ ap (λ y. note v notes.SessionEnded y) (ended_at s.board a)

  write_reaches : (v : Voice) (fault : WriteRefusal) (p : List ℕ) → j.is_written ≡ false → write_refusal s.board.cluster j.ran.message.session j.ran.message.id ≡ Some fault
      → Reaches (λ x. do_write v i id x) s p (λ x. note v notes.SessionEnded x) (ended_scene s s.board later after) p
  write_reaches v fault p unwritten full =
      one_step (λ x. do_write v i id x) (λ x. note v notes.SessionEnded x) s p (ended_scene s s.board later after) [] (λ a _. write_ended v fault a unwritten full) refl refl (keeps_ended s.board refl)

  write_ended_scene : (fault : WriteRefusal) → j.is_written ≡ false → write_refusal s.board.cluster j.ran.message.session j.ran.message.id ≡ Some fault → IsScene (ended_scene s s.board later after)
  write_ended_scene fault unwritten full =
      let kept = kept_going {spec = s.spec} (write_reaches Quiet fault [] unwritten full) h.scene.of_history h.scene.in_step (λ a st. write_keeps s.spec (valid_in s h.scene) (since s.board.cluster.line) Quiet i id (at s a) st) in
      record { own = h.scene.own; history = h.scene.history; of_history = kept.0; in_step = kept.1; listed = listed_ended }

  -- it is acknowledged
  abbrev event : Event
  event = events.Ack j.ran.message.session j.ran.message.id

  ack_cases : (v : Voice) (a : Answers) (can : Bool) → j.is_written ≡ true → can_ack s.board.cluster j.ran.message.session j.ran.message.id ≡ can
      → do_ack v i id (at s a) ≡ (if can then and_then (make event (at s a)) (λ y. done (end_job (plain_job j) y)) else note v notes.SessionEnded (end_job (plain_job j) (at s a)))
  ack_cases v a can written is =
      let k = plain_job j in
      let x = at s a in
      ap (λ o. ack_job v o x) (found h)
      ∙ ap (λ (b : Bool). if not b then note v notes.NoJob x else if can_ack s.board.cluster k.message.session k.message.id then and_then (make event x) (λ y. done (end_job k y)) else note v notes.SessionEnded (end_job k x)) written
      ∙ ap (λ (b : Bool). if b then and_then (make event x) (λ y. done (end_job k y)) else note v notes.SessionEnded (end_job k x)) is

  ack_goes : (v : Voice) (a : Answers) → j.is_written ≡ true → ack_refusal s.board.cluster j.ran.message.session j.ran.message.id ≡ None
      → do_ack v i id (at s a) ≡ GoesOn (Happens event ∷ []) (at (ended_scene s (on_board s.board event) later after) a) tt
  ack_goes v a written free =
      let t : SceneState = record s { board = on_board s.board event } in
      ack_cases v a true written (ap (λ (z : Option AckFault). is_none z) free)
      ∙ ap (λ y. GoesOn (Happens event ∷ []) (end_job (plain_job j) y) tt) (at_happened event s t a refl)
      ∙ ap (λ y. GoesOn (Happens event ∷ []) y tt) (ended_at (on_board s.board event) a)

  ack_ends : (v : Voice) → j.is_written ≡ true → ack_refusal s.board.cluster j.ran.message.session j.ran.message.id ≡ None → (p q : List ℕ) → q ≡ p ++ entry_heard s event
      → Ends (λ x. do_ack v i id x) s p tt (ended_scene s (on_board s.board event) later after) q
  ack_ends v written free p q text =
      event_ends (λ x. do_ack v i id x) event tt [] s (ended_scene s (on_board s.board event) later after) p q (λ a _. ack_goes v a written free) refl refl (keeps_ended (on_board s.board event) refl) text

  ack_cut : (v : Voice) → j.is_written ≡ true → ack_refusal s.board.cluster j.ran.message.session j.ran.message.id ≡ None → (p q : List ℕ) → PutsFront (entry_heard s event) p q
      → IsCut (λ x. do_ack v i id x) s p (ended_scene s (on_board s.board event) later after) q
  ack_cut v written free p q front =
      event_cut (λ x. do_ack v i id x) event [] s (ended_scene s (on_board s.board event) later after) p q (λ a _. ([], ap items_of (ack_goes v a written free))) refl refl
      (keeps_ended (on_board s.board event) refl) front

  ack_scene : j.is_written ≡ true → ack_refusal s.board.cluster j.ran.message.session j.ran.message.id ≡ None → HasHistory (on_board s.board event)
      → IsScene (ended_scene s (on_board s.board event) later after)
  ack_scene written free history =
      let kept = kept_going {spec = s.spec} (ack_ends Quiet written free [] (entry_heard s event) refl) h.scene.of_history h.scene.in_step
      (λ a st. ack_keeps s.spec (valid_in s h.scene) (since s.board.cluster.line) Quiet i id (at s a) st) in
      record { own = h.scene.own; history = history; of_history = kept.0; in_step = kept.1; listed = listed_ended }

  -- or its session ended before
  ack_reaches : (v : Voice) (fault : AckFault) (p : List ℕ) → j.is_written ≡ true → ack_refusal s.board.cluster j.ran.message.session j.ran.message.id ≡ Some fault
      → Reaches (λ x. do_ack v i id x) s p (λ x. note v notes.SessionEnded x) (ended_scene s s.board later after) p
  ack_reaches v fault p written full =
      one_step (λ x. do_ack v i id x) (λ x. note v notes.SessionEnded x) s p (ended_scene s s.board later after) []
      (λ a _. ack_cases v a false written (ap (λ (z : Option AckFault). is_none z) full) ∙ ap (λ y. note v notes.SessionEnded y) (ended_at s.board a)) refl refl (keeps_ended s.board refl)

  ack_ended_scene : (fault : AckFault) → j.is_written ≡ true → ack_refusal s.board.cluster j.ran.message.session j.ran.message.id ≡ Some fault → IsScene (ended_scene s s.board later after)
  ack_ended_scene fault written full =
      let kept = kept_going {spec = s.spec} (ack_reaches Quiet fault [] written full) h.scene.of_history h.scene.in_step (λ a st. ack_keeps s.spec (valid_in s h.scene) (since s.board.cluster.line) Quiet i id (at s a) st) in
      record { own = h.scene.own; history = h.scene.history; of_history = kept.0; in_step = kept.1; listed = listed_ended }

-- it isn't written
pub ack_before : {s : SceneState} {i : InstanceId} {id : MsgId} {n : ℕ} {j : OpenState} → StandsAt s i id n j → (v : Voice) (p : List ℕ) → j.is_written ≡ false
    → Reaches (λ x. do_ack v i id x) s p (λ x. note v notes.NoJob x) s p
ack_before {s} {i} {id} {n} {j} h v p unwritten =
    reaches_as
    (λ a. ap (λ o. ack_job v o (at s a)) (found h)
    ∙ ap (λ (b : Bool). if not b then note v notes.NoJob (at s a) else if can_ack s.board.cluster j.ran.message.session j.ran.message.id then and_then (make (events.Ack j.ran.message.session j.ran.message.id) (at s a)) (λ y. done (end_job (plain_job j) y)) else note v notes.SessionEnded (end_job (plain_job j) (at s a))) unwritten)
    (here (λ x. note v notes.NoJob x) s p)

pub ack_none : (s : SceneState) (i : InstanceId) (id : MsgId) → position (λ k. is_job i id (plain_job k)) s.jobs ≡ None → (v : Voice) (p : List ℕ)
    → Reaches (λ x. do_ack v i id x) s p (λ x. note v notes.NoJob x) s p
ack_none s i id none v p = reaches_as (λ a. ap (λ o. ack_job v o (at s a)) (not_found s i id none)) (here (λ x. note v notes.NoJob x) s p)

-- by what the calls told
event_is : (j : OpenState) (s : SessionId) (id : MsgId) → s ≡ j.ran.message.session → id ≡ j.ran.message.id → events.Ack s id ≡ events.Ack j.ran.message.session j.ran.message.id
event_is j s id session number = ap (λ (z : SessionId). events.Ack z id) session ∙ ap (λ (z : MsgId). events.Ack j.ran.message.session z) number

module _ {s : SceneState} {i : InstanceId} {id : MsgId} {n : ℕ} {j : OpenState} {later : List OpenState} {after : List ParticipantState} (h : StandsAt s i id n j) (jobs : later ≡ take n s.jobs ++ drop (n + 1) s.jobs)
    (plain : (k : OpenState) → slice_get s.jobs n ≡ Some k → plain_staff after ≡ ended_staff k (plain_staff s.staff) (staff_in s.staff k.instance).plain) (kept : KeepsParts s.jobs later s.staff after) where
  ended : IsEnded s n j later after
  ended = record { jobs = jobs; plain = plain j (got h); kept = kept }

  ended_comes : {f g : State → Deed} {board : Held} → ((p : List ℕ) → Reaches f s p g (ended_scene s s.board later after) p) → IsScene (ended_scene s s.board later after) → board ≡ s.board
      → ComesTo f g s (ended_scene s board later after)
  ended_comes {f} {g} reaches scene same = subst (λ (z : Held). ComesTo f g s (ended_scene s z later after)) (sym same) (record { reaches = reaches; scene = scene })

  module _ {session : SessionId} {number : MsgId} (same_session : session ≡ j.ran.message.session) (same_number : number ≡ j.ran.message.id) where
    pub ack_makes : {board : Held} (v : Voice) → j.is_written ≡ true → ack_refusal s.board.cluster session number ≡ None → board ≡ on_board s.board (events.Ack session number)
        → Makes (λ x. do_ack v i id x) (events.Ack j.ran.message.session j.ran.message.id) s board (ended_scene s board later after)
    ack_makes {board} v written free is =
        let made : board ≡ on_board s.board (event h ended) = is ∙ ap (λ (z : Event). on_board s.board z) (event_is j session number same_session same_number) in
        let refused = refusal_is (λ (z : SessionId) (m : MsgId). ack_refusal s.board.cluster z m) j session number None same_session same_number free in
        makes_as (ap (λ (z : Held). ended_scene s z later after) made) made refl (ack_ends h ended v written refused) (ack_cut h ended v written refused) (ack_scene h ended written refused)

    pub ack_comes : {board : Held} (v : Voice) (fault : AckFault) → j.is_written ≡ true → ack_refusal s.board.cluster session number ≡ Some fault → board ≡ s.board
        → ComesTo (λ x. do_ack v i id x) (λ x. note v notes.SessionEnded x) s (ended_scene s board later after)
    ack_comes {board} v fault written full same =
        let refused = refusal_is (λ (z : SessionId) (m : MsgId). ack_refusal s.board.cluster z m) j session number (Some fault) same_session same_number full in
        ended_comes (λ p. ack_reaches h ended v fault p written refused) (ack_ended_scene h ended fault written refused) same

    pub write_comes : {board : Held} (v : Voice) (fault : WriteRefusal) → j.is_written ≡ false → write_refusal s.board.cluster session number ≡ Some fault → board ≡ s.board
        → ComesTo (λ x. do_write v i id x) (λ x. note v notes.SessionEnded x) s (ended_scene s board later after)
    write_comes {board} v fault unwritten full same =
        let refused = refusal_is (λ (z : SessionId) (m : MsgId). write_refusal s.board.cluster z m) j session number (Some fault) same_session same_number full in
        ended_comes (λ p. write_reaches h ended v fault p unwritten refused) (write_ended_scene h ended fault unwritten refused) same
