-- How a participant hands out a message, and how it is taken and run, or put back.
use Rattle.std.specs.Prelude.{◌≡◌, ◌+◌, ◌≤◌, ℕ, false, List, [], ◌∷◌, ◌++◌, None, Some, is_none, Result, Ok, Err}
use Rattle.hx_ids.specs.declared.InstanceId.{InstanceId}
use Rattle.hx_ids.specs.declared.SessionId.{SessionId}
use Rattle.hx_ids.specs.declared.MsgId.{MsgId}
use Rattle.hx_cluster.specs.declared.happenings.Event.TheVariants as events
use Rattle.hx_cluster.specs.declared.happenings.TakeFault.{TakeFault}
use Rattle.hx_cluster.specs.Marks.{take_refusal}
use Rattle.hx_print.specs.declared.Note.{Note}
use Rattle.hx_print.specs.declared.Note.TheVariants as notes
use Rattle.hx_board.specs.Board.{Held, happened}
use Rattle.hx_replicas.specs.Participants.{hand_out, finish}
use Rattle.hx_replicas.specs.Jobs.{ParticipantState, Job, Ran, RunsWith, IsHanded, runs_of, is_failed}
use Rattle.hx_worlds.specs.declared.Voice.{Voice}
use Rattle.hx_worlds.specs.Runs.{note}
use Rattle.hx_worlds.specs.Jobs.{do_take}
use Rattle.hx_scene.specs.Scenes.{SceneState, OpenState}
use Rattle.hx_scene.specs.Doing.{Reaches, IsCut}
use Rattle.hx_scene.specs.Made.{IsMadeBy}

-- it hands one out, for which at most one handler is made
pub record HandsOut (a b : ParticipantState) (job : Job) : Type 0 where
  pub plain : b.plain ≡ hand_out a.plain job.message (is_none job.handler)
  pub handed : IsHanded a b job
  pub made : b.made ≤ a.made + 1
  pub listed : b.listed ≡ a.listed

-- it is as it was, but for room
pub record IsStill (a b : ParticipantState) : Type 0 where
  pub plain : b.plain ≡ a.plain
  pub made : b.made ≡ a.made
  pub listed : b.listed ≡ a.listed

-- a job that was handed out is run
pub record IsRunBy (job : Job) (r : Ran) : Type 0 where
  pub message : r.message ≡ job.message
  pub runs : RunsWith job.message job.handler r.handler (is_failed r.outcome)

-- or put back
pub record IsPutBack (b c : ParticipantState) (job : Job) : Type 0 where
  pub plain : c.plain ≡ finish b.plain job.message None (runs_of job.handler)
  pub made : c.made ≡ b.made
  pub listed : c.listed ≡ b.listed

abbrev pub opened : InstanceId → Ran → OpenState
opened i r = record { instance = i; ran = r; is_written = false }

-- its message is taken on a board, and it is run and stands with the open ones
pub record IsTaken (i : InstanceId) (job : Job) (b c : Held) (jobs later : List OpenState) (answer : SessionId × MsgId) : Type 0 where
  pub told : answer ≡ (job.message.session, job.message.id)
  pub free : take_refusal b.cluster job.message.session job.message.id ≡ None
  pub made : c ≡ happened b (events.Take job.message.session job.message.id)
  pub ran : Ran
  pub run : IsRunBy job ran
  pub stands : later ≡ jobs ++ opened i ran ∷ []

-- or the board refuses it, and it is put back
pub record IsRefused (job : Job) (b c : Held) (jobs later : List OpenState) (p q : ParticipantState) (answer : Note) : Type 0 where
  pub why : answer ≡ notes.SessionEnded
  pub fault : TakeFault
  pub refused : take_refusal b.cluster job.message.session job.message.id ≡ Some fault
  pub same : c ≡ b
  pub stands : later ≡ jobs
  pub back : IsPutBack p q job

abbrev pub TakesJob : InstanceId → Job → Held → Held → List OpenState → List OpenState → ParticipantState → ParticipantState → Result (SessionId × MsgId) Note → Type 0
TakesJob i job b c jobs later p q (Ok told) = IsTaken i job b c jobs later told × (q ≡ p)
TakesJob i job b c jobs later p q (Err why) = IsRefused job b c jobs later p q why

-- for want of memory it comes no further
abbrev pub IsCutShort : InstanceId → MsgId → SceneState → SceneState → Type 0
IsCutShort i id s u = (v : Voice) (p : List ℕ) → IsCut (λ x. do_take v i id x) s p u p

-- an accepted message is taken and run, or it comes to a note of why not
abbrev pub TakesTo : InstanceId → MsgId → SceneState → SceneState → Result (SessionId × MsgId) Note → Type 0
TakesTo i id s u (Ok told) = (v : Voice) → IsMadeBy (λ x. do_take v i id x) (events.Take told.0 told.1) s u
TakesTo i id s u (Err why) = (v : Voice) (p : List ℕ) → Reaches (λ x. do_take v i id x) s p (λ x. note v why x) u p
