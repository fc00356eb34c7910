-- How open jobs end: what is needed of them, and what becomes of the jobs and the participants.
use Rattle.std.specs.Prelude.{◌≡◌, ◌<◌, ℕ, false, List, map, length, Option, None, Some, is_some, slice_set, slice_index_or, if◌then◌else◌}
use Rattle.std.specs.List.{All}
use Rattle.std.specs.Option.{ForSome}
use Rattle.hx_ids.specs.declared.InstanceId.{InstanceId}
use Rattle.hx_ids.specs.declared.SessionId.{SessionId}
use Rattle.hx_cluster.specs.declared.description.Failure.{Failure}
use Rattle.hx_cluster.specs.declared.happenings.Admin.TheVariants as steps
use Rattle.hx_cluster.specs.declared.happenings.Did.TheVariants as dids
use Rattle.hx_cluster.specs.declared.happenings.Event.{Event}
use Rattle.hx_cluster.specs.declared.happenings.Event.TheVariants as events
use Rattle.hx_board.specs.Board.{happened}
use Rattle.hx_replicas.specs.declared.slots.Work.TheVariants.{Out}
use Rattle.hx_replicas.specs.Participants.{Participant, slot_of, any_out, finish}
use Rattle.hx_replicas.specs.Jobs.{ParticipantState, runs_of}
use Rattle.hx_worlds.specs.World.{State, participant_of}
use Rattle.hx_worlds.specs.Jobs.{adopt_in, same_session}
use Rattle.hx_scene.specs.Scenes.{SceneState, OpenState, plain_job, new_staff}
use Rattle.hx_scene.specs.Doing.{IsBelow, IsRunsBelow}
use Rattle.hx_scene.specs.Kept.{IsListed, IsScene}

abbrev pub staff_in : List ParticipantState → InstanceId → ParticipantState
staff_in staff i = slice_index_or staff i.0 new_staff

abbrev pub plain_staff : List ParticipantState → List Participant
plain_staff staff = map (λ p. p.plain) staff

-- a job can end: its message is out with its handler, which fails as its participant's list tells
pub record CanEnd (staff : List ParticipantState) (j : OpenState) : Type 0 where
  pub instance : j.instance.0 < length staff
  pub out : (slot_of (staff_in staff j.instance).plain j.ran.message.part).work ≡ Out j.ran.message (is_some j.ran.handler)
  pub listed : ForSome j.ran.handler (λ h. h.listed ≡ (staff_in staff j.instance).listed)

-- its participant has taken it back
abbrev pub ended_staff : OpenState → List Participant → Participant → List Participant
ended_staff j staff w = slice_set staff j.instance.0 (finish w j.ran.message (Some j.ran.outcome) (runs_of j.ran.handler))

-- the jobs and participants are those of a scene between operations
pub record AreOfScene (jobs : List OpenState) (staff : List ParticipantState) : Type 0 where
  pub scene : SceneState
  pub is : IsScene scene
  pub has_jobs : scene.jobs ≡ jobs
  pub has_staff : scene.staff ≡ staff

-- what the end of jobs keeps
abbrev pub AreBelow : ℕ → List OpenState → List ParticipantState → Type 0
AreBelow most jobs staff = All (IsBelow most) staff × All (λ j. IsRunsBelow most (plain_job j).handler) jobs

pub record KeepsParts (jobs later : List OpenState) (staff after : List ParticipantState) : Type 0 where
  pub lists : map (λ p. p.listed) after ≡ map (λ p. p.listed) staff
  pub below : (most : ℕ) → AreBelow most jobs staff → AreBelow most later after
  pub listed : (lists : List (Option (List Failure))) → All (IsListed lists) jobs → All (IsListed lists) later

-- a session is adopted in a world of these jobs and participants
abbrev pub with_parts : List OpenState → List ParticipantState → State → State
with_parts jobs staff x = record x { world = record x.world { participants = plain_staff staff; jobs = map plain_job jobs } }

abbrev pub Adopts : InstanceId → Option SessionId → List OpenState → List OpenState → List ParticipantState → List ParticipantState → Type 0
Adopts i session jobs later staff after = (x : State) → adopt_in i session (with_parts jobs staff x) ≡ with_parts later after x

-- where it is another one than the participant's
abbrev pub Follows : InstanceId → Option SessionId → List OpenState → List OpenState → List ParticipantState → List ParticipantState → Type 0
Follows i session jobs later staff after =
    (x : State)
    → (if same_session (participant_of (with_parts jobs staff x).world i).session session then with_parts jobs staff x else adopt_in i session (with_parts jobs staff x))
    ≡ with_parts later after x

-- an instance's session ended, and its participant with it
abbrev pub end_event : InstanceId → Event
end_event i = events.Admin (steps.End i) dids.Done

pub record HasEnded (s u : SceneState) (i : InstanceId) : Type 0 where
  pub jobs : List OpenState
  pub staff : List ParticipantState
  pub adopts : Adopts i None s.jobs jobs s.staff staff
  pub kept : KeepsParts s.jobs jobs s.staff staff
  pub left : u ≡ record s { board = happened s.board (end_event i); jobs = jobs; staff = staff }

-- no job is out
abbrev pub IsAtRest : ParticipantState → Type 0
IsAtRest p = any_out p.plain ≡ false
