-- What contracts see of the parts of a world, and the plain world that they are.
use Rattle.std.specs.Prelude.{◌≡◌, ◌==◌, ℕ, Bool, List, map, filter, find, Option, None, Some, slice_index_or}
use Rattle.hx_lists.specs.Lists.{sort_by}
use Rattle.hx_ids.specs.declared.InstanceId.{InstanceId}
use Rattle.hx_ids.specs.declared.MsgId.{MsgId}
use Rattle.hx_cluster.specs.declared.description.Spec.{Spec}
use Rattle.hx_cluster.specs.declared.description.Failure.{Failure}
use Rattle.hx_cluster.specs.declared.state.Message.{Message}
use Rattle.hx_board.specs.Board.{Held, weight_at}
use Rattle.hx_replicas.specs.Participants.{new_participant}
use Rattle.hx_replicas.specs.Jobs.{ParticipantState, Ran, runs_of}
use Rattle.hx_control.specs.Controllers.{Controller}
use Rattle.hx_worlds.specs.World.{World, Job, Answers, State}
use Rattle.hx_worlds.specs.Jobs.{is_job_of, job_before}

-- a job that was run on an instance, and whether its outcome was written
pub record OpenState : Type 0 where
  pub instance : InstanceId
  pub ran : Ran
  pub is_written : Bool

abbrev pub plain_job : OpenState → Job
plain_job j = record {
  instance = j.instance;
  message = j.ran.message;
  handler = runs_of j.ran.handler;
  outcome = j.ran.outcome;
  is_written = j.is_written;
}

-- the board, the controllers by number, the participants by instance, the open jobs, and the bag of what was fetched. So many messages
-- were handed out: in a scene that was put together of new participants, at most so many makings of a part's handler were tried, and at
-- most so many runs of a handler there were. A muted scene prints nothing
pub record SceneState : Type 0 where
  pub spec : Spec
  pub board : Held
  pub controllers : List Controller
  pub staff : List ParticipantState
  pub jobs : List OpenState
  pub bag : List Message
  pub handed : ℕ
  pub muted : Bool

-- the plain world
abbrev pub world_of : SceneState → World
world_of s = record {
  spec = s.spec;
  cluster = s.board.cluster;
  controllers = s.controllers;
  participants = map (λ p. p.plain) s.staff;
  jobs = map plain_job s.jobs;
  bag = s.bag;
  history = s.board.history;
  weight = weight_at s.board;
  limit = s.board.limit;
}

-- the numbers of an instance's open jobs, rising
abbrev pub open_numbers : SceneState → InstanceId → List MsgId
open_numbers s i = map (λ j. j.message.id) (sort_by job_before (filter (is_job_of i) (world_of s).jobs))

-- with the answers that handlers give from then on
abbrev pub at : SceneState → Answers → State
at s answers = record { world = world_of s; answers = answers }

-- the participant of an instance, and the lists of failures by which makings and runs fail, where they are told
abbrev pub new_staff : ParticipantState
new_staff = record { instance = record { 0 = 0 }; plain = new_participant; spare = 0; made = 0; retired = 0; faults = 0; listed = None }

abbrev pub staff_of : SceneState → InstanceId → ParticipantState
staff_of s i = slice_index_or s.staff i.0 new_staff

abbrev pub lists_of : SceneState → List (Option (List Failure))
lists_of s = map (λ p. p.listed) s.staff

-- a message stands in a bag
abbrev pub IsBagged : List Message → Message → Type 0
IsBagged bag m = find (λ n. n.id.0 == m.id.0) bag ≡ Some m
