-- The plain world in which a script is done, and the answers of handlers that a call passes through.
use Rattle.std.specs.Prelude.{ℕ, List, [], ◌∷◌, Option, map, length, replicate, slice_set, slice_index_or, if◌then◌else◌, Bool}
use Rattle.hx_lists.specs.Lists.{numbers_below}
use Rattle.hx_ids.specs.declared.InstanceId.{InstanceId}
use Rattle.hx_ids.specs.declared.ControllerId.{ControllerId}
use Rattle.hx_ids.specs.declared.PartId.{PartId}
use Rattle.hx_cluster.specs.declared.description.Spec.{Spec}
use Rattle.hx_cluster.specs.declared.description.Failure.{Failure}
use Rattle.hx_cluster.specs.declared.state.Message.{Message}
use Rattle.hx_cluster.specs.declared.state.Cluster.{Cluster}
use Rattle.hx_cluster.specs.declared.happenings.Outcome.{Outcome}
use Rattle.hx_cluster.specs.declared.happenings.Outcome.TheVariants as outcomes
use Rattle.hx_cluster.specs.declared.happenings.Event.{Event}
use Rattle.hx_cluster.specs.Steps.{opening}
use Rattle.hx_handler.specs.Failures.{has_failure}
use Rattle.hx_replicas.specs.Participants.{Participant, new_participant, failures_on}
use Rattle.hx_control.specs.Controllers.{Controller, idle_controller}

-- a job that was run: its instance and message, the runs of its handler, if it has one, its outcome, and whether that was written
pub record Job : Type 0 where
  pub instance : InstanceId
  pub message : Message
  pub handler : Option ℕ
  pub outcome : Outcome
  pub is_written : Bool

pub record World : Type 0 where
  pub spec : Spec
  pub cluster : Cluster
  -- by number, and by instance
  pub controllers : List Controller
  pub participants : List Participant
  pub jobs : List Job
  -- all messages ever fetched, each as it was fetched last
  pub bag : List Message
  pub history : List Event
  -- what the events and the charges weigh, and the most that they may
  pub weight : ℕ
  pub limit : ℕ

abbrev pub controllers_of : ℕ → List Controller
controllers_of n = map (λ k. idle_controller (record { 0 = k })) (numbers_below n)

abbrev pub opening_world : Spec → ℕ → World
opening_world spec limit = record {
  spec = spec;
  cluster = opening spec;
  controllers = controllers_of spec.controllers;
  participants = replicate (length spec.instances) new_participant;
  jobs = [];
  bag = [];
  history = [];
  weight = 0;
  limit = limit;
}

-- the controller of a number, and the participant of an instance
abbrev pub controller_of : World → ControllerId → Controller
controller_of w k = slice_index_or w.controllers k.0 (idle_controller k)

abbrev pub participant_of : World → InstanceId → Participant
participant_of w i = slice_index_or w.participants i.0 new_participant

-- how makings and runs of handlers end: as the list of each participant says; or as they were answered, in order. One is missing where
-- more of them ended than were answered
pub data Answers : Type 0 where
  Told : List (List Failure) → Answers
  Answered : List Outcome → Answers
  Missing : Answers

abbrev pub told_outcome : Bool → Outcome
told_outcome fails = if fails then outcomes.Failed else outcomes.Ok

-- how the k-th making or run of a part on an instance ends, and what is left of the answers
abbrev pub answer_of : Answers → InstanceId → PartId → Bool → ℕ → Outcome
answer_of (Told lists) i p make k = told_outcome (has_failure (slice_index_or lists i.0 []) p make k)
answer_of (Answered (o ∷ os)) i p make k = o
answer_of _ i p make k = outcomes.Ok

abbrev pub rest_of : Answers → Answers
rest_of (Told lists) = Told lists
rest_of (Answered (o ∷ os)) = Answered os
rest_of _ = Missing

-- the list of each instance of a description
abbrev pub told_by : Spec → Answers
told_by spec = Told (map (λ i. failures_on (record { 0 = i }) spec.failures) (numbers_below (length spec.instances)))

-- a world under way, with the answers that are left
pub record State : Type 0 where
  pub world : World
  pub answers : Answers

abbrev pub with_controller : Controller → State → State
with_controller k x = record x { world = record x.world { controllers = slice_set x.world.controllers k.id.0 k } }

abbrev pub with_participant : InstanceId → Participant → State → State
with_participant i p x = record x { world = record x.world { participants = slice_set x.world.participants i.0 p } }

abbrev pub with_jobs : List Job → State → State
with_jobs jobs x = record x { world = record x.world { jobs = jobs } }

abbrev pub with_bag : List Message → State → State
with_bag bag x = record x { world = record x.world { bag = bag } }

-- an answer is used up
abbrev pub answered : State → State
answered x = record x { answers = rest_of x.answers }
