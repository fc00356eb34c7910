-- What contracts see of a participant and of its jobs, and how jobs are handed out and run.
use Rattle.std.specs.Prelude.{◌≡◌, ◌≢◌, ℕ, ◌+◌, ◌≤◌, Bool, true, false, List, [], ◌∷◌, Option, None, Some, is_none}
use Rattle.std.specs.Option.{option_map, ForSome}
use Rattle.hx_ids.specs.declared.PartId.{PartId}
use Rattle.hx_ids.specs.declared.StateId.{StateId}
use Rattle.hx_ids.specs.declared.InstanceId.{InstanceId}
use Rattle.hx_model.specs.Model.{error, dropped}
use Rattle.hx_cluster.specs.declared.state.Message.{Message}
use Rattle.hx_cluster.specs.declared.description.Failure.{Failure}
use Rattle.hx_cluster.specs.declared.happenings.Outcome.{Outcome}
use Rattle.hx_cluster.specs.declared.happenings.Outcome.TheVariants as outcomes
use Rattle.hx_handler.specs.declared.Handler as handler
use Rattle.hx_lists.specs.Counts.{count_up, CountsOn, Rose}
use Rattle.hx_handler.specs.Makings.{tried_of}
use Rattle.hx_handler.specs.Told.{IsTold}
use Rattle.hx_replicas.specs.Participants.{Participant, IsSound, slot_of, makes, made_ready, leaves_error}

-- a participant: `spare` is how many more deliveries need no memory; the rest is what its factory means
pub record ParticipantState : Type 0 where
  pub instance : InstanceId
  pub plain : Participant
  pub spare : ℕ
  pub made : ℕ
  pub retired : ℕ
  pub faults : ℕ
  pub listed : Option (List Failure)

-- what a handler means
pub record Held : Type 0 where
  pub part : PartId
  pub initial : StateId
  pub at : StateId
  pub faults : ℕ
  pub runs : ℕ
  pub listed : Option (List Failure)

abbrev pub seen : {H : Type 0} → handler.Ghosts H → H → Held
seen k h = record { part = k.part h; initial = k.initial h; at = k.at h; faults = k.faults h; runs = k.runs h; listed = k.listed h }

abbrev pub seen_in : {H : Type 0} → handler.Ghosts H → Option H → Option Held
seen_in k h = option_map (seen k) h

-- a message that is to be run, one that was run, and one that is done: by its outcome, or put back
pub record Job : Type 0 where
  pub message : Message
  pub handler : Option Held

pub record Ran : Type 0 where
  pub message : Message
  pub handler : Option Held
  pub outcome : Outcome

pub record Done : Type 0 where
  pub message : Message
  pub handler : Option Held
  pub outcome : Option Outcome

-- the runs of a job's handler
abbrev pub runs_of : Option Held → Option ℕ
runs_of h = option_map (λ x. x.runs) h

-- without a handler a replica is in ERROR, at DROPPED, or at its initial state
abbrev pub StandsEmpty : StateId → Option StateId → Type 0
StandsEmpty state initial = state ≢ error → state ≢ dropped → Some state ≡ initial

-- a handler of a message stands at a state, or there is none
abbrev pub StandsAt : Message → StateId → Option Held → Type 0
StandsAt m state None = StandsEmpty state (Some m.initial)
StandsAt m state (Some h) = (h.part ≡ m.part) × (h.initial ≡ m.initial) × (h.at ≡ state)

-- a message is out, with its handler
pub record IsOut (m : Message) (state : StateId) (h : Option Held) : Type 0 where
  pub sound : IsSound m
  pub not_dropped : m.from ≢ dropped
  pub handler : StandsAt m state h

-- what a call keeps that hands out messages
pub record KeepsRest (a b : ParticipantState) : Type 0 where
  pub instance : b.instance ≡ a.instance
  pub spare : b.spare ≡ a.spare
  pub retired : b.retired ≡ a.retired
  pub faults : a.faults ≤ b.faults
  pub listed : b.listed ≡ a.listed

-- a making of a part's handler failed only where the factory's faults rose, and as its list tells
pub record IsMaking (faults later made : ℕ) (listed : Option (List Failure)) (tried : List (PartId × ℕ)) (p : PartId) (is_failed : Bool) : Type 0 where
  pub cause : is_failed ≡ true → Rose faults later
  pub told : CountsOn made → CountsOn (tried_of tried p) → IsTold listed p true (tried_of tried p + 1) is_failed

-- the makings for messages are answered, as far as they came
abbrev pub AreAnswered : ParticipantState → ParticipantState → List Message → List Bool → Type 0
AreAnswered a b ms [] = Unit {0}
AreAnswered a b [] (f ∷ fs) = ⊥
AreAnswered a b (m ∷ ms) (f ∷ fs) =
    (makes (slot_of a.plain m.part) m ≡ true → IsMaking a.faults b.faults b.made a.listed a.plain.tried m.part f) × AreAnswered a b ms fs

-- a message is out with the handler that stood in its slot, or with the one that was made for it, or with none
pub record IsHanded (a b : ParticipantState) (job : Job) : Type 0 where
  pub runs : runs_of job.handler ≡ (made_ready (slot_of a.plain job.message.part) job.message (is_none job.handler)).handler
  pub listed : ForSome job.handler (λ h. h.listed ≡ a.listed)
  pub answer : makes (slot_of a.plain job.message.part) job.message ≡ true → IsMaking a.faults b.faults b.made a.listed a.plain.tried job.message.part (is_none job.handler)

-- a handler's run fails only where its faults rose, and as its list tells
pub record IsRun (m : Message) (a b : Held) (is_failed : Bool) : Type 0 where
  pub runs : b.runs ≡ count_up a.runs
  pub listed : b.listed ≡ a.listed
  pub later : a.faults ≤ b.faults
  pub cause : is_failed ≡ true → Rose a.faults b.faults
  pub told : CountsOn a.runs → IsTold a.listed m.part false (a.runs + 1) is_failed

-- leaving ERROR is a reset, which always succeeds
pub record IsReset (a b : Held) (is_failed : Bool) : Type 0 where
  pub runs : b.runs ≡ a.runs
  pub listed : b.listed ≡ a.listed
  pub faults : b.faults ≡ a.faults
  pub succeeds : is_failed ≡ false

abbrev pub is_failed : Outcome → Bool
is_failed outcomes.Ok = false
is_failed outcomes.Failed = true

-- how a job runs. Without a handler it fails, unless it leaves ERROR
abbrev pub RunsWith : Message → Option Held → Option Held → Bool → Type 0
RunsWith m None None fails = (leaves_error m ≡ true → fails ≡ false) × (leaves_error m ≡ false → fails ≡ true)
RunsWith m None (Some b) fails = ⊥
RunsWith m (Some a) None fails = ⊥
RunsWith m (Some a) (Some b) fails = (leaves_error m ≡ true → IsReset a b fails) × (leaves_error m ≡ false → IsRun m a b fails)
