-- The world that a script begins with, and what its run comes to.
use Rattle.std.specs.Prelude.{◌≡◌, ℕ, ◌+◌, Bool, true, List, [], ◌∷◌, map, length, Option, None, Some}
use Rattle.hx_lists.specs.Lists.{numbers_below}
use Rattle.hx_cluster.specs.declared.description.Spec.{Spec}
use Rattle.hx_cluster.specs.declared.description.Failure.{Failure}
use Rattle.hx_cluster.specs.Steps.{opening}
use Rattle.hx_cluster.specs.Valid.{IsValid}
use Rattle.hx_board.specs.Board.{new_board}
use Rattle.hx_replicas.specs.Participants.{new_participant, failures_on}
use Rattle.hx_replicas.specs.Jobs.{ParticipantState}
use Rattle.hx_script.specs.declared.Line.{Line}
use Rattle.hx_worlds.specs.World.{controllers_of}
use Rattle.hx_worlds.specs.Items.{items_text}
use Rattle.hx_worlds.specs.Runs.{Deed, GoesOn, Stops, items_of, state_of}
use Rattle.hx_worlds.specs.Scripts.{are_next_lines, most_weight, sim_run}
use Rattle.hx_scene.specs.Scenes.{SceneState}
use Rattle.hx_scene.specs.Heard.{heard}
use Rattle.hx_app.specs.declared.input.Scenario.{Scenario}
use Rattle.hx_app.specs.declared.simulation.Simulated.{Simulated}

-- a world can be given the lines of a scenario in turn
pub record IsGiven (s : Scenario) : Type 0 where
  pub valid : IsValid s.spec
  pub lines : are_next_lines s.spec None s.lines ≡ true

-- the failures of each instance
abbrev pub failure_lists : Spec → List (List Failure)
failure_lists spec = map (λ i. failures_on (record { 0 = i }) spec.failures) (numbers_below (length spec.instances))

-- a participant whose handlers fail as a list says, and those of the instances from a number on
abbrev pub staff_at : ℕ → List Failure → ParticipantState
staff_at n failures = record {
  instance = record { 0 = n };
  plain = new_participant;
  spare = 0;
  made = 0;
  retired = 0;
  faults = 0;
  listed = Some failures;
}

abbrev pub staff_from : ℕ → List (List Failure) → List ParticipantState
staff_from n [] = []
staff_from n (failures ∷ more) = staff_at n failures ∷ staff_from (n + 1) more

abbrev pub numbers_of : List Line → List ℕ
numbers_of lines = map (λ line. line.number) lines

abbrev pub opening_scene : Bool → Spec → List Line → SceneState
opening_scene muted spec lines = record {
  spec = spec;
  board = new_board spec (numbers_of lines) most_weight;
  controllers = controllers_of spec.controllers;
  staff = staff_from 0 (failure_lists spec);
  jobs = [];
  bag = [];
  handed = 0;
  muted = muted;
}

-- a scene on which nothing happened, and whose board takes the numbers of lines that it can be given in turn
pub record IsFresh (lines : List Line) (s : SceneState) : Type 0 where
  pub history : s.board.history ≡ []
  pub line : s.board.cluster.line ≡ None
  pub numbers : s.board.lines ≡ numbers_of lines
  pub given : are_next_lines s.spec None lines ≡ true

-- what a full history weighs, where a run stops because of it
abbrev pub full_at : Deed → Option ℕ
full_at (GoesOn items x answer) = None
full_at (Stops items x) = Some x.world.weight

-- the run of a scenario's script, up to where the history has no room, in a world that is muted or prints
pub record IsSimulated (s : Scenario) (muted : Bool) (run : Simulated) : Type 0 where
  pub page : run.page ≡ heard muted (items_text s.spec (opening s.spec) (items_of (sim_run s.spec s.lines)))
  pub history : run.board.history ≡ (state_of (sim_run s.spec s.lines)).world.history
  pub full : run.full ≡ full_at (sim_run s.spec s.lines)
