-- The targets of a part that are found by one walk over its list.
use Rattle.std.specs.Prelude.{◌≡◌, ℕ, ◌-◌, ◌<◌, ◌≤◌, List, length, slice_index_or, MatchOption}
use Rattle.std.specs.List.{insert}
use Rattle.hx_ids.specs.declared.InstanceId.{InstanceId}
use Rattle.hx_ids.specs.declared.StateId.{StateId}
use Rattle.hx_ids.specs.declared.SessionId.{SessionId}
use Rattle.hx_ids.specs.declared.PartId.{PartId}
use Rattle.hx_cluster.specs.declared.planning.Target.{Target}
use Rattle.hx_cluster.specs.Ends.{session_in, state_of}
use Rattle.hx_best.specs.Places.{Placing}
use Rattle.hx_best.specs.Still.{goal_on}

-- a target put among others, behind a first place, between those on lower and on higher instances
pub record Puts (first : ℕ) (t : Target) (old new : List Target) : Type 0 where
  pub place : ℕ
  pub behind : first ≤ place
  pub within : place ≤ length old
  pub below : first < place → (d : Target) → (slice_index_or old (place - 1) d).instance.0 < t.instance.0
  pub above : place < length old → (d : Target) → t.instance.0 < (slice_index_or old place d).instance.0
  pub put : new ≡ insert old place t

-- the target of a session on an instance where a replica is wanted in a state, at a place
abbrev pub entry_target : Placing → PartId → SessionId → InstanceId → StateId → ℕ → Target
entry_target x p s i wanted place = record {
  session = s;
  instance = i;
  part = p;
  state = state_of x.view.rows s p;
  goal = goal_on x p s i wanted;
  place = place;
}

-- the target of an entry put among those of the entries before it, if its instance has a session
abbrev pub PutsEntry : Placing → PartId → ℕ → InstanceId → StateId → ℕ → List Target → List Target → Type 0
PutsEntry x p first i wanted place old new =
    MatchOption (session_in x.view.live i) (new ≡ old) (λ s. Puts first (entry_target x p s i wanted place) old new)
