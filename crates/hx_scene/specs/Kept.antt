-- What holds of the parts of a world between operations.
use Rattle.std.specs.Prelude.{◌≡◌, List, Option, None, slice_index_or}
use Rattle.std.specs.List.{All}
use Rattle.std.specs.Option.{ForSome}
use Rattle.hx_cluster.specs.declared.description.Failure.{Failure}
use Rattle.hx_board.specs.Board.{HasHistory}
use Rattle.hx_scripted.specs.OfHistory.{IsOfItsHistory}
use Rattle.hx_agreed.specs.InStep.{IsInStep}
use Rattle.hx_scene.specs.Scenes.{SceneState, OpenState, world_of, lists_of}

-- a job's handler fails as its participant's list tells
abbrev pub IsListed : List (Option (List Failure)) → OpenState → Type 0
IsListed lists j = ForSome j.ran.handler (λ h. h.listed ≡ slice_index_or lists j.instance.0 None)

pub record IsScene (s : SceneState) : Type 0 where
  pub own : s.board.spec ≡ s.spec
  pub history : HasHistory s.board
  pub of_history : IsOfItsHistory s.spec (world_of s)
  pub in_step : IsInStep (world_of s)
  pub listed : All (IsListed (lists_of s)) s.jobs
