-- When what a crew gives back of a run is sound: the board is the one that was given, it was charged nothing, its history follows the
-- script with few calls, and the parts agree.
use Rattle.std.specs.Prelude.{◌≡◌, ℕ, true, List}
use Rattle.hx_cluster.specs.declared.description.Spec.{Spec}
use Rattle.hx_cluster.specs.declared.happenings.Event.{Event}
use Rattle.hx_script.specs.declared.Line.{Line}
use Rattle.hx_control.specs.Controllers.{Controller}
use Rattle.hx_worlds.specs.Agree.{Stationed, Agree}
use Rattle.hx_live.specs.Follows.{follows, follows_cut_off}
use Rattle.hx_live.specs.Thrifty.{is_thrifty}

-- a board: its description, the numbers of the script's lines, the most that it may weigh, its history, and what it was charged
pub record Kept : Type 0 where
  pub spec : Spec
  pub lines : List ℕ
  pub limit : ℕ
  pub history : List Event
  pub charged : ℕ

-- the board that came back is the one that was given, and the calls on it are few
pub record IsSame (given came : Kept) (rounds : ℕ) : Type 0 where
  pub spec : came.spec ≡ given.spec
  pub lines : came.lines ≡ given.lines
  pub limit : came.limit ≡ given.limit
  pub charged : came.charged ≡ 0
  pub thrifty : is_thrifty given.spec came.history rounds ≡ true

-- all lines were taken, and the parts that came back agree
pub record IsSound (given came : Kept) (script : List Line) (rounds : ℕ) (ks : List Controller) (ps : List Stationed) : Type 0 where
  pub same : IsSame given came rounds
  pub follows_script : follows given.spec script came.history ≡ true
  pub agree : Agree given.spec (record { spec = came.spec; history = came.history }) ks ps

-- the history had no room: it follows the lines that were taken, of which the last may be without its step
pub record IsSoundWhenFull (given came : Kept) (script : List Line) (rounds : ℕ) : Type 0 where
  pub same : IsSame given came rounds
  pub follows_taken_lines : follows_cut_off given.spec script came.history ≡ true
