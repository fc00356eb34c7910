-- What contracts see of a board, how a call changes it, and what holds of each board.
use Rattle.std.specs.Prelude.{◌≡◌, ℕ, ◌+◌, ◌^◌, ◌≤◌, true, List, [], ◌∷◌, ◌++◌, length, take, drop, Option, None, Some, slice_get, nat_lt}
use Rattle.std.specs.List.{list_all}
use Rattle.hx_cluster.specs.declared.description.Spec.{Spec}
use Rattle.hx_cluster.specs.declared.state.Cluster.{Cluster}
use Rattle.hx_cluster.specs.declared.happenings.Admin.{Admin}
use Rattle.hx_cluster.specs.declared.happenings.Admin.TheVariants as steps
use Rattle.hx_cluster.specs.declared.happenings.Event.{Event}
use Rattle.hx_cluster.specs.declared.happenings.Event.TheVariants as events
use Rattle.hx_cluster.specs.Steps.{opening}
use Rattle.hx_cluster.specs.Events.{next, replay, is_later, IsLegal}
use Rattle.hx_cluster.specs.Weight.{weight_of_all, owed_of}
use Rattle.hx_cluster.specs.Valid.{IsValid}
use Rattle.hx_safe.specs.Ordered.{rises}
use Rattle.hx_board.specs.declared.board.Board.TheInside.{Inside}

-- a cluster, what has happened in it since its opening, what was charged beside that, and what the board was made with: the
-- description, the numbers of a script's lines, and how much the history may weigh
pub record Held : Type 0 where
  pub cluster : Cluster
  pub history : List Event
  pub charges : ℕ
  pub spec : Spec
  pub lines : List ℕ
  pub limit : ℕ

abbrev pub new_board : Spec → List ℕ → ℕ → Held
new_board spec lines limit =
    record { cluster = opening spec; history = []; charges = 0; spec = spec; lines = lines; limit = limit }

-- what the history weighs, with the charges
abbrev pub weight_at : Held → ℕ
weight_at b = weight_of_all b.history + b.charges

-- an event happens
abbrev pub happened : Held → Event → Held
happened b e = record b { cluster = next b.cluster e; history = b.history ++ e ∷ [] }

-- the numbers of the lines that were taken
abbrev pub lines_in : List Event → List ℕ
lines_in [] = []
lines_in (events.Line n ∷ es) = n ∷ lines_in es
lines_in (e ∷ es) = lines_in es

-- the line that comes next, unless all are taken
abbrev pub next_line_of : Held → Option ℕ
next_line_of b = slice_get b.lines (length (lines_in b.history))

abbrev pub line_taken : Held → Option ℕ → Held
line_taken b None = b
line_taken b (Some n) = happened b (events.Line n)

-- an event takes no line, or the next one
abbrev pub IsInOrder : Held → Event → Type 0
IsInOrder b (events.Line n) = next_line_of b ≡ Some n
IsInOrder b e = Unit {0}

-- what happened on a board: it is legal from the opening of a valid description, and the cluster is what it made; the lines that were
-- taken are the first ones; and with the charges it weighs no more than the limit
pub record HasHistory (b : Held) : Type 0 where
  pub valid : IsValid b.spec
  pub legal : IsLegal (opening b.spec) b.history
  pub replays : replay (opening b.spec) b.history ≡ b.cluster
  pub lines : lines_in b.history ≡ take (length (lines_in b.history)) b.lines
  pub weight : weight_at b ≤ b.limit

-- a charge is no event
abbrev pub charged : Held → ℕ → Held
charged b n = record b { charges = b.charges + n }

abbrev pub held : Inside → Held
held a = record {
  cluster = a.records;
  history = a.history.entries.items;
  charges = a.charges;
  spec = a.spec;
  lines = a.lines.items;
  limit = a.limit;
}

-- how many sessions a step opens
abbrev pub opens : Admin → ℕ
opens (steps.Join i) = 1
opens _ = 0

-- a number, or none where it is past the end of 64 bits
abbrev pub IsNumber : Option ℕ → ℕ → Type 0
IsNumber None n = 2 ^ 64 ≤ n
IsNumber (Some m) n = m ≡ n

-- the most that a history may weigh
abbrev pub most : ℕ
most = 2 ^ 40

pub record IsBoard (a : Inside) : Type 0 where
  -- the history is legal, and the cluster is what it makes of the opening
  pub valid : IsValid a.spec
  pub legal : IsLegal (opening a.spec) a.history.entries.items
  pub replays : replay (opening a.spec) a.history.entries.items ≡ a.records
  -- the lines that were taken are the first ones, and those that are left are later than the last of them
  pub taken : length (lines_in a.history.entries.items) ≡ a.taken
  pub front : lines_in a.history.entries.items ≡ take a.taken a.lines.items
  pub later : list_all (is_later a.records.line) (drop a.taken a.lines.items) ≡ true
  pub rising : rises nat_lt a.lines.items ≡ true
  -- what it weighs
  pub weighs : weight_of_all a.history.entries.items + a.charges ≡ a.weight
  pub within : a.weight ≤ a.limit
  pub limited : a.limit ≤ most
  -- events that were paid for find room
  pub owed : owed_of a.records ≤ a.owed
  pub few : a.owed ≤ a.weight
  pub room : a.owed ≤ a.history.entries.spare
