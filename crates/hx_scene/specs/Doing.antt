-- How code does an operation on a world: what it brings is printed, also where the history has no room for the rest; and for want of
-- memory a front of it was brought, and that printed, up to a front of the last of it. A muted scene leaves its page as it was.
use Rattle.std.specs.Prelude.{◌≡◌, ℕ, ◌-◌, ◌≤◌, ◌^◌, Bool, List, [], ◌∷◌, ◌++◌, length, take, Option, None, Some, Result, MatchResult, slice_index_or}
use Rattle.std.specs.List.{All}
use Rattle.hx_ids.specs.declared.InstanceId.{InstanceId}
use Rattle.hx_ids.specs.declared.PartId.{PartId}
use Rattle.hx_cluster.specs.declared.description.Failure.{Failure}
use Rattle.hx_cluster.specs.declared.happenings.Outcome.{Outcome}
use Rattle.hx_handler.specs.Failures.{has_failure}
use Rattle.hx_handler.specs.Makings.{tried_of}
use Rattle.hx_board.specs.Board.{weight_at}
use Rattle.hx_board.specs.declared.faults.RoomFault.{RoomFault}
use Rattle.hx_board.specs.declared.faults.RoomFault.TheVariants as rooms
use Rattle.hx_replicas.specs.Participants.{Slot}
use Rattle.hx_replicas.specs.Jobs.{ParticipantState}
use Rattle.hx_worlds.specs.World.{Answers, State, answer_of, rest_of, told_outcome}
use Rattle.hx_worlds.specs.Items.{Item, items_text}
use Rattle.hx_worlds.specs.Runs.{Run, Deed, GoesOn, Stops, items_of, after_items}
use Rattle.hx_worlds.specs.Brings.{Brings, past_of}
use Rattle.hx_scene.specs.Scenes.{SceneState, plain_job, at, lists_of}
use Rattle.hx_scene.specs.Heard.{heard, items_heard}

-- how a making or a run of a handler ended: the k-th of its part on its instance
pub record Asked : Type 0 where
  pub instance : InstanceId
  pub part : PartId
  pub is_making : Bool
  pub number : ℕ
  pub outcome : Outcome

-- the next answers are these, and what is left behind them
abbrev pub Gives : List Asked → Answers → Type 0
Gives [] a = Unit {0}
Gives (x ∷ xs) a = (answer_of a x.instance x.part x.is_making x.number ≡ x.outcome) × Gives xs (rest_of a)

abbrev pub left : List Asked → Answers → Answers
left [] a = a
left (x ∷ xs) a = left xs (rest_of a)

-- they are as the lists of failures tell, where lists are told. On an instance that there isn't nothing fails
abbrev pub IsToldBy : Option (List Failure) → Asked → Type 0
IsToldBy None x = Unit {0}
IsToldBy (Some failures) x = x.outcome ≡ told_outcome (has_failure failures x.part x.is_making x.number)

abbrev pub AreTold : List (Option (List Failure)) → List Asked → Type 0
AreTold lists [] = Unit {0}
AreTold lists (x ∷ xs) = IsToldBy (slice_index_or lists x.instance.0 (Some [])) x × AreTold lists xs

-- no count of makings or runs is above the messages that were handed out
abbrev pub IsRunsBelow : ℕ → Option ℕ → Type 0
IsRunsBelow most None = Unit {0}
IsRunsBelow most (Some runs) = runs ≤ most

pub record IsBelow (most : ℕ) (p : ParticipantState) : Type 0 where
  pub made : p.made ≤ most
  pub tried : (q : PartId) → tried_of p.plain.tried q ≤ most
  pub runs : All (λ (x : Slot). IsRunsBelow most x.handler) p.plain.slots

pub record IsCounted (s : SceneState) : Type 0 where
  pub few : s.handed ≤ 2 ^ 62
  pub staff : All (IsBelow s.handed) s.staff
  pub jobs : All (λ j. IsRunsBelow s.handed (plain_job j).handler) s.jobs

-- what an operation keeps of a scene
pub record Keeps (s u : SceneState) (asked : List Asked) : Type 0 where
  pub muted : u.muted ≡ s.muted
  pub lists : lists_of u ≡ lists_of s
  pub lines : u.board.lines ≡ s.board.lines
  pub told : IsCounted s → IsCounted u × AreTold (lists_of s) asked

-- an operation f on a scene has come to where g goes on from another scene: with these answers of handlers, and having brought these
-- items, which were printed on a page, unless it is muted
pub record Reaches {A : Type 0} (f : State → Run A) (s : SceneState) (page : List ℕ) (g : State → Run A) (u : SceneState) (later : List ℕ) : Type 0 where
  pub asked : List Asked
  pub items : List Item
  pub goes : (a : Answers) → Gives asked a → f (at s a) ≡ after_items items (g (at u (left asked a)))
  pub brings : (a : Answers) → Brings (past_of (at s a)) items (past_of (at u a))
  pub text : later ≡ page ++ items_heard s items
  pub keeps : Keeps s u asked

-- it went on to its end, with an answer
abbrev pub Ends : {A : Type 0} → (State → Run A) → SceneState → List ℕ → A → SceneState → List ℕ → Type 0
Ends f s page answer u later = Reaches f s page (λ x. GoesOn [] x answer) u later

-- the history has no room for what comes next
abbrev pub StopsHere : {A : Type 0} → (State → Run A) → SceneState → List ℕ → SceneState → List ℕ → Type 0
StopsHere f s page u later = Reaches f s page (λ x. Stops [] x) u later

-- items are printed from a scene on: all but the last one whole, and a front of that
abbrev pub but_last : List Item → List Item
but_last items = take (length items - 1) items

abbrev pub PrintsToLast : SceneState → List Item → List ℕ → List ℕ → Type 0
PrintsToLast s items page later =
    (n : ℕ)
    × (length (items_text s.spec s.board.cluster (but_last items)) ≤ n)
    × (later ≡ page ++ heard s.muted (take n (items_text s.spec s.board.cluster items)))

-- it came as far as a front of its items, which were printed, up to a front of the last one
pub record IsCut {A : Type 0} (f : State → Run A) (s : SceneState) (page : List ℕ) (u : SceneState) (later : List ℕ) : Type 0 where
  pub asked : List Asked
  pub items : List Item
  pub front : (a : Answers) → Gives asked a → (more : List Item) × (items_of (f (at s a)) ≡ items ++ more)
  pub brings : (a : Answers) → Brings (past_of (at s a)) items (past_of (at u a))
  pub text : PrintsToLast s items page later
  pub keeps : Keeps s u asked

abbrev pub Fails : {A : Type 0} → (State → Run A) → SceneState → List ℕ → RoomFault → SceneState → List ℕ → Type 0
Fails f s page (rooms.HistoryFull weight) u later = StopsHere f s page u later × (weight ≡ weight_at u.board)
Fails f s page rooms.OutOfMemory u later = IsCut f s page u later

-- an operation is done: it goes on to its end, or the history has no room, or memory is wanted
abbrev pub Does : {A R : Type 0} → (State → Run A) → (R → A) → SceneState → List ℕ → SceneState → List ℕ → Result R RoomFault → Type 0
Does f answer s page u later result = MatchResult result (λ r. Ends f s page (answer r) u later) (λ fault. Fails f s page fault u later)

-- one without an answer
abbrev pub DoesDeed : {R : Type 0} → (State → Deed) → SceneState → List ℕ → SceneState → List ℕ → Result R RoomFault → Type 0
DoesDeed f s page u later result = Does f (λ r. tt) s page u later result
