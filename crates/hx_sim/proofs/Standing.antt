-- What stands in a scene: its cluster is in range, and has what the description has.
use Rattle.std.proofs.Common.{◌≡◌, ◌≤◌, ◌&&◌, Bool, List, [], ◌∷◌, true, length, Option, sym, ◌∙◌, subst}
use Rattle.std.specs.Option.{ForSome}
use Rattle.std.specs.List.{list_all, All, AllByRecursion}
use Rattle.std.proofs.lemmas.List.Elements.{All-same, All-from_recursion}
use Rattle.hx_ids.specs.declared.SessionId.{SessionId}
use Rattle.hx_ids.specs.declared.InstanceId.{InstanceId}
use Rattle.hx_ids.specs.declared.Live.{Live}
use Rattle.hx_cluster.specs.declared.state.Cluster.{Cluster}
use Rattle.hx_cluster.specs.Ends.{shown_of}
use Rattle.hx_ids.specs.declared.ControllerId.{ControllerId}
use Rattle.hx_cluster.specs.declared.happenings.Admin.{Admin}
use Rattle.hx_cluster.specs.Valid.{IsValid}
use Rattle.hx_script.specs.declared.What.{What}
use Rattle.hx_script.specs.Asked.{step_asked}
use Rattle.hx_script.specs.Ranges as Ranges
use Rattle.hx_scripted.proofs.Asked.{IsAskedWell, asked_well, instance_there, controller_there}
use Rattle.hx_cluster.specs.Reads.{live_shown, instance_before}
use Rattle.hx_cluster.specs.Ranged.{IsRanged}
use Rattle.hx_cluster.specs.Safe.{IsSafe, HasRows}
use Rattle.hx_cluster.specs.Steps.{opening, has_instance, has_controller, is_in_range}
use Rattle.hx_safe.proofs.Counting.{all-map, and-first, and-second}
use Rattle.hx_safe.proofs.Fixed.{IsFixed}
use Rattle.hx_safe.proofs.Whole.{reached_safe, reached_ranged}
use Rattle.hx_lawful.proofs.Sorting.{all-sort}
use Rattle.hx_lawful.proofs.Whole.{fixed_along}
use Rattle.hx_board.specs.Board.{Held, HasHistory}
use Rattle.hx_scene.specs.Scenes.{SceneState}
use Rattle.hx_scene.specs.Kept.{IsScene}

pub board_ranged : (b : Held) → HasHistory b → IsRanged b.cluster
board_ranged b told = subst IsRanged told.replays (reached_ranged b.spec told.valid b.history told.legal)

pub board_rows : (b : Held) → HasHistory b → HasRows b.cluster
board_rows b told = (subst IsSafe told.replays (reached_safe b.spec told.valid b.history told.legal)).rows

pub few_resources : (b : Held) → HasHistory b → length b.cluster.resources ≤ 256
few_resources b told = (board_ranged b told).few_resources

-- the cluster has what the description has
pub fixed_there : (s : SceneState) → IsScene s → IsFixed (opening s.spec) s.board.cluster
fixed_there s h = subst (λ (c : Cluster). IsFixed (opening s.spec) c) (sym h.of_history.cluster) (fixed_along (opening s.spec) s.board.history)

-- the live instances are some of its instances
all_shown : (c : Cluster) → IsRanged c → list_all (λ e. has_instance c e.1) (live_shown c) ≡ true
all_shown c ranged =
    all-sort (λ (e : SessionId × InstanceId). has_instance c e.1) instance_before (shown_of c.live)
    ∙ all-map (λ (e : SessionId × InstanceId). has_instance c e.1) (λ (l : Live). (l.session, l.instance)) c.live
    ∙ ranged.live

each : {X : Type 0} (p : X → Bool) (xs : List X) → list_all p xs ≡ true → AllByRecursion (λ x. p x ≡ true) xs
each p [] all = tt
each p (x ∷ xs) all = (and-first (p x) (list_all p xs) all, each p xs (and-second (p x) (list_all p xs) all))

pub shown_there : (s : SceneState) → IsScene s → (shown : List (SessionId × InstanceId)) → shown ≡ live_shown s.board.cluster → All (λ e. has_instance s.board.cluster e.1 ≡ true) shown
shown_there s h shown same =
    let there = λ (e : SessionId × InstanceId). has_instance s.board.cluster e.1 in
    All-same (λ e. there e ≡ true) shown (live_shown s.board.cluster) same
    (All-from_recursion (λ e. there e ≡ true) (live_shown s.board.cluster) (each there (live_shown s.board.cluster) (all_shown s.board.cluster (board_ranged s.board h.history))))

-- what a line names is there
pub instance_in : (s : SceneState) → IsScene s → (i : InstanceId) → Ranges.has_instance s.spec i ≡ true → has_instance s.board.cluster i ≡ true
instance_in s h i is = instance_there s.spec s.board.cluster i (fixed_there s h) is

pub instance_and : (s : SceneState) → IsScene s → (i : InstanceId) (more : Bool) → (Ranges.has_instance s.spec i && more) ≡ true → has_instance s.board.cluster i ≡ true
instance_and s h i more is = instance_in s h i (and-first (Ranges.has_instance s.spec i) more is)

pub controller_in : (s : SceneState) → IsScene s → (k : ControllerId) → Ranges.has_controller s.spec k ≡ true → has_controller s.board.cluster k ≡ true
controller_in s h k is = controller_there s.spec s.board.cluster k (fixed_there s h) is

-- the step that it asks for is in range
for_some : (c : Cluster) (o : Option Admin) → IsAskedWell c o → ForSome o (λ step. is_in_range c step ≡ true)
for_some c o well = λ step is. subst (λ (p : Option Admin). IsAskedWell c p) is well

pub step_in : (s : SceneState) → IsScene s → (what : What) (o : Option Admin) → Ranges.is_in_range s.spec what ≡ true → o ≡ step_asked s.board.cluster what
    → ForSome o (λ step. is_in_range s.board.cluster step ≡ true)
step_in s h what o is same =
    let valid : IsValid s.spec = subst IsValid h.own h.history.valid in
    for_some s.board.cluster o
    (subst (λ (p : Option Admin). IsAskedWell s.board.cluster p) (sym same) (asked_well s.spec s.board.cluster what valid (fixed_there s h) is))

-- a line that is another one
pub same_in : (s : SceneState) {w what : What} → Ranges.is_in_range s.spec w ≡ true → w ≡ what → Ranges.is_in_range s.spec what ≡ true
same_in s is same = subst (λ (v : What). Ranges.is_in_range s.spec v ≡ true) same is
