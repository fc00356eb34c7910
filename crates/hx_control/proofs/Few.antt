-- A board has at most as many live sessions as instances, which are few.
use Rattle.std.proofs.Common.{◌≡◌, ℕ, ◌≤◌, ◌<◌, Bool, true, false, List, [], ◌∷◌, length, map, refl, ap, ◌∙◌, subst, suc, arith}
use Rattle.std.specs.Prelude.{nat_lt}
use Rattle.std.proofs.lemmas.List.{length-map}
use Rattle.std.specs.List.{list_any, list_all, IsDistinct, AllByRecursion}
use Rattle.std.proofs.lemmas.Bool.Decides.{nat_tests}
use Rattle.std.proofs.lemmas.Map.Keys.{IsDistinct-cons}
use Rattle.std.proofs.lemmas.Map.Steps.{length-le_from_distinct_below}
use Rattle.hx_lists.specs.Lists.{count, insert_by, sort_by}
use Rattle.hx_ids.specs.declared.SessionId.{SessionId}
use Rattle.hx_ids.specs.declared.InstanceId.{InstanceId}
use Rattle.hx_ids.specs.declared.Live.{Live as Beating}
use Rattle.hx_cluster.specs.declared.state.Cluster.{Cluster}
use Rattle.hx_cluster.specs.Ends.{shown_of}
use Rattle.hx_cluster.specs.Steps.{is_of}
use Rattle.hx_cluster.specs.Reads.{live_shown, instance_before}
use Rattle.hx_cluster.specs.Safe.{IsSafe}
use Rattle.hx_cluster.specs.Ranged.{IsRanged}
use Rattle.hx_safe.proofs.Whole.{reached_safe, reached_ranged}
use Rattle.hx_board.specs.Board.{Held, HasHistory}
use lib.Dec.{eqb}

length-insert : {X : Type 0} (before : X → X → Bool) (x : X) (xs : List X) → length (insert_by before x xs) ≡ suc (length xs)
length-insert before x [] = refl
length-insert before x (y ∷ xs) = grind (arith, length-insert before x xs)

length-sort : {X : Type 0} (before : X → X → Bool) (xs : List X) → length (sort_by before xs) ≡ length xs
length-sort before [] = refl
length-sort before (x ∷ xs) = length-insert before x (sort_by before xs) ∙ ap suc (length-sort before xs)

others : (i : InstanceId) (live : List Beating) → count (is_of i) live ≤ 0 → AllByRecursion (λ n. eqb i.0 n ≡ false) (map (λ l. l.instance.0) live)
others i [] few = tt
others i (l ∷ live) few = (grind (arith, nat_tests, few), others i live (grind (arith, few)))

distinct : (live : List Beating) → ((i : InstanceId) → count (is_of i) live ≤ 1) → IsDistinct eqb (map (λ l. l.instance.0) live)
unfolding IsDistinct
distinct [] single = tt
distinct (l ∷ live) single =
    let rest : count (is_of l.instance) live ≤ 0 = grind (arith, nat_tests, single l.instance) in
    IsDistinct-cons eqb l.instance.0 (map (λ l. l.instance.0) live) (others l.instance live rest)
    (distinct live (λ i. grind (arith, single i)))

below : (n : ℕ) (live : List Beating) → list_all (λ l. nat_lt l.instance.0 n) live ≡ true → (q : ℕ) → list_any (eqb q) (map (λ l. l.instance.0) live) ≡ true → q < n
below n [] all q is = cc
below n (l ∷ live) all q is = grind (arith, nat_tests, all, is, below n live (grind (arith, all)) q)

few_in : (c : Cluster) → IsSafe c → IsRanged c → length (live_shown c) ≤ 64
few_in c safe ranged =
    let some : length (map (λ l. l.instance.0) c.live) ≤ length c.instances =
    length-le_from_distinct_below (map (λ l. l.instance.0) c.live) (length c.instances) (distinct c.live safe.sessions.instances) (below (length c.instances) c.live ranged.live) in
    let few : length c.instances ≤ 64 = grind (arith, nat_tests, ranged.instances) in
    omega (arith, some, few, length-map c.live (λ l. l.instance.0), length-sort instance_before (shown_of c.live), length-map {B = SessionId × InstanceId} c.live (λ l. (l.session, l.instance)))

pub few_live : (b : Held) → HasHistory b → length (live_shown b.cluster) ≤ 64
few_live b told =
    few_in b.cluster
    (subst IsSafe told.replays (reached_safe b.spec told.valid b.history told.legal))
    (subst IsRanged told.replays (reached_ranged b.spec told.valid b.history told.legal))
