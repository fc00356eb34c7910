-- A settle has an answer exactly where somebody leads, and then it has settled.
use Rattle.std.proofs.Common.{◌≡◌, ℕ, true, List, [], ◌++◌, map, Option, None, Some, refl, sym, ap, subst, ◌∙◌}
use Rattle.std.specs.Prelude.{is_some, Ok}
use Rattle.hx_ids.specs.declared.ControllerId.{ControllerId}
use Rattle.hx_cluster.specs.declared.state.Cluster.{Cluster}
use Rattle.hx_cluster.specs.declared.planning.Report.{Report}
use Rattle.hx_cluster.specs.declared.description.Spec.{Spec}
use Rattle.hx_cluster.specs.Valid.{IsValid}
use Rattle.hx_pass.specs.Explained.{IsExplained}
use Rattle.hx_worlds.specs.declared.Settled.{Settled}
use Rattle.hx_worlds.specs.World.{State, Answers, Answered}
use Rattle.hx_worlds.specs.Runs.{Run}
use Rattle.hx_worlds.specs.Settles.{settle, enough_rounds}
use Rattle.hx_bounded.specs.Ending.{OfGoing, HasSettled, IsEnd}
use Rattle.hx_bounded.proofs.Laws.{settles}
use Rattle.hx_scene.specs.Scenes.{SceneState, at}
use Rattle.hx_scene.specs.Kept.{IsScene}
use Rattle.hx_scene.specs.Doing.{Ends, left}
use Rattle.hx_scene.proofs.Reaching.{answered_gives}
use Rattle.hx_sim.specs.Settling.{HasEnded, Settles}
use Rattle.hx_sim.specs.declared.settles.Settle.TheVariants as answers

-- the law of settles, of one that ended in a scene
ended : (s u : SceneState) (log : List ℕ) (answer : Option Settled) → IsScene s → Ends (λ x. settle x) s [] answer u log
    → (a : Answers) × IsEnd s.board.cluster s.board.cluster.leader answer (at u a)
ended s u log answer kept e =
    let a : Answers = Answered (map (λ x. x.outcome) e.asked ++ []) in
    let valid : IsValid s.spec = subst (λ (spec : Spec). IsValid spec) kept.own kept.history.valid in
    let P : Run (Option Settled) → Type 0 = λ r. OfGoing (IsEnd s.board.cluster s.board.cluster.leader) r in
    (left e.asked a, subst P (e.goes a (answered_gives e.asked [])) (settles s.spec (at s a) valid kept.of_history kept.in_step).to)

no_leader : (c : Cluster) (leader : Option ControllerId) (y : State) → IsEnd c leader None y → leader ≡ None
no_leader c None y e = refl
no_leader c (Some k) y e = absurd e

has_settled : (c : Cluster) (leader : Option ControllerId) (s : Settled) (y : State) → IsEnd c leader (Some s) y → (is_some leader ≡ true) × HasSettled (enough_rounds c) y s
has_settled c None s y e = cc
has_settled c (Some k) s y e = (refl, e)

some_same : (a b : Report) → Some a ≡ Some b → b ≡ a
some_same a b e = cc

nobody : (s u : SceneState) (log : List ℕ) → IsScene s → Ends (λ x. settle x) s [] None u log → HasEnded s.board.cluster u.board.cluster answers.NoLeader
nobody s u log kept e = no_leader s.board.cluster s.board.cluster.leader _ (ended s u log None kept e).1

module _ (s u : SceneState) (log : List ℕ) (kept : IsScene s) (found : Settled) (e : Ends (λ x. settle x) s [] (Some found) u log) where
  has : (a : Answers) × (is_some s.board.cluster.leader ≡ true) × HasSettled (enough_rounds s.board.cluster) (at u a) found
  has =
      let end = ended s u log (Some found) kept e in
      let settled = has_settled s.board.cluster s.board.cluster.leader found (at u end.0) end.1 in
      (end.0, settled.0, settled.1)

  explained : (report : Report) → found.report ≡ Some report → HasEnded s.board.cluster u.board.cluster (answers.Settled found.passes report)
  explained report is =
      (has.1, has.2.passes, subst (λ (r : Report). IsExplained u.board.cluster r) (some_same report has.2.report (sym is ∙ has.2.told)) has.2.explained)

  told : found.report ≡ None → ⊥
  told none = no has.2.report (sym none ∙ has.2.told)
    where
      no : (r : Report) → None ≡ Some r → ⊥
      no r is = cc

-- what a settle answers, by what was found, on a page that was empty
module _ (s u : SceneState) (page log : List ℕ) (answer : Option Settled) (kept : IsScene s) (blank : page ≡ []) (e : Ends (λ x. settle x) s page answer u log) where
  as_found : (a : Option Settled) → answer ≡ a → Ends (λ x. settle x) s [] a u log
  as_found a is = subst (λ (b : Option Settled). Ends (λ x. settle x) s [] b u log) is (subst (λ (p : List ℕ). Ends (λ x. settle x) s p answer u log) blank e)

  pub settles_nobody : answer ≡ None → Settles s u (Ok answers.NoLeader)
  settles_nobody is = record { log = log; does = as_found None is; ended = nobody s u log kept (as_found None is) }

  pub settles_found : (found : Settled) (report : Report) → answer ≡ Some found → found.report ≡ Some report → Settles s u (Ok (answers.Settled found.passes report))
  settles_found found report is told_is =
      let there = as_found (Some found) is in
      let same : Some found ≡ Some (record { passes = found.passes; report = Some report }) = ap (λ r. Some (record { passes = found.passes; report = r })) told_is in
      record {
        log = log;
        does = subst (λ (b : Option Settled). Ends (λ x. settle x) s [] b u log) same there;
        ended = explained s u log kept found there report told_is;
      }

  pub settles_told : (found : Settled) → answer ≡ Some found → found.report ≡ None → ⊥
  settles_told found is none = told s u log kept found (as_found (Some found) is) none
