-- Worlds of their histories whose parts are in step agree, and the world that a script begins with is in step.
use Rattle.std.proofs.Common.{◌≡◌, ℕ, zero, suc, ◌+◌, List, [], ◌∷◌, map, length, refl, sym, ap, subst, arith}
use Rattle.std.specs.Prelude.{slice_index_or}
use Rattle.std.specs.List.{All}
use Rattle.std.proofs.lemmas.List.{get_or_default}
use Rattle.hx_lists.specs.Lists.{numbers_from}
use Rattle.hx_ids.specs.declared.ControllerId.{ControllerId}
use Rattle.hx_cluster.specs.declared.description.Spec.{Spec}
use Rattle.hx_cluster.specs.declared.state.Message.{Message}
use Rattle.hx_cluster.specs.declared.state.Cluster.{Cluster}
use Rattle.hx_cluster.specs.declared.happenings.Event.{Event}
use Rattle.hx_cluster.specs.Valid.{IsValid}
use Rattle.hx_cluster.specs.Safe.{IsSafe}
use Rattle.hx_cluster.specs.Steps.{opening}
use Rattle.hx_cluster.specs.Events.{IsLegal}
use Rattle.hx_replicas.specs.Participants.{Participant}
use Rattle.hx_control.specs.Controllers.{Controller, idle_controller}
use Rattle.hx_control.specs.OfBoard.{OfBoard}
use Rattle.hx_worlds.specs.World.{World, Job}
use Rattle.hx_worlds.specs.Agree
use Rattle.hx_safe.proofs.Whole.{reached_safe}
use Rattle.hx_scripted.specs.OfHistory.{IsTurnOf, IsOfItsHistory}
use Rattle.hx_agreed.specs.InStep.{AreInStep, IsInStep}
use Rattle.hx_agreed.proofs.Agreeing.{agreed}
use Rattle.hx_worlds.proofs.Counted.{counted}

-- controllers and participants at their places
ids_listed : (a n : ℕ) (ks : List Controller) → length ks ≡ n
    → ((k j : ℕ) → j ≡ a + k → (slice_index_or ks k (idle_controller (record { 0 = j }))).id.0 ≡ j) → map (λ k. k.id.0) ks ≡ numbers_from a n
ids_listed a zero [] few h = refl
ids_listed a (suc n) [] few h = absurd (omega arith)
ids_listed a zero (x ∷ ks) few h = absurd (omega arith)
ids_listed a (suc n) (x ∷ ks) few h =
    let first : x.id.0 ≡ a = h zero a (omega arith) in
    let rest = ids_listed (a + 1) n ks (omega arith) (λ k j e. h (suc k) j (omega arith)) in
    cc

places_listed : (a n : ℕ) (ws : List Participant) → length ws ≡ n → map (λ p. p.instance.0) (Agree.stationed_from a ws) ≡ numbers_from a n
places_listed a zero [] few = refl
places_listed a (suc n) [] few = absurd (omega arith)
places_listed a zero (w ∷ ws) few = absurd (omega arith)
places_listed a (suc n) (w ∷ ws) few = ap (λ (ns : List ℕ). a ∷ ns) (places_listed (a + 1) n ws (omega arith))

turns_listed : (spec : Spec) (h : List Event) (ks : List Controller) → ((k : ControllerId) → IsTurnOf spec h k (slice_index_or ks k.0 (idle_controller k))) → All (OfBoard spec h) ks
turns_listed spec h ks turns = λ k d lt.
    let same : slice_index_or ks k (idle_controller (record { 0 = k })) ≡ slice_index_or ks k d = get_or_default ks k (idle_controller (record { 0 = k })) d lt in
    subst (OfBoard spec h) same (turns (record { 0 = k })).of_board

agree_open : (b : Agree.BoardState) (ks : List Controller) (ws : List Participant) (jobs : List Job) (bag : List Message)
    → IsLegal (opening b.spec) b.history → ((k : ControllerId) → IsTurnOf b.spec b.history k (slice_index_or ks k.0 (idle_controller k)))
    → length ks ≡ b.spec.controllers → length ws ≡ length b.spec.instances → IsSafe (Agree.cluster_of b) → (s : AreInStep (Agree.cluster_of b) ws jobs bag)
    → Agree.AgreeOpen b.spec b ks (Agree.stationed_from 0 ws) jobs bag
agree_open b ks ws jobs bag legal turns few many safe s =
    let a = agreed (Agree.cluster_of b) safe ws jobs bag s in
    let up = counted (opening b.spec) b.history legal in
    record {
      staffed = record {
        spec = refl;
        controllers = ids_listed 0 b.spec.controllers ks few
            (λ k j e. let same : j ≡ k = omega arith in subst (λ (n : ℕ). (slice_index_or ks n (idle_controller (record { 0 = j }))).id.0 ≡ j) same (ap (λ (x : ControllerId). x.0) (turns (record { 0 = j })).id));
        participants = places_listed 0 (length b.spec.instances) ws many;
        sessions = a.sessions;
        others = a.others;
        joins = up.sessions_up;
        sent = up.messages_up;
      };
      turns = turns_listed b.spec b.history ks turns;
      accepted = a.accepted;
      bagged = a.bagged;
      alike = a.alike;
      slots = a.slots;
      each_job = a.each_job;
      live = a.live;
    }

kept : (w : World) → IsValid w.spec → IsOfItsHistory w.spec w → IsInStep w → Agree.IsKept w
kept w valid of s = record {
  cluster = of.cluster;
  weight = s.weight;
  agree =
      agree_open (Agree.board_of w) w.controllers w.participants w.jobs w.bag of.legal of.turns of.controllers s.participants (reached_safe w.spec valid w.history of.legal)
      (subst (λ (c : Cluster). AreInStep c w.participants w.jobs w.bag) of.cluster s.parts);
}

pub in_step_kept : (spec : Spec) (w : World) → IsValid spec → IsOfItsHistory spec w → IsInStep w → Agree.IsKept w
in_step_kept spec w valid of s = kept w (subst IsValid (sym of.given) valid) (subst (λ (given : Spec). IsOfItsHistory given w) (sym of.given) of) s
