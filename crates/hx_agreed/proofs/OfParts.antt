-- A world of parts that agree is in step, and of its history.
use Rattle.std.proofs.Common.{◌≡◌, ℕ, zero, suc, ◌+◌, true, List, [], ◌∷◌, map, length, refl, sym, ap, ◌∙◌, subst, arith}
use Rattle.std.specs.Prelude.{slice_index_or, replicate}
use Rattle.std.specs.List.{All, list_all}
use Rattle.std.proofs.lemmas.List.Elements.{All-cons, All-nil, All-head, All-tail}
use Rattle.hx_lists.specs.Lists.{numbers_from}
use Rattle.hx_cluster.specs.declared.description.Spec.{Spec}
use Rattle.hx_cluster.specs.declared.state.Message.{Message}
use Rattle.hx_cluster.specs.declared.state.Cluster.{Cluster}
use Rattle.hx_cluster.specs.declared.happenings.Event.{Event}
use Rattle.hx_cluster.specs.Ends.{limit_at}
use Rattle.hx_cluster.specs.Steps.{opening}
use Rattle.hx_cluster.specs.Events.{replay, IsLegal}
use Rattle.hx_cluster.specs.Valid.{IsValid}
use Rattle.hx_replicas.specs.declared.slots.Work.{Work}
use Rattle.hx_replicas.specs.declared.slots.Work.TheVariants.{Idle, Accepted, Out}
use Rattle.hx_replicas.specs.Participants.{Participant, new_participant, is_idle, all_idle}
use Rattle.hx_control.specs.Controllers.{Controller, idle_controller}
use Rattle.hx_worlds.specs.World.{World, Job}
use Rattle.hx_worlds.specs.Agree
use Rattle.hx_safe.proofs.Counting.{and-first, and-second, and-both, all-le}
use Rattle.hx_safe.proofs.Kept.{IsKept}
use Rattle.hx_safe.proofs.Whole.{reached_safe, reached_ranged, whole_from}
use Rattle.hx_scripted.specs.OfHistory.{is_fetched, is_work_fetched, is_slot_fetched, has_fetched, IsTurnOf, IsOfItsHistory}
use Rattle.hx_scripted.proofs.Standing.{idle_there}
use Rattle.hx_agreed.specs.InStep.{AreInStep, IsInStep}
use Rattle.hx_agreed.specs.OfParts.{IsOrderly, IsOfParts}
use Rattle.hx_agreed.proofs.Lists.{many_stationed}
use Rattle.hx_agreed.proofs.Sent.{all_sent}
use Rattle.hx_agreed.proofs.Parts.{parts_in_step}

-- numbered lists
many_mapped : {X Y : Type 0} (f : X → Y) (xs : List X) → length (map f xs) ≡ length xs
many_mapped f [] = refl
many_mapped f (x ∷ xs) = ap suc (many_mapped f xs)

many_numbers : (a n : ℕ) → length (numbers_from a n) ≡ n
many_numbers a zero = refl
many_numbers a (suc n) = ap suc (many_numbers (a + 1) n)

numbered : {X : Type 0} (f : X → ℕ) (xs : List X) (n : ℕ) → map f xs ≡ numbers_from 0 n → length xs ≡ n
numbered f xs n e = sym (many_mapped f xs) ∙ ap (λ (ns : List ℕ). length ns) e ∙ many_numbers 0 n

-- idle controllers
idle_at : (a n : ℕ) (ks : List Controller) → map (λ k. k.id.0) ks ≡ numbers_from a n → All (λ k. k ≡ idle_controller k.id) ks
    → (k j : ℕ) → j ≡ a + k → slice_index_or ks k (idle_controller (record { 0 = j })) ≡ idle_controller (record { 0 = j })
idle_at a n [] e all k j same = refl
idle_at a zero (x ∷ ks) e all k j same = cc
idle_at a (suc n) (x ∷ ks) e all zero j same =
    let first : x.id.0 ≡ a = cc in
    let number : x.id.0 ≡ j = omega arith in
    All-head (λ (k : Controller). k ≡ idle_controller k.id) x ks all ∙ ap (λ (i : ℕ). idle_controller (record { 0 = i })) number
idle_at a (suc n) (x ∷ ks) e all (suc k) j same =
    let rest : map (λ (y : Controller). y.id.0) ks ≡ numbers_from (a + 1) n = cc in
    idle_at (a + 1) n ks rest (All-tail (λ (k : Controller). k ≡ idle_controller k.id) x ks all) k j (omega arith)

-- new participants are orderly
pub new_orderly : (n : ℕ) → All IsOrderly (replicate n new_participant)
new_orderly zero = All-nil IsOrderly
new_orderly (suc n) = All-cons IsOrderly new_participant (replicate n new_participant) (record { distinct = tt; used = refl }) (new_orderly n)

-- idle participants have accepted nothing
idle_fetched : (spec : Spec) (h : List Event) (n : ℕ) (ws : List Participant) → list_all (λ p. all_idle p.plain) (Agree.stationed_from n ws) ≡ true → list_all (has_fetched spec h) ws ≡ true
idle_fetched spec h n [] all = refl
idle_fetched spec h n (w ∷ ws) all =
    and-both (has_fetched spec h w) (list_all (has_fetched spec h) ws)
    (all-le (λ x. is_idle x.work) (is_slot_fetched spec h) (λ x e. work x.work e) w.slots (and-first (all_idle w) (list_all (λ p. all_idle p.plain) (Agree.stationed_from (n + 1) ws)) all))
    (idle_fetched spec h (n + 1) ws (and-second (all_idle w) (list_all (λ p. all_idle p.plain) (Agree.stationed_from (n + 1) ws)) all))
  where
    work : (v : Work) → is_idle v ≡ true → is_work_fetched spec h v ≡ true
    work Idle e = refl
    work (Accepted m) e = cc
    work (Out m is_held) e = refl

kept_cluster : (spec : Spec) (h : List Event) → IsValid spec → IsLegal (opening spec) h → IsKept (replay (opening spec) h)
kept_cluster spec h valid legal = let c = replay (opening spec) h in (whole_from (limit_at c) c (reached_safe spec valid h legal) (reached_ranged spec valid h legal)).kept

module _ (spec : Spec) (w : World) (valid : IsValid spec) (p : IsOfParts spec w) where
  given : w.spec ≡ spec
  given = p.agree.staffed.spec

  parts : IsLegal (opening w.spec) w.history → AreInStep (replay (opening w.spec) w.history) w.participants [] []
  parts legal =
      let valid_now = subst IsValid (sym given) valid in
      parts_in_step (replay (opening w.spec) w.history) w.participants (kept_cluster w.spec w.history valid_now legal) (all_sent w.spec valid_now w.history legal) p.orderly
      p.agree.staffed.sessions p.agree.staffed.others p.agree.quiet p.agree.settled

  pub of_parts_in_step : IsLegal (opening spec) w.history → IsInStep w
  of_parts_in_step legal = record {
    parts = subst (λ (js : List Job). AreInStep w.cluster w.participants js w.bag) (sym p.jobs)
        (subst (λ (ms : List Message). AreInStep w.cluster w.participants [] ms) (sym p.bag)
        (subst (λ (c : Cluster). AreInStep c w.participants [] []) (sym p.cluster) (parts (subst (λ (s : Spec). IsLegal (opening s) w.history) (sym given) legal))));
    participants = sym (many_stationed 0 w.participants) ∙ numbered (λ x. x.instance.0) (Agree.stationed_from 0 w.participants) (length w.spec.instances) p.agree.staffed.participants;
    weight = p.weight;
  }

  pub of_parts_of_history : IsLegal (opening spec) w.history → IsOfItsHistory spec w
  of_parts_of_history legal = record {
    given = given;
    legal = legal;
    cluster = p.cluster ∙ ap (λ (s : Spec). replay (opening s) w.history) given;
    controllers = numbered (λ x. x.id.0) w.controllers w.spec.controllers p.agree.staffed.controllers ∙ ap (λ (s : Spec). s.controllers) given;
    turns = λ k. subst (IsTurnOf spec w.history k) (sym (idle_at 0 w.spec.controllers w.controllers p.agree.staffed.controllers p.agree.turns k.0 k.0 (omega arith))) (idle_there spec w.history k);
    bag = ap (list_all (is_fetched spec w.history)) p.bag;
    accepted = idle_fetched spec w.history 0 w.participants p.agree.quiet;
  }
