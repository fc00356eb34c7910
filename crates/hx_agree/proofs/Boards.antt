-- What the history of a board says of what its readers leave out.
use Rattle.std.proofs.Common.{◌≡◌, ℕ, ◌+◌, ◌<◌, ◌≤◌, ◌^◌, List, [], ◌∷◌, length, sym, ap, subst, ◌∙◌, arith}
use Rattle.std.specs.List.{sum_by}
use Rattle.hx_cluster.specs.declared.state.Cluster.{Cluster}
use Rattle.hx_cluster.specs.declared.happenings.Event.{Event}
use Rattle.hx_cluster.specs.Steps.{opening}
use Rattle.hx_cluster.specs.Events.{next, replay}
use Rattle.hx_cluster.specs.Safe.{IsSafe}
use Rattle.hx_cluster.specs.Ranged.{IsRanged}
use Rattle.hx_cluster.specs.Weight.{weight_of_all}
use Rattle.hx_safe.specs.Weighed.{IsWeighed}
use Rattle.hx_safe.proofs.Fixed.{IsFixed, fixed_self, fixed_both, fixed_next}
use Rattle.hx_safe.proofs.Whole.{reached_safe, reached_ranged}
use Rattle.hx_safe.proofs.Weighing.{reached_weighed}
use Rattle.hx_board.specs.Board.{Held, HasHistory, weight_at}
use Rattle.hx_control.proofs.Given.{instances_given}
use Rattle.hx_worlds.specs.Summaries.{joined_in, sent_in}
use Rattle.hx_worlds.proofs.Counted.{Rises, counted}

fixed : (c : Cluster) (h : List Event) → IsFixed c (replay c h)
fixed c [] = fixed_self c
fixed c (e ∷ h) = fixed_both (fixed_next c e) (fixed (next c e) h)

module _ (b : Held) (told : HasHistory b) where
  pub board_safe : IsSafe b.cluster
  board_safe = subst IsSafe told.replays (reached_safe b.spec told.valid b.history told.legal)

  pub board_ranged : IsRanged b.cluster
  board_ranged = subst IsRanged told.replays (reached_ranged b.spec told.valid b.history told.legal)

  pub few_resources : length b.cluster.resources ≤ 256
  few_resources = board_ranged.few_resources

  pub board_instances : length b.cluster.instances ≡ length b.spec.instances
  board_instances = instances_given b told

  pub board_models : b.cluster.models ≡ b.spec.models
  board_models = subst (λ (c : Cluster). c.models ≡ b.spec.models) told.replays (fixed (opening b.spec) b.history).models

  weighed : IsWeighed b.cluster (weight_of_all b.history)
  weighed = subst (λ (c : Cluster). IsWeighed c (weight_of_all b.history)) told.replays (reached_weighed b.spec told.valid b.history told.legal)

  rises : Rises (opening b.spec) b.cluster (sum_by joined_in b.history) (sum_by sent_in b.history)
  rises = subst (λ (c : Cluster). Rises (opening b.spec) c (sum_by joined_in b.history) (sum_by sent_in b.history)) told.replays (counted (opening b.spec) b.history told.legal)

  pub next_session_is : b.cluster.next_session ≡ 1 + sum_by joined_in b.history
  next_session_is = rises.sessions_up

  pub next_message_is : b.cluster.next_msg ≡ 1 + sum_by sent_in b.history
  next_message_is = rises.messages_up

  -- so their numbers fit
  pub joins_fit : weight_at b < 2 ^ 64 → sum_by joined_in b.history < 2 ^ 64
  joins_fit fits =
      let few : b.cluster.next_session ≤ weight_of_all b.history + 1 = weighed.sessions in
      let is = next_session_is in
      omega arith

  pub messages_fit : weight_at b < 2 ^ 64 → sum_by sent_in b.history < 2 ^ 64
  messages_fit fits =
      let few : b.cluster.next_msg ≤ weight_of_all b.history + 1 = weighed.messages in
      let is = next_message_is in
      omega arith

-- a sum over a history, by the one that a board lent
module _ (f : Event → ℕ) {lent h : List Event} (same : lent ≡ h) where
  pub lent_fits : sum_by f h < 2 ^ 64 → sum_by f lent < 2 ^ 64
  lent_fits fits = subst (λ (es : List Event). sum_by f es < 2 ^ 64) (sym same) fits

  pub lent_next : {n sum : ℕ} → n ≡ 1 + sum_by f h → sum ≡ sum_by f lent → n ≡ 1 + sum
  lent_next is counted = is ∙ ap (λ (k : ℕ). 1 + k) (sym (counted ∙ ap (λ (es : List Event). sum_by f es) same))
