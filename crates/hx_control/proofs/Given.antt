-- What a board has of its description.
use Rattle.std.proofs.Common.{◌≡◌, ℕ, length, ap, ◌∙◌, subst, arith}
use Rattle.std.specs.Prelude.{nat_lt, take}
use Rattle.std.specs.List.{list_all}
use Rattle.std.proofs.lemmas.Bool.Decides.{nat_tests}
use Rattle.std.proofs.lemmas.List.{length-take}
use Rattle.hx_cluster.specs.declared.state.Cluster.{Cluster}
use Rattle.hx_cluster.specs.Ranged.{IsRanged}
use Rattle.hx_cluster.specs.Valid.{is_valid_model}
use Rattle.hx_safe.proofs.Whole.{reached_ranged}
use Rattle.hx_board.specs.Board.{Held, HasHistory}
use Rattle.hx_board.proofs.Histories.{instances_stay, states_stay}
use Rattle.hx_control.proofs.Proposed.{HasGiven}

same_below : (m n : ℕ) → ((k : ℕ) → nat_lt k m ≡ nat_lt k n) → m ≡ n
same_below m n same = grind (arith, nat_tests, same m, same n)

pub instances_given : (b : Held) → HasHistory b → length b.cluster.instances ≡ length b.spec.instances
instances_given b told =
    same_below (length b.cluster.instances) (length b.spec.instances)
    (λ k. subst (λ (c : Cluster). nat_lt k (length c.instances) ≡ nat_lt k (length b.spec.instances)) told.replays (instances_stay b.spec b.history (record { 0 = k })))

states_given : (b : Held) → HasHistory b → b.cluster.states ≡ length b.spec.states
states_given b told =
    same_below b.cluster.states (length b.spec.states)
    (λ k. subst (λ (c : Cluster). nat_lt k c.states ≡ nat_lt k (length b.spec.states)) told.replays (states_stay b.spec b.history (record { 0 = k })))

pub given : (b : Held) → HasHistory b → HasGiven b.spec b.cluster
given b told = record {
  models = ap (λ (n : ℕ). list_all (is_valid_model n) b.spec.models) (states_given b told) ∙ told.valid.models;
  states =
      let few : length (take 8 b.spec.states) ≡ 8 = ap length told.valid.builtin_states in
      let cut = length-take 8 b.spec.states in
      let named : b.cluster.states ≡ length b.spec.states = states_given b told in
      omega arith;
  instances =
      let ranged : IsRanged b.cluster = subst IsRanged told.replays (reached_ranged b.spec told.valid b.history told.legal) in
      let some = ranged.instances in
      grind (arith, nat_tests, some);
}
