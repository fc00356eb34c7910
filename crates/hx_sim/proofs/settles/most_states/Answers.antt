use Rattle.std.proofs.Common.{arith, ◌≡◌, ℕ, nat_cmp, List, [], ◌∷◌, map, suc, length, refl, ap, ◌∙◌}
use Rattle.std.specs.Prelude.{max}
use Rattle.std.specs.Ordering.{ord_max}
use Rattle.std.proofs.lemmas.Grind.{common_steps}
use Rattle.std.proofs.lemmas.List.{drop_all, drop_more}
use Rattle.hx_model.specs.declared.ModelParts.{ModelParts}
use Rattle.hx_worlds.specs.Settles.{most_states}
use Rattle.hx_sim.proofs.settles.most_states.Goals as goal

larger : (a b : ℕ) → ord_max nat_cmp a b ≡ max a b
larger a b = grind (arith, common_steps)

as_many : {X Y : Type 0} (f : X → Y) (xs : List X) → length (map f xs) ≡ length xs
as_many f [] = refl
as_many f (x ∷ xs) = ap suc (as_many f xs)

pub loop-model-init : goal.loop-model-init
loop-model-init c = grind arith

pub loop-model-preserved : goal.loop-model-preserved
loop-model-preserved c =
    let more = ap most_states (drop_more c.args.models.now c.loop-model.model-index c.model-item.result c.loop-model-test.true) in
    let this = ap (λ (m : ModelParts). length m.states) c.model-item.is in
    let seen = ap (λ s. length s) c.states.ensures.states ∙ as_many (λ p. p.0) c.model-item.result.states in
    omega (arith, more, this, seen, c.max-most.ensures ∙ larger c.loop-model.most (length c.states.result.now), c.loop-model.invariant)

pub returns : goal.returns
returns c =
    let none = ap most_states (drop_all c.loop-model.model-index c.args.models.now c.loop-model-test.false) in
    omega (arith, none, c.loop-model.invariant)
