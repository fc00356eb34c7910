use Rattle.std.proofs.Common.{◌≡◌, ◌+◌, ◌==◌, ◌&&◌, Bool, true, false, [], ◌∷◌, find, get_or, None, sym, ap, ◌∙◌, arith}
use Rattle.std.proofs.lemmas.Grind.{common_steps}
use Rattle.std.specs.Prelude.{if◌then◌else◌}
use Rattle.hx_ids.specs.declared.StateId.{StateId}
use Rattle.hx_model.specs.Model.{error}
use Rattle.hx_hops.specs.Hops.{steps_from, dist}
use Rattle.hx_hops.proofs.Steps.{step_taken}
use Rattle.hx_hops.proofs.nearer.Goals as goal

pub returns-then-is_nearer : goal.returns-then-is_nearer
returns-then-is_nearer c =
    let m = c.args.model.now in
    let goal = c.args.goal in
    let from = c.args.from in
    let items = c.transitions-step-items.result.now in
    let i = c.loop-step.step-index in
    let d : StateId × StateId = (error, error) in
    let p : StateId → Bool = λ t. dist m t goal + 1 == dist m from goal in
    let near : p (get_or items i d).1 ≡ true =
    sym (λ k. c.requires (get_or items i d).1.0 c.is_nearer.ensures.bytes.1 k + 1 == c.requires from.0 c.is_nearer.ensures.bytes.0 k) ∙ sym c.is_nearer.ensures.nearer ∙ c.if-is_nearer.true in
    let here : ((get_or items i d).0.0 == from.0) ≡ true = sym c.eq-in-loop-step.ensures ∙ c.if-eq-2.true in
    let apart : (from.0 == goal.0) ≡ false = sym c.eq.ensures ∙ c.if-eq.false in
    step_taken p from m.transitions items i d (if from.0 == 0 then m.initial ∷ [] else []) (find p (steps_from m from)) c.transitions-step-items.ensures c.loop-step-test.true ((λ k. here k && p (get_or items i d).1) ∙ near) c.loop-step.invariant
    ∙ sym (ap (λ (b : Bool). if b then None else find p (steps_from m from)) apart)

pub loop-step-preserved : goal.loop-step-preserved
loop-step-preserved c = grind (arith, common_steps)

pub returns-then-is_nearer-2 : goal.returns-then-is_nearer-2
returns-then-is_nearer-2 c = grind (arith, common_steps)

pub returns : goal.returns
returns c = grind (arith, common_steps)
