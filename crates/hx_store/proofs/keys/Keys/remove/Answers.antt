use Rattle.std.proofs.Common.{◌≡◌, List, ℕ, not, subst, ◌∙◌, ◌&&◌, arith}
use Rattle.std.specs.Prelude.{◌==◌}
use Rattle.std.specs.List.{list_any}
use Rattle.hx_store.proofs.Placing.{removed, remove-front, absent_kept, on_some}
use Rattle.hx_store.proofs.keys.Keys.remove.Goals as goal

pub invariant_of-self : goal.invariant_of-self
invariant_of-self c =
    (removed c.args.key c.in-Ok-eq0.field-0 c.self.inside.keys.items _ c.args.self.now c.in-Ok-eq0.ensures.0 c.in-Ok-eq0.ensures.1 c.self.invariant c.self.view_is (c.pop_front.ensures.rest ∙ remove-front c.in-Ok-eq0.field-0 c.self.inside.keys.items (grind (arith, c.in-Ok-eq0.field-0-test, c.in-Ok-eq0.field-0-is)))).0

pub invariant_of-self-in-Ok : goal.invariant_of-self-in-Ok
invariant_of-self-in-Ok c =
    let ok = c.self.inside.keys.ok in
    let gone = on_some c.remove.result _ c.remove.ensures.items (c.remove.ensures.variant.1 (omega (arith, c.in-Ok.ensures.0, ok.0))) in
    (removed c.args.key c.in-Ok.place c.self.inside.keys.items _ c.args.self.now c.in-Ok.ensures.0 c.in-Ok.ensures.1 c.self.invariant c.self.view_is gone).0

pub returns-in-Ok-eq0 : goal.returns-in-Ok-eq0
returns-in-Ok-eq0 c =
    (removed c.args.key c.in-Ok-eq0.field-0 c.self.inside.keys.items _ c.args.self.now c.in-Ok-eq0.ensures.0 c.in-Ok-eq0.ensures.1 c.self.invariant c.self.view_is (c.pop_front.ensures.rest ∙ remove-front c.in-Ok-eq0.field-0 c.self.inside.keys.items (grind (arith, c.in-Ok-eq0.field-0-test, c.in-Ok-eq0.field-0-is)))).1

pub returns-in-Ok : goal.returns-in-Ok
returns-in-Ok c =
    let ok = c.self.inside.keys.ok in
    let gone = on_some c.remove.result _ c.remove.ensures.items (c.remove.ensures.variant.1 (omega (arith, c.in-Ok.ensures.0, ok.0))) in
    (removed c.args.key c.in-Ok.place c.self.inside.keys.items _ c.args.self.now c.in-Ok.ensures.0 c.in-Ok.ensures.1 c.self.invariant c.self.view_is gone).1

pub returns-in-Err : goal.returns-in-Err
returns-in-Err c = λ k.
    let P : List ℕ → Type 0 = λ xs. list_any (λ j. k == j) xs ≡ (list_any (λ j. k == j) xs && not (c.args.key == k)) in
    subst P c.self.view_is (absent_kept k c.args.key c.in-Err.field-0 c.self.inside.keys.items c.in-Err.ensures)
