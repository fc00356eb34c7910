use Rattle.std.proofs.Common.{List, ℕ, Option, sym, subst, ◌∙◌}
use Rattle.std.specs.Prelude.{◌==◌}
use Rattle.std.specs.List.{list_any}
use Rattle.hx_store.specs.Owners.{IsFirstFrom}
use Rattle.hx_store.proofs.Placing.{first_past, item_is}
use Rattle.hx_store.proofs.keys.Keys.first_from.Goals as goal

pub returns-in-Err : goal.returns-in-Err
returns-in-Err c =
    let xs = c.self.inside.keys.items in
    let Q : List ℕ → Type 0 = λ ys. IsFirstFrom (λ k. list_any (λ j. k == j) ys) c.args.from c.copied.result in
    let P : Option ℕ → Type 0 = λ o. IsFirstFrom (λ k. list_any (λ j. k == j) xs) c.args.from o in
    subst Q c.self.view_is (subst P (sym (c.copied.ensures ∙ item_is xs c.in-Err.place c.get.result c.get.ensures.item.3)) (first_past c.args.from c.in-Err.place xs c.in-Err.ensures c.self.invariant))
