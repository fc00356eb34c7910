use Rattle.std.proofs.Common.{rules, ap, ◌∙◌}
use Rattle.std.proofs.lemmas.Fn.{always_returns_same}
use Rattle.hx_cluster.specs.declared.happenings.Seen.{Seen}
use Rattle.hx_xview.specs.Views.{rows_of}
use Rattle.hx_xview.proofs.InOrder.{views_by_part, stable_shows, same_by_part}
use Rattle.hx_xview.proofs.routes.Routing.apply.Goals as goal

pub invariant_of-self : goal.invariant_of-self
invariant_of-self c = c.in_ok-sort_by_key.ensures.sorted (λ (r : Seen). r.part) (always_returns_same _ _ _ (λ a r q k. search rules))

pub returns-clause-shown : goal.returns-clause-shown
returns-clause-shown c = λ p.
    stable_shows c.sort_by_key.new.self.items c.in_ok-applied.applied.items (c.in_ok-sort_by_key.ensures.stable (λ (r : Seen). r.part) (always_returns_same _ _ _ (λ a r q k. search rules))) p
    ∙ ap (rows_of p) c.in_ok-applied.ensures.items

pub returns-clause-view : goal.returns-clause-view
returns-clause-view c = λ view. same_by_part c.sort_by_key.new.self.items c.args.rows.now (invariant_of-self c) (views_by_part c.args.rows.now view) (returns-clause-shown c)
