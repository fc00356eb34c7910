use Rattle.std.proofs.Common.{◌≡◌, ◌==◌, true, sym, ap, ◌∙◌, subst, arith}
use Rattle.std.proofs.lemmas.List.Sums.{count_by-le-length}
use Rattle.std.proofs.lemmas.Bool.{eq-eqb}
use Rattle.std.specs.Option.{is_some}
use Rattle.hx_links.specs.Pool.{pushed}
use Rattle.hx_links.specs.Chains.{AreLinksBut, lists_of}
use Rattle.hx_links.proofs.Linked.{inserted}
use Rattle.hx_links.proofs.Reading.{holds_link, walked_but}
use Rattle.hx_links.proofs.Pool.push_reserved.Goals as goal

pub append-requires-clause-linked : goal.append-requires-clause-linked
append-requires-clause-linked g c =
    let but = inserted c.self.inside.chains.slots.links c.insert_reserved-node.new.self.links c.self.inside.chains.ends.items (lists_of c.self.inside.chains) c.insert_reserved-node.result _ c.self.invariant c.insert_reserved-node.ensures.was_vacant c.insert_reserved-node.ensures.links c.insert_reserved-node.ensures.held in
    let found = walked_but c.insert_reserved-node.new.self.links c.self.inside.chains.ends.items (lists_of c.self.inside.chains) c.insert_reserved-node.result but (omega (arith, but.all, count_by-le-length is_some c.insert_reserved-node.new.self.links)) in
    subst (AreLinksBut _ _ _) (sym found) but

pub returns-clause-lists : goal.returns-clause-lists
returns-clause-lists g c =
    let but = inserted c.self.inside.chains.slots.links c.insert_reserved-node.new.self.links c.self.inside.chains.ends.items (lists_of c.self.inside.chains) c.insert_reserved-node.result _ c.self.invariant c.insert_reserved-node.ensures.was_vacant c.insert_reserved-node.ensures.links c.insert_reserved-node.ensures.held in
    let found = walked_but c.insert_reserved-node.new.self.links c.self.inside.chains.ends.items (lists_of c.self.inside.chains) c.insert_reserved-node.result but (omega (arith, but.all, count_by-le-length is_some c.insert_reserved-node.new.self.links)) in
    let self : (c.insert_reserved-node.result.0 == c.insert_reserved-node.result.0) ≡ true = eq-eqb _ _ (λ i. c.insert_reserved-node.result.0) in
    let link = rw self at (c.insert_reserved-node.ensures.links c.insert_reserved-node.result) in
    rw (← c.self.view_is) (rw link at c.append.ensures.lists ∙ ap (λ ls. pushed ls c.args.list.0 (c.insert_reserved-node.result, c.args.value)) found)

pub returns-clause-fresh : goal.returns-clause-fresh
returns-clause-fresh g c =
    rw (← c.self.view_is) (holds_link c.self.inside.chains.slots.links c.self.inside.chains.ends.items (lists_of c.self.inside.chains) c.insert_reserved-node.result c.self.invariant ∙ ap is_some c.insert_reserved-node.ensures.was_vacant)
