use Rattle.std.proofs.Common.{sym, ap, ◌∙◌, subst, arith}
use Rattle.std.proofs.lemmas.List.Sums.{count_by-le-length}
use Rattle.std.specs.Option.{is_some, option_map}
use Rattle.hx_links.specs.Slots.{link_at}
use Rattle.hx_links.specs.Chains.{AreLinks, lists_of}
use Rattle.hx_links.proofs.Linked.{removed}
use Rattle.hx_links.proofs.Reading.{holds_link, value_link, walked, the_link, link_within, same_some}
use Rattle.hx_links.proofs.Pool.unlink.Goals as goal

pub detach-requires-clause-node : goal.detach-requires-clause-node
detach-requires-clause-node g c = sym (holds_link c.self.inside.chains.slots.links c.self.inside.chains.ends.items (lists_of c.self.inside.chains) c.args.node c.self.invariant) ∙ (rw (← c.self.view_is) at c.requires)

pub remove-requires : goal.remove-requires
remove-requires g c =
    same_some (link_at c.detach.new.self.slots.links c.args.node) (link_at c.self.inside.chains.slots.links c.args.node) c.detach.ensures.value
    (sym (holds_link c.self.inside.chains.slots.links c.self.inside.chains.ends.items (lists_of c.self.inside.chains) c.args.node c.self.invariant) ∙ (rw (← c.self.view_is) at c.requires))

pub returns-clause-lists : goal.returns-clause-lists
returns-clause-lists g c =
    let within = link_within c.detach.new.self.slots.links c.args.node (ap is_some c.remove.ensures.value) in
    let are = removed c.detach.new.self.slots.links c.remove.new.self.links c.detach.new.self.ends.items (lists_of c.detach.new.self) c.args.node c.detach.ensures.linked within c.remove.ensures.links c.remove.ensures.held in
    let found = walked c.remove.new.self.links c.detach.new.self.ends.items (lists_of c.detach.new.self) are (omega (arith, are.all, count_by-le-length is_some c.remove.new.self.links)) in
    rw (← c.self.view_is) (found ∙ c.detach.ensures.lists)

pub invariant_of-self : goal.invariant_of-self
invariant_of-self g c =
    let within = link_within c.detach.new.self.slots.links c.args.node (ap is_some c.remove.ensures.value) in
    let are = removed c.detach.new.self.slots.links c.remove.new.self.links c.detach.new.self.ends.items (lists_of c.detach.new.self) c.args.node c.detach.ensures.linked within c.remove.ensures.links c.remove.ensures.held in
    let found = walked c.remove.new.self.links c.detach.new.self.ends.items (lists_of c.detach.new.self) are (omega (arith, are.all, count_by-le-length is_some c.remove.new.self.links)) in
    subst (AreLinks _ _) (sym found) are

pub returns-clause-value : goal.returns-clause-value
returns-clause-value g c =
    let held = sym (holds_link c.self.inside.chains.slots.links c.self.inside.chains.ends.items (lists_of c.self.inside.chains) c.args.node c.self.invariant) ∙ (rw (← c.self.view_is) at c.requires) in
    let link = the_link (link_at c.self.inside.chains.slots.links c.args.node) held in
    let same = ap (option_map (λ k. k.value)) (sym c.remove.ensures.value) ∙ c.detach.ensures.value ∙ ap (option_map (λ k. k.value)) link.1 in
    rw (← c.self.view_is) (value_link c.self.inside.chains.slots.links c.self.inside.chains.ends.items (lists_of c.self.inside.chains) c.args.node link.0 c.self.invariant link.1 ∙ sym same)
