use Rattle.std.proofs.Common.{sym, ap, ◌∙◌, subst, arith}
use Rattle.std.proofs.lemmas.List.Sums.{count_by-le-length}
use Rattle.std.specs.Option.{is_some, option_map}
use Rattle.hx_links.specs.Slots.{link_at}
use Rattle.hx_links.specs.Chains.{AreLinks, lists_of}
use Rattle.hx_links.proofs.Linked.{with_replaced}
use Rattle.hx_links.proofs.Reading.{holds_link, value_link, walked, the_link, link_within}
use Rattle.hx_links.proofs.Pool.replace.Goals as goal

pub set_value-requires : goal.set_value-requires
set_value-requires g c = sym (holds_link c.self.inside.chains.slots.links c.self.inside.chains.ends.items (lists_of c.self.inside.chains) c.args.node c.self.invariant) ∙ (rw (← c.self.view_is) at c.requires)

pub returns-clause-lists : goal.returns-clause-lists
returns-clause-lists g c =
    let held = sym (holds_link c.self.inside.chains.slots.links c.self.inside.chains.ends.items (lists_of c.self.inside.chains) c.args.node c.self.invariant) ∙ (rw (← c.self.view_is) at c.requires) in
    let are = with_replaced c.self.inside.chains.slots.links c.set_value.new.self.links c.self.inside.chains.ends.items (lists_of c.self.inside.chains) c.args.node c.args.value c.self.invariant (link_within c.self.inside.chains.slots.links c.args.node held) c.set_value.ensures.links c.set_value.ensures.held in
    let found = walked c.set_value.new.self.links c.self.inside.chains.ends.items _ are (omega (arith, are.all, count_by-le-length is_some c.set_value.new.self.links)) in
    rw (← c.self.view_is) found

pub invariant_of-self : goal.invariant_of-self
invariant_of-self g c =
    let held = sym (holds_link c.self.inside.chains.slots.links c.self.inside.chains.ends.items (lists_of c.self.inside.chains) c.args.node c.self.invariant) ∙ (rw (← c.self.view_is) at c.requires) in
    let are = with_replaced c.self.inside.chains.slots.links c.set_value.new.self.links c.self.inside.chains.ends.items (lists_of c.self.inside.chains) c.args.node c.args.value c.self.invariant (link_within c.self.inside.chains.slots.links c.args.node held) c.set_value.ensures.links c.set_value.ensures.held in
    let found = walked c.set_value.new.self.links c.self.inside.chains.ends.items _ are (omega (arith, are.all, count_by-le-length is_some c.set_value.new.self.links)) in
    subst (AreLinks _ _) (sym found) are

pub returns-clause-value : goal.returns-clause-value
returns-clause-value g c =
    let held = sym (holds_link c.self.inside.chains.slots.links c.self.inside.chains.ends.items (lists_of c.self.inside.chains) c.args.node c.self.invariant) ∙ (rw (← c.self.view_is) at c.requires) in
    let link = the_link (link_at c.self.inside.chains.slots.links c.args.node) held in
    let same = sym (ap (option_map (λ k. k.value)) link.1) ∙ c.set_value.ensures.value in
    rw (← c.self.view_is) (value_link c.self.inside.chains.slots.links c.self.inside.chains.ends.items (lists_of c.self.inside.chains) c.args.node link.0 c.self.invariant link.1 ∙ same)
