use Rattle.std.proofs.Common.{◌≡◌, length, sym, ap, ◌∙◌, arith}
use Rattle.std.proofs.lemmas.List.{length-map}
use Rattle.std.specs.Option.{option_map}
use Rattle.hx_links.specs.Slots.{link_at}
use Rattle.hx_links.specs.Pool.{pushed}
use Rattle.hx_links.specs.Chains.{lists_of}
use Rattle.hx_links.proofs.Reading.{holds_link, list_within, moved, the_link, same_some, same_list, same_entry}
use Rattle.hx_links.proofs.Pool.move_back.Goals as goal

pub detach-requires-clause-node : goal.detach-requires-clause-node
detach-requires-clause-node g c = sym (holds_link c.self.inside.chains.slots.links c.self.inside.chains.ends.items (lists_of c.self.inside.chains) c.args.node c.self.invariant) ∙ (rw (← c.self.view_is) at c.requires)

pub append-requires-clause-node : goal.append-requires-clause-node
append-requires-clause-node g c =
    same_some (link_at c.detach.new.self.slots.links c.args.node) (link_at c.self.inside.chains.slots.links c.args.node) c.detach.ensures.value
    (sym (holds_link c.self.inside.chains.slots.links c.self.inside.chains.ends.items (lists_of c.self.inside.chains) c.args.node c.self.invariant) ∙ (rw (← c.self.view_is) at c.requires))

pub append-requires-clause-list : goal.append-requires-clause-list
append-requires-clause-list g c =
    let link = the_link (link_at c.self.inside.chains.slots.links c.args.node) (sym (holds_link c.self.inside.chains.slots.links c.self.inside.chains.ends.items (lists_of c.self.inside.chains) c.args.node c.self.invariant) ∙ (rw (← c.self.view_is) at c.requires)) in
    let within = list_within c.self.inside.chains.slots.links c.self.inside.chains.ends.items (lists_of c.self.inside.chains) c.args.node link.0 c.self.invariant link.1 in
    let many : length (lists_of c.detach.new.self) ≡ length c.detach.new.self.ends.items = length-map _ _ in
    let kept : length (lists_of c.detach.new.self) ≡ length (lists_of c.self.inside.chains) = ap length c.detach.ensures.lists ∙ length-map _ _ in
    same_list (link_at c.detach.new.self.slots.links c.args.node) link.0 _ (c.detach.ensures.list ∙ ap (option_map (λ k. k.list)) link.1) (omega arith)

pub returns-clause-lists : goal.returns-clause-lists
returns-clause-lists g c =
    let link = the_link (link_at c.self.inside.chains.slots.links c.args.node) (sym (holds_link c.self.inside.chains.slots.links c.self.inside.chains.ends.items (lists_of c.self.inside.chains) c.args.node c.self.invariant) ∙ (rw (← c.self.view_is) at c.requires)) in
    let last = same_entry (link_at c.detach.new.self.slots.links c.args.node) link.0 c.args.node (lists_of c.append.new.self) (lists_of c.detach.new.self)
    (c.detach.ensures.list ∙ ap (option_map (λ k. k.list)) link.1) (c.detach.ensures.value ∙ ap (option_map (λ k. k.value)) link.1) c.append.ensures.lists in
    rw (← c.self.view_is) (last ∙ ap (λ ls. pushed ls link.0.list.0 (c.args.node, link.0.value)) c.detach.ensures.lists ∙ moved c.self.inside.chains.slots.links c.self.inside.chains.ends.items (lists_of c.self.inside.chains) c.args.node link.0 c.self.invariant link.1)
