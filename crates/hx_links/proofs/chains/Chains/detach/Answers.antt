use Rattle.std.proofs.Common.{◌≡◌, length, sym, subst, arith}
use Rattle.std.proofs.lemmas.List.{length-map}
use Rattle.std.proofs.lemmas.List.Sums.{count_by-le-length}
use Rattle.std.specs.Option.{is_some}
use Rattle.hx_links.specs.Chains.{AreLinksBut, lists_of}
use Rattle.hx_links.proofs.Linked.{detached}
use Rattle.hx_links.proofs.Reading.{walked_but, list_within, prev_held, next_held}
use Rattle.hx_links.proofs.chains.Chains.detach.Goals as goal

pub connect-requires-clause-list : goal.connect-requires-clause-list
connect-requires-clause-list g c =
    let within = list_within c.args.self.now.slots.links c.args.self.now.ends.items (lists_of c.args.self.now) c.args.node _ c.requires.linked c.link-link.ensures in
    let many : length (lists_of c.args.self.now) ≡ length c.args.self.now.ends.items = length-map _ _ in
    omega arith

pub connect-requires-clause-before : goal.connect-requires-clause-before
connect-requires-clause-before g c =
    λ m is. prev_held c.args.self.now.slots.links c.args.self.now.ends.items (lists_of c.args.self.now) c.args.node _ m c.requires.linked c.link-link.ensures is

pub connect-requires-clause-after : goal.connect-requires-clause-after
connect-requires-clause-after g c =
    λ m is. next_held c.args.self.now.slots.links c.args.self.now.ends.items (lists_of c.args.self.now) c.args.node _ m c.requires.linked c.link-link.ensures is

pub returns-clause-lists : goal.returns-clause-lists
returns-clause-lists g c =
    let but = detached c.args.self.now.slots.links c.connect.new.self.slots.links c.args.self.now.ends.items c.connect.new.self.ends.items (lists_of c.args.self.now) c.args.node _ c.requires.linked c.link-link.ensures c.connect.ensures.links c.connect.ensures.ends c.connect.ensures.held in
    walked_but c.connect.new.self.slots.links c.connect.new.self.ends.items _ c.args.node but (omega (arith, but.all, count_by-le-length is_some c.connect.new.self.slots.links))

pub returns-clause-linked : goal.returns-clause-linked
returns-clause-linked g c =
    let but = detached c.args.self.now.slots.links c.connect.new.self.slots.links c.args.self.now.ends.items c.connect.new.self.ends.items (lists_of c.args.self.now) c.args.node _ c.requires.linked c.link-link.ensures c.connect.ensures.links c.connect.ensures.ends c.connect.ensures.held in
    subst (AreLinksBut c.args.node c.connect.new.self.slots.links c.connect.new.self.ends.items) (sym (returns-clause-lists g c)) but
