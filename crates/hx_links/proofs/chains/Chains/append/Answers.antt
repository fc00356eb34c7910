use Rattle.std.proofs.Common.{◌≡◌, ◌<◌, length, sym, ap, ◌∙◌, subst, arith}
use Rattle.std.proofs.lemmas.List.{length-map, get_or_read}
use Rattle.std.proofs.lemmas.List.Sums.{count_by-le-length}
use Rattle.std.specs.Option.{is_some}
use Rattle.hx_links.specs.declared.chains.Ends.{Ends}
use Rattle.hx_links.specs.Chains.{AreLinks, lists_of, no_ends}
use Rattle.hx_links.proofs.Linked.{appended}
use Rattle.hx_links.proofs.Reading.{walked, back_held}
use Rattle.hx_links.proofs.chains.Chains.append.Goals as goal

pub connect-requires-clause-before : goal.connect-requires-clause-before
connect-requires-clause-before g c =
    let within : c.link.result.now.list.0 < length c.args.self.now.ends.items = (let list = rw c.link.ensures at c.requires.list in omega arith) in
    let read = get_or_read c.args.self.now.ends.items c.link.result.now.list.0 c.index.result.now within c.index.ensures no_ends in
    λ m is. back_held c.args.self.now.slots.links c.args.self.now.ends.items (lists_of c.args.self.now) c.args.node c.link.result.now.list.0 m c.requires.linked (sym (ap (λ (e : Ends). e.back) read) ∙ is)

pub returns : goal.returns
returns g c =
    let within : c.link.result.now.list.0 < length c.args.self.now.ends.items = (let list = rw c.link.ensures at c.requires.list in omega arith) in
    let read = get_or_read c.args.self.now.ends.items c.link.result.now.list.0 c.index.result.now within c.index.ensures no_ends in
    let many : length (lists_of c.args.self.now) ≡ length c.args.self.now.ends.items = length-map _ _ in
    let are = appended c.args.self.now.slots.links c.connect.new.self.slots.links c.connect-2.new.self.slots.links c.args.self.now.ends.items c.connect.new.self.ends.items c.connect-2.new.self.ends.items (lists_of c.args.self.now) c.args.node c.link.result.now c.index.result.now.back
    c.requires.linked c.link.ensures (omega arith) (sym (ap (λ (e : Ends). e.back) read))
    c.connect.ensures.links c.connect.ensures.ends c.connect-2.ensures.links c.connect-2.ensures.ends (c.connect-2.ensures.held ∙ c.connect.ensures.held) in
    let lists = walked c.connect-2.new.self.slots.links c.connect-2.new.self.ends.items _ are (omega (arith, are.all, count_by-le-length is_some c.connect-2.new.self.slots.links)) in
    record {
      linked = subst (AreLinks c.connect-2.new.self.slots.links c.connect-2.new.self.ends.items) (sym lists) are;
      lists = rw c.link.ensures lists;
      spare = c.connect-2.ensures.spare ∙ c.connect.ensures.spare;
    }
