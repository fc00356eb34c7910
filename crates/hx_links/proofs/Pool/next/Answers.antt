use Rattle.std.proofs.Common.{sym, ◌∙◌}
use Rattle.hx_links.specs.Chains.{lists_of}
use Rattle.hx_links.proofs.Reading.{holds_link, next_link}
use Rattle.hx_links.proofs.Pool.next.Goals as goal

pub link-requires : goal.link-requires
link-requires g c = sym (holds_link c.self.inside.chains.slots.links c.self.inside.chains.ends.items (lists_of c.self.inside.chains) c.args.node c.self.invariant) ∙ (rw (← c.self.view_is) at c.requires)

pub returns : goal.returns
returns g c = rw (← c.self.view_is) (sym (next_link c.self.inside.chains.slots.links c.self.inside.chains.ends.items (lists_of c.self.inside.chains) c.args.node _ c.self.invariant c.link.ensures))
