use Rattle.std.proofs.Common.{sym, ◌∙◌}
use Rattle.hx_links.specs.Chains.{lists_of}
use Rattle.hx_links.proofs.Reading.{holds_link}
use Rattle.hx_links.proofs.Pool.holds.Goals as goal

pub returns-clause-held : goal.returns-clause-held
returns-clause-held g c = rw (← c.self.view_is) (c.holds.ensures ∙ sym (holds_link c.self.inside.chains.slots.links c.self.inside.chains.ends.items (lists_of c.self.inside.chains) c.args.node c.self.invariant))
