use Rattle.std.proofs.Common.{arith}
use Rattle.std.proofs.lemmas.Grind.{common_steps}
use Rattle.std.proofs.lemmas.List.{map-set}
use Rattle.hx_links.specs.declared.slots.Slot.TheVariants.{Vacant, Held}
use Rattle.hx_links.proofs.Vacancy.{held_at, held-set, IsLaidOut-vacate}
use Rattle.hx_links.proofs.slots.Slots.remove.Goals as goal

pub invariant_of-self : goal.invariant_of-self
invariant_of-self g c =
    let found = held_at c.self.inside.slots.items c.args.node (rw (← c.self.view_is) at c.requires) in
    rw c.replace.ensures.after (IsLaidOut-vacate _ _ _ c.args.node found.0 c.self.invariant found.1)

pub returns-clause-links : goal.returns-clause-links
returns-clause-links g c = rw (← c.self.view_is, c.replace.ensures.after, map-set)

pub returns-clause-held : goal.returns-clause-held
returns-clause-held g c =
    let found = held_at c.self.inside.slots.items c.args.node (rw (← c.self.view_is) at c.requires) in
    let counted = held-set c.self.inside.slots.items c.args.node.0 (Held found.0) (Vacant c.self.inside.vacant) found.1 in
    rw (← c.self.view_is, c.replace.ensures.after) (omega arith)

pub index_mut-requires : goal.index_mut-requires
index_mut-requires g c = grind (arith, common_steps)
