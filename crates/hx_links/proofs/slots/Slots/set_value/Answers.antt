use Rattle.std.proofs.Common.{arith}
use Rattle.std.proofs.lemmas.Grind.{common_steps}
use Rattle.hx_links.specs.Slots.{with_value}
use Rattle.hx_links.proofs.Vacancy.{changed}
use Rattle.hx_links.proofs.slots.Slots.set_value.Goals as goal

pub invariant_of-self : goal.invariant_of-self
invariant_of-self g c = rw c.replace.ensures.after (changed _ _ _ _ _ _ (with_value c.args.value) _ _ c.self.invariant c.self.view_is c.index_mut.ensures.value c.in-Held.is c.requires).laid_out

pub returns-clause-links : goal.returns-clause-links
returns-clause-links g c = rw c.replace.ensures.after (changed _ _ _ _ _ _ (with_value c.args.value) _ _ c.self.invariant c.self.view_is c.index_mut.ensures.value c.in-Held.is c.requires).told.links

pub returns-clause-held : goal.returns-clause-held
returns-clause-held g c = rw c.replace.ensures.after (changed _ _ _ _ _ _ (with_value c.args.value) _ _ c.self.invariant c.self.view_is c.index_mut.ensures.value c.in-Held.is c.requires).told.held

pub index_mut-requires : goal.index_mut-requires
index_mut-requires g c = grind (arith, common_steps)
