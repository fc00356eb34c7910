use Rattle.std.proofs.Common.{arith}
use Rattle.std.proofs.lemmas.Grind.{common_steps}
use Rattle.hx_links.specs.Slots.{with_prev}
use Rattle.hx_links.proofs.Vacancy.{changed}
use Rattle.hx_links.proofs.slots.Slots.set_prev.Goals as goal

pub index_mut-requires : goal.index_mut-requires
index_mut-requires c = grind (arith, common_steps)

pub invariant_of-self : goal.invariant_of-self
invariant_of-self g c = (changed _ _ _ _ _ _ (with_prev c.args.prev) _ _ c.self.invariant c.self.view_is c.index_mut.ensures.value c.in-Held.is c.requires).laid_out

pub returns : goal.returns
returns g c = (changed _ _ _ _ _ _ (with_prev c.args.prev) _ _ c.self.invariant c.self.view_is c.index_mut.ensures.value c.in-Held.is c.requires).told
