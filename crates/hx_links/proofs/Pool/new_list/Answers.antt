use Rattle.std.proofs.Common.{sym, subst, arith}
use Rattle.std.proofs.lemmas.Grind.{common_steps}
use Rattle.std.proofs.lemmas.List.Sums.{count_by-le-length}
use Rattle.std.specs.Option.{is_some}
use Rattle.hx_links.specs.Chains.{AreLinks, lists_of}
use Rattle.hx_links.proofs.Reading.{with_empty, walked}
use Rattle.hx_links.proofs.Pool.new_list.Goals as goal

pub returns-clause-lists : goal.returns-clause-lists
returns-clause-lists g c =
    let are = with_empty c.self.inside.chains.slots.links c.self.inside.chains.ends.items (lists_of c.self.inside.chains) c.self.invariant in
    rw (← c.self.view_is, c.in_ok-push.ensures.items) (walked c.self.inside.chains.slots.links _ _ are (omega (arith, are.all, count_by-le-length is_some c.self.inside.chains.slots.links)))

pub invariant_of-self-2 : goal.invariant_of-self-2
invariant_of-self-2 g c =
    let are = with_empty c.self.inside.chains.slots.links c.self.inside.chains.ends.items (lists_of c.self.inside.chains) c.self.invariant in
    let found = walked c.self.inside.chains.slots.links _ _ are (omega (arith, are.all, count_by-le-length is_some c.self.inside.chains.slots.links)) in
    rw c.in_ok-push.ensures.items (subst (AreLinks _ _) (sym found) are)

pub overflow_cast-list : goal.overflow_cast-list
overflow_cast-list g c = grind (arith, common_steps)
