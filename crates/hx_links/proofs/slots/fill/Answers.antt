use Rattle.std.proofs.Common.{arith}
use Rattle.std.proofs.lemmas.Option.{slice_get_within}
use Rattle.hx_links.proofs.Vacancy.{read_at}
use Rattle.hx_links.proofs.slots.fill.Goals as goal

pub index_mut-requires : goal.index_mut-requires
index_mut-requires g c = omega (arith, slice_get_within c.args.slots.now.items c.args.node.0 _ c.requires.1)

pub unreachable-requires : goal.unreachable-requires
unreachable-requires g c =
    let read = read_at c.args.slots.now.items c.args.node.0 _ _ c.requires.1 c.index_mut.ensures.value in
    let was = c.replace.ensures.value in
    let taken = c.in-Held.is in
    cc

pub returns-clause-vacant : goal.returns-clause-vacant
returns-clause-vacant g c =
    let read = read_at c.args.slots.now.items c.args.node.0 _ _ c.requires.1 c.index_mut.ensures.value in
    let was = c.replace.ensures.value in
    let taken = c.in-Vacant.is in
    let found = c.requires.1 in
    cc
