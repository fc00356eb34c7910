use Rattle.std.proofs.Common.{◌≡◌, length, arith}
use Rattle.std.proofs.lemmas.Grind.{common_steps}
use Rattle.std.proofs.lemmas.Result.{MatchResult-at_ok}
use Rattle.hx_replicas.proofs.Indexing.{indexed-fresh}
use Rattle.hx_replicas.proofs.indexed.Indexed.accept_first.Goals as goal

pub returns-clause-indexed : goal.returns-clause-indexed
returns-clause-indexed g c =
    let n = c.push_reserved-node.result in
    let place : c.len-place.result ≡ length c.args.self.now.items.items = grind (arith, common_steps) in
    let updates = MatchResult-at_ok _ _ c.in-Ok.field-0 c.in-Ok.is c.insert.ensures.updates in
    indexed-fresh c.args.self.now _ c.requires.indexed c.args.message.now n c.requires.new c.push_reserved.ensures.items
    (rw place at c.push_reserved-node.ensures.entries) (rw place at updates.0) c.note.ensures.first (rw place at c.note.ensures.gets)
