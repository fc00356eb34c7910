use Rattle.std.proofs.Common.{refl}
use Rattle.hx_replicas.specs.Layout.{taken}
use Rattle.hx_replicas.proofs.Altering.{alter-set}
use Rattle.std.proofs.Common.{sym}
use Rattle.hx_replicas.proofs.Indexing.{indexed-accept}
use Rattle.hx_replicas.proofs.indexed.Indexed.accept.Goals as goal

pub returns-clause-items : goal.returns-clause-items
returns-clause-items g c =
    let n = c.push_reserved-node.result in
    (n, sym (alter-set (taken c.args.message.now n) c.args.self.now.items.items c.args.place c.index_mut-slot.result.now c.requires.place c.index_mut-slot.ensures.value))

pub returns-clause-indexed : goal.returns-clause-indexed
returns-clause-indexed g c =
    let n = c.push_reserved-node.result in
    indexed-accept c.args.self.now _ c.requires.indexed c.args.place c.args.message.now n c.requires.place c.requires.idle
    (sym (alter-set (taken c.args.message.now n) c.args.self.now.items.items c.args.place c.index_mut-slot.result.now c.requires.place c.index_mut-slot.ensures.value))
    c.push_reserved-node.ensures.entries (λ p. refl) c.note.ensures.first c.note.ensures.gets
