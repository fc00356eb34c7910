use Rattle.std.proofs.Common.{arith, ◌∙◌}
use Rattle.hx_replicas.proofs.Indexing.{few}
use Rattle.hx_replicas.proofs.indexed.Indexed.reserve.Goals as goal

pub reserve-requires-2 : goal.reserve-requires-2
reserve-requires-2 g c = omega (arith, few c.args.self.now c.args.self.now c.requires.indexed, c.requires.few)

pub returns-clause-indexed : goal.returns-clause-indexed
returns-clause-indexed g c = record {
  queue = rw (c.reserve.ensures.items, c.reserve-2.ensures.entries) c.requires.indexed.queue;
  places = λ p. c.reserve-3.ensures.entries.2 p ∙ rw c.reserve.ensures.items (c.requires.indexed.places p);
  numbers = λ clear id. rw (c.reserve.ensures.items, c.reserve-4.ensures.entries.2 id) (c.requires.indexed.numbers clear id);
}
