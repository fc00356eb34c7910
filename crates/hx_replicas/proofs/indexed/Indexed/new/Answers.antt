use Rattle.std.proofs.Common.{refl}
use Rattle.hx_replicas.proofs.indexed.Indexed.new.Goals as goal

pub returns-clause-indexed : goal.returns-clause-indexed
returns-clause-indexed g c = record {
  queue = rw (c.new.ensures.items, c.new-2.ensures.entries) (record { waits = λ j. refl; long = refl });
  places = λ p. rw (c.new.ensures.items, c.new-3.ensures.empty) refl;
  numbers = λ clear id. rw (c.new.ensures.items, c.new-4.ensures.empty) (λ j x e. absurd (cc));
}
