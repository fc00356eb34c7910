use Rattle.std.proofs.Common.{◌∙◌}
use Rattle.hx_replicas.proofs.Indexing.{place_told}
use Rattle.hx_replicas.proofs.indexed.Indexed.accepted_place.Goals as goal

pub returns : goal.returns
returns g c = c.copied.ensures ∙ c.get.ensures.value ∙ place_told c.args.id _ c.args.self.now.items.items (c.requires.numbers (cc) c.args.id)
