use Rattle.std.proofs.lemmas.Result.{MatchResult-at_ok}
use Rattle.hx_scene.proofs.Bags.{keyed_put, values_put}
use Rattle.hx_scene.proofs.numbered.Numbered.put.Goals as goal

pub invariant_of-self : goal.invariant_of-self
invariant_of-self c =
    let entries = MatchResult-at_ok _ _ c.unwrap.result c.unwrap.ensures c.insert.ensures.entries in
    rw entries (keyed_put c.self.inside.messages.entries c.args.message c.self.invariant)

pub returns-clause-items : goal.returns-clause-items
returns-clause-items c =
    let entries = MatchResult-at_ok _ _ c.unwrap.result c.unwrap.ensures c.insert.ensures.entries in
    rw (entries, ← c.self.view_is) (values_put c.self.inside.messages.entries c.args.message c.self.invariant)
