use Rattle.hx_store.specs.Walks.{keys_left}
use Rattle.hx_store.proofs.Walks.{walk_has, walk_shows}
use Rattle.hx_store.proofs.Store.owned.Goals as goal

pub invariant_of-result : goal.invariant_of-result
invariant_of-result g c = walk_has c.args.owner c.self.inside.records c.self.inside.owners (keys_left c.keys.result) c.self.invariant c.keys.ensures

pub returns : goal.returns
returns g c = walk_shows c.args.owner c.self.inside.records c.args.self.now c.self.inside.owners (keys_left c.keys.result) c.self.view_is c.self.invariant c.keys.ensures
