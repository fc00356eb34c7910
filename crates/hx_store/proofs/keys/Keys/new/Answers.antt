use Rattle.hx_store.proofs.Placing.{sorted_none}
use Rattle.hx_store.proofs.keys.Keys.new.Goals as goal

pub invariant_of-result : goal.invariant_of-result
invariant_of-result c = sorted_none c.new.result.items c.new.ensures.items
