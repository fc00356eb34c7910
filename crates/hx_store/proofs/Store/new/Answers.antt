use Rattle.hx_store.proofs.Owning.{empty_store}
use Rattle.hx_store.proofs.Store.new.Goals as goal

pub invariant_of-result : goal.invariant_of-result
invariant_of-result g c = empty_store _ _ c.new.ensures c.new-2.ensures
