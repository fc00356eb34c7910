use Rattle.std.proofs.Common.{rules}
use Rattle.hx_store.proofs.Store.delete.Goals as goal

pub returns-clause-refused : goal.returns-clause-refused
returns-clause-refused g c = search rules
