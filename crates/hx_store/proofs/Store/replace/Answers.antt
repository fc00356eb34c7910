use Rattle.std.proofs.Common.{List, ℕ, subst}
use Rattle.std.specs.List.Sorted.{IsStrictlySortedBy}
use Rattle.std.specs.Ordering.{nat_cmp}
use Rattle.std.specs.Map.{keys_of}
use Rattle.hx_store.specs.declared.Record.{Record}
use Rattle.hx_store.proofs.Owning.{indexed-same}
use Rattle.hx_store.proofs.Store.replace.Goals as goal

pub invariant_of-self : goal.invariant_of-self
invariant_of-self g c = record { ordered = c.change.ensures.ordered; indexed = indexed-same _ _ _ c.change.ensures.owners c.self.invariant.indexed }

pub returns-clause-ordered : goal.returns-clause-ordered
returns-clause-ordered g c =
    let P : List (ℕ × Record g.row.V.Denot) → Type 0 = λ es. IsStrictlySortedBy nat_cmp (keys_of es) in
    subst P c.self.view_is c.self.invariant.ordered
