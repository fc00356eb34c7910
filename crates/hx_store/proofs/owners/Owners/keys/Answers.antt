use Rattle.std.proofs.Common.{ℕ, Option, Some, refl, sym, subst}
use Rattle.std.specs.declared.collections.vec_deque.Iter.{Iter}
use Rattle.hx_store.specs.Owners.{has}
use Rattle.hx_store.specs.Walks.{AreThose, keys_left}
use Rattle.hx_store.proofs.Listed.{has_keys}
use Rattle.hx_store.proofs.Walks.{no_keys, list_keys}
use Rattle.hx_store.proofs.owners.Owners.keys.Goals as goal

pub returns-in_err-keys : goal.returns-in_err-keys
returns-in_err-keys c =
    let P : Option (Iter ℕ) → Type 0 = λ r. AreThose (has c.args.self.now c.args.owner) (keys_left r) in
    subst P (sym c.from_residual.ensures) (no_keys c.args.owner c.self.inside.lists.entries c.args.self.now c.self.view_is c.in_err-keys.ensures.value)

pub returns : goal.returns
returns c =
    let keys = c.in_ok-keys.keys.now in
    list_keys c.args.owner keys _ c.args.self.now (has_keys c.args.owner (Some keys) keys c.self.inside.lists.entries c.args.self.now c.self.view_is c.in_ok-keys.ensures.value refl) c.iter.ensures.rest c.iter.ensures.ordered
