use Rattle.std.proofs.Common.{ℕ, Option, Some, refl, sym, subst}
use Rattle.hx_store.specs.Owners.{has, IsFirstFrom}
use Rattle.hx_store.proofs.Listed.{has_keys, none_first, first_of}
use Rattle.hx_store.proofs.owners.Owners.first_from.Goals as goal

pub returns-in_err-keys : goal.returns-in_err-keys
returns-in_err-keys c =
    let P : Option ℕ → Type 0 = λ r. IsFirstFrom (has c.args.self.now c.args.owner) c.args.from r in
    subst P (sym c.from_residual.ensures) (none_first c.args.owner c.args.from c.self.inside.lists.entries c.args.self.now c.self.view_is (sym c.in_err-keys.ensures.value))

pub returns : goal.returns
returns c =
    let keys = c.in_ok-keys.keys.now in
    first_of c.args.owner c.args.from keys _ c.args.self.now (has_keys c.args.owner (Some keys) keys c.self.inside.lists.entries c.args.self.now c.self.view_is c.in_ok-keys.ensures.value refl) c.first_from.ensures
