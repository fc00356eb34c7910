use Rattle.std.proofs.Common.{ℕ, sym, subst}
use Rattle.hx_store.specs.Places.{IsGapFor}
use Rattle.hx_store.proofs.Placing.{place_found}
use Rattle.hx_store.proofs.keys.place_of.Goals as goal

pub returns-in_default : goal.returns-in_default
returns-in_default c =
    let P : ℕ → Type 0 = λ n. IsGapFor c.args.keys.now.items c.args.key n in
    subst P (sym c.len.ensures) (c.ends_below.ensures c.if-ends_below.true)

pub returns-in_default-2 : goal.returns-in_default-2
returns-in_default-2 c = place_found c.args.keys.now.items c.args.key c.binary_search.result c.requires c.binary_search.ensures.position
