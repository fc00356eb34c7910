-- Which ideals stay those of the view that was planned last.
use Rattle.std.proofs.Common.{◌≡◌, Option, None, Some, sym, subst, refl}
use Rattle.hx_cluster.specs.declared.planning.View.{View}
use Rattle.hx_cluster.specs.declared.planning.Ideals.{Ideals}
use Rattle.hx_control.specs.declared.controller.Planned.{Planned}
use Rattle.hx_control.specs.declared.controller.Planned.TheVariants as wanted
use Rattle.hx_control.specs.Turning.{IsPlanned}

-- they do by another name
pub still_planned : (known : Planned) (spare shown other : Ideals) (last next : Option View) → other ≡ shown → next ≡ last
    → IsPlanned known spare shown last → IsPlanned known spare other next
still_planned known spare shown other last next same is wants =
    subst (λ (o : Option View). IsPlanned known spare other o) (sym is) (subst (λ (i : Ideals). IsPlanned known spare i last) (sym same) wants)

-- where nothing was planned last, any are
pub none_planned : (known : Planned) (spare shown : Ideals) (last : Option View) → last ≡ None → IsPlanned known spare shown last
none_planned known spare shown last none = subst (λ (o : Option View). IsPlanned known spare shown o) (sym none) (record { spared = λ _. tt; shows = λ _. tt })

-- the shown ones are, where what was shown was planned last
pub view_planned : (spare : Ideals) (view : View) (last : Option View) → last ≡ Some view → IsPlanned wanted.Shown spare view.ideals last
view_planned spare view last some = subst (λ (o : Option View). IsPlanned wanted.Shown spare view.ideals o) (sym some) (record { spared = λ is. cc; shows = λ _. refl })
