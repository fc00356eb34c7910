use Rattle.std.proofs.Common.{◌≡◌, Bool, true, false, not, ◌∷◌, [], ◌++◌, refl, sym, ◌∙◌}
use Rattle.std.specs.Str.{bytes_eq}
use Rattle.std.proofs.lemmas.Slice.Eq.{bytes_eq-Decides}
use Rattle.hx_calls.proofs.Front.{take-get}
use Rattle.hx_calls.proofs.same.NamesSame.same.Goals as goal

held : (b : Bool) → false ≡ not b → b ≡ true
held true e = refl
held false e = cc

pub loop-place-preserved : goal.loop-place-preserved
loop-place-preserved c =
    let x = c.name.result.now in
    let y = c.name-in-loop-place.result.now in
    let same : x ≡ y = (bytes_eq-Decides x y).0 (held (bytes_eq x y) (sym c.if-ne.false ∙ c.ne.ensures)) in
    take-get c.args.self.now c.loop-place.place x c.name.ensures
    ∙ (λ i. c.loop-place.invariant i ++ same i ∷ [])
    ∙ sym (take-get c.args.other.now c.loop-place.place y c.name-in-loop-place.ensures)
