use Rattle.std.proofs.Common.{◌∙◌, sym}
use Rattle.std.proofs.lemmas.Map.Steps.{set_value_same}
use Rattle.hx_counts.proofs.raise.Goals as goal

pub returns-then-number-clause-err : goal.returns-then-number-clause-err
returns-then-number-clause-err g c =
    let number = c.in-Some.number.now in
    (c.get_mut.follows.holds number).0 ∙ set_value_same _ _ number (sym c.in-Some.ensures.value)
