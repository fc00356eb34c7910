use Rattle.std.proofs.Common.{◌∙◌, ap, [], List, Option, arith}
use Rattle.std.proofs.lemmas.Grind.{elements}
use Rattle.std.specs.Prelude.{unwrap_or}
use Rattle.std.proofs.lemmas.Option.{unwrap_or-slice_get}
use Rattle.hx_best.proofs.marks.items_in.Goals as goal

pub returns-in-None : goal.returns-in-None
returns-in-None g c = ap (λ (o : Option (List g.row.T.Denot)). unwrap_or o []) c.in-None.ensures ∙ unwrap_or-slice_get c.args.lists.now c.args.part []

pub returns-in-Some : goal.returns-in-Some
returns-in-Some c = grind (arith, elements)
