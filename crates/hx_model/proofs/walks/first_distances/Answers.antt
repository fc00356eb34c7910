use Rattle.std.proofs.Common.{ℕ, List, ◌∙◌}
use Rattle.std.proofs.Math.ListN.{replicate}
use Rattle.std.proofs.lemmas.List.{get_or-set_other, get_or-replicate}
use Rattle.hx_model.proofs.walks.first_distances.Goals as goal

pub returns-clause-rest : goal.returns-clause-rest
returns-clause-rest c s lt ne =
    let start : List ℕ = replicate 256 c.args.none in
    get_or-set_other start c.args.goal.0 s 0 0 ne ∙ get_or-replicate 256 s c.args.none 0 lt
