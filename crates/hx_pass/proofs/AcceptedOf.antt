-- What is accepted of the candidates of the targets that move is what is accepted of all of them.
use Rattle.std.proofs.Common.{◌≡◌, ◌∙◌, ap, List}
use Rattle.hx_model.specs.declared.ModelParts.{ModelParts}
use Rattle.hx_cluster.specs.declared.planning.View.{View}
use Rattle.hx_cluster.specs.declared.planning.Target.{Target}
use Rattle.hx_cluster.specs.declared.planning.Candidate.{Candidate}
use Rattle.hx_best.specs.Still.{HasMoving}
use Rattle.hx_gen.specs.Candidates.{candidates}
use Rattle.hx_gen.proofs.Moving.{candidates_same}
use Rattle.hx_select.specs.Selection.{accepted_of}

pub accepted_same : (models : List ModelParts) (view shown : View) (targets moving : List Target) (found slice : List Candidate) → HasMoving models view targets moving
    → found ≡ candidates models view moving → slice ≡ found → shown ≡ view → accepted_of models shown slice ≡ accepted_of models view (candidates models view targets)
accepted_same models view shown targets moving found slice has made same seen =
    ap (λ (v : View). accepted_of models v slice) seen ∙ ap (accepted_of models view) (same ∙ made ∙ candidates_same models view targets moving has)
