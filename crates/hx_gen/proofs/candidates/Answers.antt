use Rattle.std.proofs.Common.{◌≡◌, List, sym, subst}
use Rattle.std.specs.Prelude.{option_map}
use Rattle.std.specs.List.{filter_map}
use Rattle.hx_cluster.specs.declared.planning.Candidate.{Candidate}
use Rattle.hx_parts.specs.Parts.{IsByPart}
use Rattle.hx_gen.specs.Candidates.{candidate_of, candidates}
use Rattle.hx_gen.specs.Stage.{Stage, ranked_as}
use Rattle.hx_gen.proofs.Ranks.{candidates_are}
use Rattle.hx_gen.proofs.ByPart.{candidates-by_part}
use Rattle.hx_gen.proofs.candidates.Goals as goal

pub returns : goal.returns
returns c =
    let models = c.args.models.now in
    let view = c.args.view.now in
    let targets = c.args.targets.now in
    let ranked = subst (λ (s : Stage). c.in_ok-ranked.ranked.items ≡ filter_map (λ t. option_map (ranked_as s) (candidate_of s.models s.view t)) targets) c.in_ok-stage.ensures c.in_ok-ranked.ensures in
    let found : c.in_ok-found.found.items ≡ candidates models view targets =
    candidates_are (record { models = models; view = view }) targets c.in_ok-ranked.ranked.items c.in_ok-found.found.items ranked c.in_ok-found.ensures in
    record { found = found; by_part = subst (λ (cs : List Candidate). IsByPart (λ c. c.part) cs) (sym found) (candidates-by_part models view targets) }
