use Rattle.std.proofs.Common.{IfOk, ◌≡◌, ◌∙◌, ap, true, List, sym, subst}
use Rattle.std.specs.List.{list_all}
use Rattle.hx_cluster.specs.declared.planning.View.{View}
use Rattle.hx_cluster.specs.declared.planning.Target.{Target}
use Rattle.hx_cluster.specs.declared.planning.Candidate.{Candidate}
use Rattle.hx_best.specs.Targets.{all_targets}
use Rattle.hx_best.specs.Still.{HasMoving}
use Rattle.hx_gen.specs.Stage.{has_model}
use Rattle.hx_gen.specs.Candidates.{candidates}
use Rattle.hx_gen.proofs.Modelled.{all_targets-modelled}
use Rattle.hx_gen.proofs.Moving.{candidates_same}
use Rattle.hx_pass.proofs.plans.candidates_on.Goals as goal
use Rattle.hx_pass.proofs.plans.candidates_on.Goals.{After-as_slice}

moving : (c : After-as_slice) → HasMoving c.args.models.now c.args.index.now (all_targets c.args.models.now c.args.index.now) c.as_slice.result.now
moving c =
    let models = c.args.models.now in
    let view = c.args.index.now in
    subst (λ (ts : List Target). HasMoving models view (all_targets models view) ts) (sym c.as_slice.ensures.value) c.in_ok-targets.ensures

pub candidates-requires-clause-models : goal.candidates-requires-clause-models
candidates-requires-clause-models c =
    let models = c.args.models.now in
    let view = c.args.index.now in
    subst (λ (v : View). list_all (λ t. has_model models v.ideals.resources t.part.resource) c.as_slice.result.now ≡ true) (sym c.view.ensures)
    ((moving (goal.at.candidates-requires-clause-models c).After-as_slice).among (λ t. has_model models view.ideals.resources t.part.resource) (all_targets-modelled models view c.requires.models))

pub returns-clause-found : goal.returns-clause-found
returns-clause-found c =
    let models = c.args.models.now in
    let view = c.args.index.now in
    let all = all_targets models view in
    subst (λ (cs : List Candidate). IfOk c.candidates.result (λ found. found.items ≡ cs))
    (ap (λ (v : View). candidates models v c.as_slice.result.now) c.view.ensures ∙ candidates_same models view all c.as_slice.result.now (moving (goal.at.returns-clause-found c).After-as_slice))
    c.candidates.ensures.found
