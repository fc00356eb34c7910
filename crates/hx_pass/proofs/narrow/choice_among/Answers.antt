use Rattle.std.proofs.Common.{◌≡◌, ◌∙◌, List, Bool, true, refl, sym, ap, subst}
use Rattle.std.specs.Prelude.{IfOk}
use Rattle.std.specs.List.{list_all}
use Rattle.hx_cluster.specs.declared.planning.View.{View}
use Rattle.hx_cluster.specs.declared.planning.Target.{Target}
use Rattle.hx_cluster.specs.declared.planning.Candidate.{Candidate}
use Rattle.hx_best.specs.Targets.{all_targets}
use Rattle.hx_best.specs.Still.{HasMoving}
use Rattle.hx_gen.specs.Stage.{has_model}
use Rattle.hx_gen.specs.Candidates.{candidates}
use Rattle.hx_gen.proofs.Modelled.{all_targets-modelled}
use Rattle.hx_parts.specs.Marks.{is_marked}
use Rattle.hx_pass.specs.Local.{marked_targets}
use Rattle.hx_lists.proofs.Conditions.{all-filter}
use Rattle.hx_pass.proofs.AcceptedOf.{accepted_same}
use Rattle.hx_pass.specs.Waiting.{HasWaiting}
use Rattle.hx_gen.proofs.Moving.{candidates_same}
use Rattle.hx_pass.proofs.narrow.choice_among.Goals as goal
use Rattle.hx_pass.proofs.narrow.choice_among.Goals.{After-as_slice}

moving : (c : After-as_slice) → HasMoving c.args.models.now c.args.index.now (marked_targets c.args.models.now (is_marked c.args.marks.now) c.args.index.now) c.as_slice.result.now
moving c =
    let models = c.args.models.now in
    let view = c.args.index.now in
    subst (λ (ts : List Target). HasMoving models view (marked_targets models (is_marked c.args.marks.now) view) ts) (sym c.as_slice.ensures.value) c.in_ok-targets.ensures

pub candidates-requires-clause-models : goal.candidates-requires-clause-models
candidates-requires-clause-models c =
    let models = c.args.models.now in
    let view = c.args.index.now in
    let own : Target → Bool = λ t. has_model models view.ideals.resources t.part.resource in
    subst (λ (v : View). list_all (λ t. has_model models v.ideals.resources t.part.resource) c.as_slice.result.now ≡ true) (sym c.view-view.ensures)
    ((moving (goal.at.candidates-requires-clause-models c).After-as_slice).among own
    (all-filter own (λ t. is_marked c.args.marks.now t.part) (all_targets models view) (all_targets-modelled models view c.requires.models)))

pub returns-clause-accepted : goal.returns-clause-accepted
returns-clause-accepted c =
    let found = c.in_ok-candidates.ensures.found ∙ ap (λ (v : View). candidates c.args.models.now v c.as_slice.result.now) c.view-view.ensures in
    subst (λ (cs : List Candidate). IfOk c.choose_on.result (λ choice. choice.accepted ≡ cs))
    (accepted_same c.args.models.now c.args.index.now _ (marked_targets c.args.models.now (is_marked c.args.marks.now) c.args.index.now) c.as_slice.result.now _ _ (moving (goal.at.returns-clause-accepted c).After-as_slice)
    found refl c.shown.ensures) c.choose_on.ensures.accepted

pub returns-clause-waiting : goal.returns-clause-waiting
returns-clause-waiting c =
    let models = c.args.models.now in
    let found = c.in_ok-candidates.ensures.found ∙ ap (λ (v : View). candidates models v c.as_slice.result.now) c.view-view.ensures in
    subst (λ (cs : List Candidate). IfOk c.choose_on.result (λ choice. HasWaiting cs choice.accepted choice.waiting.items))
    (found ∙ candidates_same models c.args.index.now (marked_targets models (is_marked c.args.marks.now) c.args.index.now) c.as_slice.result.now (moving (goal.at.returns-clause-waiting c).After-as_slice))
    c.choose_on.ensures.waiting
