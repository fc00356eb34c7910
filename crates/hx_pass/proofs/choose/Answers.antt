use Rattle.std.proofs.Common.{◌≡◌, ◌∙◌, List, ap, subst}
use Rattle.std.specs.Prelude.{IfOk}
use Rattle.hx_cluster.specs.declared.planning.View.{View}
use Rattle.hx_cluster.specs.declared.planning.Candidate.{Candidate}
use Rattle.hx_select.specs.Selection.{accepted_of}
use Rattle.hx_pass.specs.Plans.{all_candidates}
use Rattle.hx_pass.specs.Waiting.{HasWaiting}
use Rattle.hx_pass.proofs.choose.Goals as goal
use Rattle.hx_pass.proofs.choose.Goals.{In_ok-candidates}

-- the candidates are those of the view
all : (c : In_ok-candidates) → c.in_ok-candidates.candidates.items ≡ all_candidates c.args.models.now c.args.view.now
all c = c.in_ok-candidates.ensures.found ∙ ap (all_candidates c.args.models.now) c.in_ok-index.ensures

pub returns-clause-accepted : goal.returns-clause-accepted
returns-clause-accepted c =
    let models = c.args.models.now in
    subst (λ (cs : List Candidate). IfOk c.choose_on.result (λ choice. choice.accepted ≡ cs))
    (ap (λ (v : View). accepted_of models v c.in_ok-candidates.candidates.items) (c.shown.ensures ∙ c.in_ok-index.ensures)
    ∙ ap (accepted_of models c.args.view.now) (all (goal.at.returns-clause-accepted c).In_ok-candidates)) c.choose_on.ensures.accepted

pub returns-clause-waiting : goal.returns-clause-waiting
returns-clause-waiting c =
    subst (λ (cs : List Candidate). IfOk c.choose_on.result (λ choice. HasWaiting cs choice.accepted choice.waiting.items)) (all (goal.at.returns-clause-waiting c).In_ok-candidates) c.choose_on.ensures.waiting
