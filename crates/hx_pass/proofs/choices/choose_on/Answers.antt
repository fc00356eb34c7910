use Rattle.std.proofs.Common.{◌≡◌, ◌∙◌, List, length, sym, ap, subst, Vec, Global}
use Rattle.hx_cluster.specs.declared.planning.Candidate.{Candidate}
use Rattle.hx_select.specs.Selection.{has_room, accepted_of}
use Rattle.hx_pass.specs.Waiting.{HasWaiting}
use Rattle.hx_pass.proofs.Waiting.{all_chosen, none_waits, all_wait}
use Rattle.hx_pass.proofs.choices.choose_on.Goals as goal
use Rattle.hx_pass.proofs.choices.choose_on.Goals.{then-len, else-len}

pub returns-clause-waiting : goal.returns-clause-waiting
returns-clause-waiting c =
    let models = c.args.models.now in
    let view = c.args.index.now in
    let all = c.args.candidates.items in
    let accepted = c.in_ok-accepted.accepted in
    let taken : accepted ≡ accepted_of models view all = c.in_ok-accepted.ensures ∙ ap (accepted_of models view) c.as_slice.ensures.value in
    elim c.if-len.branch [
      | then-len w ↦
          let as_many : length (accepted_of models view all) ≡ length all = ap length (sym taken) ∙ sym c.len.ensures ∙ w.if-len.true ∙ c.len-2.ensures ∙ sym c.as_slice.ensures.len ∙ ap length c.as_slice.ensures.value in
          subst (λ (cs : List Candidate). HasWaiting all accepted cs) (sym (ap (λ (v : Vec Candidate Global). v.items) w.waiting-is ∙ w.new-waiting.ensures.items))
          (none_waits all accepted (taken ∙ all_chosen (has_room models view) all as_many))
      | else-len w ↦ subst (λ (cs : List Candidate). HasWaiting all accepted cs) (sym (ap (λ (v : Vec Candidate Global). v.items) w.waiting-is)) (all_wait all accepted c.requires.by_part)
    ]
