use Rattle.std.proofs.Common.{◌∙◌, ◌+◌, ◌++◌, Bool, List, [], ◌∷◌, take, get_or, append-nil, sym, ap}
use Rattle.std.specs.Prelude.{filter, map, if◌then◌else◌}
use Rattle.std.proofs.lemmas.Grind.{take_at_read}
use Rattle.hx_ids.specs.declared.InstanceId.{InstanceId}
use Rattle.hx_ids.specs.declared.SessionId.{SessionId}
use Rattle.hx_cluster.specs.declared.planning.View.{View}
use Rattle.hx_select.specs.Selection.{holds}
use Rattle.hx_select.proofs.Filling.{holders-push}
use Rattle.hx_select.proofs.fillings.Fillings.holders.Goals as goal
use Rattle.hx_select.proofs.fillings.Fillings.holders.Goals.{then-holds+in_ok-push, else-holds}

pub loop-entry-preserved : goal.loop-entry-preserved
loop-entry-preserved c = λ models accepted are limited.
    let i = c.loop-entry.entry-index in
    let items = c.as_slice-entry-items.result.now in
    let none : SessionId × InstanceId = (record { 0 = 0 }, record { 0 = 0 }) in
    let e = get_or items i none in
    let test = holds c.args.index.now accepted c.args.candidate.now in
    let is = c.as_slice-entry-items.ensures ∙ ap (λ (v : View). v.live) c.view.ensures in
    let before =
    c.loop-entry.invariant models accepted are limited
    ∙ ap (λ (xs : List (SessionId × InstanceId)). filter test (map (λ x. x.0) (take i xs))) (sym is) in
    let more =
    ap (λ (xs : List (SessionId × InstanceId)). filter test (map (λ x. x.0) (take (i + 1) xs))) (sym is)
    ∙ ap (λ (xs : List (SessionId × InstanceId)). filter test (map (λ x. x.0) xs)) (take_at_read items i none c.loop-entry-test.true).1
    ∙ holders-push test (take i items) e in
    let tells = c.holds.ensures models accepted are limited in
    elim c.if-holds.branch [
      | then-holds+in_ok-push w ↦
          w.holders-is ∙ w.in_ok-push.ensures.ok ∙ ap (λ (xs : List SessionId). xs ++ e.0 ∷ []) before
          ∙ ap (λ (b : Bool). filter test (map (λ x. x.0) (take i items)) ++ (if b then e.0 ∷ [] else [])) (sym w.if-holds.true ∙ tells)
          ∙ sym more
      | else-holds w ↦
          w.holders-is ∙ before ∙ sym (append-nil (filter test (map (λ x. x.0) (take i items))))
          ∙ ap (λ (b : Bool). filter test (map (λ x. x.0) (take i items)) ++ (if b then e.0 ∷ [] else [])) (sym w.if-holds.false ∙ tells)
          ∙ sym more
    ]
