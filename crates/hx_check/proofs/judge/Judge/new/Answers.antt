use Rattle.std.proofs.Common.{◌≡◌, List, sym, ◌∙◌, subst}
use Rattle.hx_cluster.specs.declared.state.Cluster.{Cluster}
use Rattle.hx_pass.specs.Turns.{Turn}
use Rattle.hx_cluster.specs.Steps.{opening}
use Rattle.hx_check.specs.Judging.{AreTurns}
use Rattle.hx_check.proofs.Turning.{turns_opening}
use Rattle.hx_check.proofs.judge.Judge.new.Goals as goal

pub invariant_of-result : goal.invariant_of-result
invariant_of-result c =
    subst (λ (x : Cluster). (c.in_ok-hops.hops.items ≡ x.models) × AreTurns x c.in_ok-turns.turns.items) (sym c.in_ok-replayed.ensures)
    (c.in_ok-hops.ensures ∙ c.as_slice.ensures, subst (λ (ts : List Turn). AreTurns (opening c.args.spec.now) ts) (sym c.in_ok-turns.ensures) (turns_opening c.args.spec.now))
