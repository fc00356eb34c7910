use Rattle.std.proofs.Common.{Some, subst}
use Rattle.std.proofs.lemmas.Result.{IfOk-weaker}
use Rattle.hx_check.specs.Judging.{IsBareIdeal}
use Rattle.hx_check.proofs.Judged.{added}
use Rattle.hx_check.proofs.judge.Judge.add.Goals as goal

pub returns : goal.returns
returns c =
    let now = c.args.self.now in
    let new = c.step.new.self in
    IfOk-weaker c.step.result _ _
    (λ cause is replicas parts mode bare.
    let here : IsBareIdeal replicas parts mode (Some c.in-Some.ideal) = subst (IsBareIdeal replicas parts mode) c.in-Some.is bare in
    added now new c.args.name c.args.resource c.args.model c.in-Some.ideal replicas parts mode cause here is)
    c.step.ensures
