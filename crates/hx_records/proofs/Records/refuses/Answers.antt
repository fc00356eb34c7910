use Rattle.std.proofs.Common.{ap, ◌∙◌}
use Rattle.hx_cluster.specs.declared.state.Cluster.{Cluster}
use Rattle.hx_cluster.specs.Steps.{refusal_of}
use Rattle.hx_records.proofs.Reaching.{whole_reached}
use Rattle.hx_records.proofs.Asides.{refusal_alike}
use Rattle.hx_records.proofs.Records.refuses.Goals as goal

pub add_fault-requires-clause-whole : goal.add_fault-requires-clause-whole
add_fault-requires-clause-whole c = whole_reached c.args.self.now c.requires.reached

pub returns-in_default : goal.returns-in_default
returns-in_default c =
    let is = c.in_default in
    c.refuses.ensures
    ∙ refusal_alike c.self.inside c.args.step.now is.not-Join is.not-End is.not-Beat is.not-Add is.not-Reset
    ∙ ap (λ (x : Cluster). refusal_of x c.args.step.now) c.self.view_is
