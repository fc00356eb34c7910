use Rattle.std.proofs.Common.{rules, ◌≡◌, map, filter, sym, ◌∙◌}
use Rattle.std.specs.Prelude.{IfOk, ◌==◌}
use Rattle.std.proofs.lemmas.Result.{IfOk-weaker}
use Rattle.hx_cluster.specs.declared.happenings.Seen.{Seen}
use Rattle.hx_xview.specs.Views.{rows_of}
use Rattle.hx_xview.proofs.Looked.{routed_of_part}
use Rattle.hx_xview.proofs.routes.Routing.find.Goals as goal

pub returns : goal.returns
returns c =
    let found : IfOk c.collect.result (λ v. v.items ≡ map (λ (r : Seen). r.instance) (filter (λ (r : Seen). r.state.0 == c.args.state.0) (rows_of c.args.part c.args.self.now))) = search rules in
    IfOk-weaker c.collect.result _ _ (λ v e. e ∙ sym (routed_of_part c.args.self.now c.args.part c.args.state)) found
