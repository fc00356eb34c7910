use Rattle.std.proofs.Common.{◌≡◌, ◌∙◌, ap, subst, List}
use Rattle.hx_ids.specs.declared.PartId.{PartId}
use Rattle.hx_cluster.specs.declared.state.Row.{Row}
use Rattle.hx_cluster.specs.Ends.{state_of}
use Rattle.hx_parts.proofs.Narrow.{state-at}
use Rattle.hx_best.specs.Places.{Placing}
use Rattle.hx_best.proofs.marks.Shown.state_of.Goals as goal

pub returns : goal.returns
returns c =
    subst (λ (x : Placing × PartId). c.state_on.result ≡ state_of x.0.view.rows c.args.session x.1) c.self.view_is
    (c.state_on.ensures ∙ ap (λ (rows : List Row). state_of rows c.args.session c.self.inside.part) c.self.invariant
    ∙ state-at c.self.inside.places.now.view.rows c.args.session c.self.inside.part)
