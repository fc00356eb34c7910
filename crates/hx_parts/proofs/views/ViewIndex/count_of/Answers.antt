use Rattle.std.proofs.Common.{◌≡◌, ◌∙◌, map, subst}
use Rattle.hx_cluster.specs.declared.planning.View.{View}
use Rattle.hx_parts.specs.Index.{count_in}
use Rattle.hx_parts.proofs.Found.{ends_found}
use Rattle.hx_parts.proofs.views.ViewIndex.count_of.Goals as goal

pub returns : goal.returns
returns c =
    let view = c.self.inside.view.now in
    subst (λ (v : View). c.count_over.result ≡ count_in v c.args.part c.args.state) c.self.view_is
    (c.count_over.ensures ∙ rw (c.as_slice-live.ensures, c.at.ensures, c.at-2.ensures)
    (ends_found view.rows c.self.inside.rows view.mail c.self.inside.mail c.self.invariant.rows c.self.invariant.mail (map (λ e. e.0) view.live) c.args.part c.args.state))
