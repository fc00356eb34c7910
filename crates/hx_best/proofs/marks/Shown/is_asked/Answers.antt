use Rattle.std.proofs.Common.{◌≡◌, ◌∙◌, ap, subst}
use Rattle.std.specs.List.{list_any}
use Rattle.hx_ids.specs.declared.PartId.{PartId}
use Rattle.hx_cluster.specs.Steps.{is_flag}
use Rattle.hx_cluster.specs.declared.planning.View.{View}
use Rattle.hx_parts.specs.Parts.{items_at}
use Rattle.hx_parts.proofs.Narrow.{flag-at}
use Rattle.hx_best.specs.Goals.{is_asked}
use Rattle.hx_best.specs.Places.{Placing}
use Rattle.hx_best.proofs.marks.Shown.is_asked.Goals as goal

pub returns : goal.returns
returns c =
    subst (λ (x : Placing × PartId). c.has_flag.result ≡ is_asked x.0.view c.args.session x.1) c.self.view_is
    (c.has_flag.ensures ∙ ap (list_any (is_flag c.args.session c.self.inside.part)) (c.resets_at.ensures ∙ ap (λ (view : View). items_at (λ f. f.1) c.self.inside.part view.ideals.resets) (c.shown-shown.ensures ∙ c.index.ensures))
    ∙ flag-at c.self.inside.places.now.view.ideals.resets c.args.session c.self.inside.part)
