use Rattle.std.proofs.Common.{◌≡◌, ◌+◌, ◌<◌, ◌++◌, [], ◌∷◌, List, sym, ap, ◌∙◌, subst}
use Rattle.std.specs.Prelude.{filter}
use Rattle.hx_ids.specs.declared.PartId.{PartId}
use Rattle.hx_print.specs.Texts.{parts_at}
use Rattle.hx_sim.specs.Viewing.{is_shown_by}
use Rattle.hx_sim.proofs.Viewing.{part_of, viewed_on, adds, passes}
use Rattle.hx_sim.proofs.rows.add_viewed.Goals.{then-is_viewed+in_ok-push, else-is_viewed}
use Rattle.hx_sim.proofs.rows.add_viewed.Goals as goal

pub loop-index-preserved : goal.loop-index-preserved
loop-index-preserved c =
    let r = c.args.found.now in
    let shows = is_shown_by c.args.rows.now r.dropped in
    let i = c.loop-index.index in
    let p = part_of c.args.resource.0 i in
    let ps = c.loop-index.parts.items in
    let whole : List PartId = c.args.parts.now.items ++ filter shows (parts_at c.args.resource.0 r.ideal.parts) in
    let P : List PartId → Type 0 = λ qs. qs ++ viewed_on shows c.args.resource.0 (i + 1) r.ideal.parts ≡ whole in
    let below : i < r.ideal.parts = subst (λ n. i < n) c.parts-index-end.ensures.value c.loop-index-test.true in
    elim c.if-is_viewed.branch [
      | then-is_viewed+in_ok-push w ↦
          let pushed : c.if-is_viewed.parts.items ≡ ps ++ p ∷ [] = ap (λ v. v.items) w.parts-is ∙ w.in_ok-push.ensures.items in
          subst P (sym pushed) (adds shows c.args.resource.0 i r.ideal.parts ps whole below (sym c.is_viewed.ensures ∙ w.if-is_viewed.true) c.loop-index.invariant)
      | else-is_viewed w ↦
          let same : c.if-is_viewed.parts.items ≡ ps = ap (λ v. v.items) w.parts-is in
          subst P (sym same) (passes shows c.args.resource.0 i r.ideal.parts ps whole below (sym c.is_viewed.ensures ∙ w.if-is_viewed.false) c.loop-index.invariant)
    ]
