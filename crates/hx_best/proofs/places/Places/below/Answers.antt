use Rattle.std.proofs.Common.{◌≡◌, ◌∙◌, sym, subst, length}
use Rattle.std.proofs.lemmas.List.{get_or_past}
use Rattle.hx_model.specs.Model.{dropped}
use Rattle.hx_best.specs.Goals.{best_below}
use Rattle.hx_best.specs.Places.{Placing, model_in}
use Rattle.hx_best.proofs.Best.{read_below}
use Rattle.hx_best.proofs.places.Places.below.Goals as goal

pub returns-in-Some : goal.returns-in-Some
returns-in-Some c =
    subst (λ (x : Placing). c.in-Some.state.now ≡ best_below (model_in x) x.resource.ideal.replicas (length x.view.live) c.args.rank) c.self.view_is
    (c.in-Some.ensures.lookup.3.1 dropped ∙ read_below _ _ c.self.inside.best.items c.deref.result.now c.args.rank c.self.invariant c.deref.ensures.value)

pub returns-in-None : goal.returns-in-None
returns-in-None c =
    subst (λ (x : Placing). dropped ≡ best_below (model_in x) x.resource.ideal.replicas (length x.view.live) c.args.rank) c.self.view_is
    (sym (get_or_past c.deref.result.now c.args.rank dropped c.in-None.ensures.lookup.3) ∙ read_below _ _ c.self.inside.best.items c.deref.result.now c.args.rank c.self.invariant c.deref.ensures.value)
