use Rattle.std.proofs.Common.{◌≡◌, sym, ◌∙◌}
use Rattle.hx_model.specs.Model.{states_of}
use Rattle.hx_calls.proofs.Alike.{same_listed, listed_same}
use Rattle.hx_calls.proofs.same.same_states.Goals as goal

pub returns : goal.returns
returns c =
    let a = c.args.model.now in
    let b = c.args.other.now in
    let states : states_of a ≡ states_of b = sym c.states.ensures.states ∙ c.all_same.ensures.0 c.if-not-all_same.false ∙ c.states-2.ensures.states in
    (λ alike. same_listed a b c.states.ensures.sound states (sym c.same_bounds.ensures ∙ alike), λ same. c.same_bounds.ensures ∙ listed_same a b same)
