use Rattle.std.proofs.Common.{◌==◌, ◌∙◌, ap}
use Rattle.std.specs.List.{list_any}
use Rattle.hx_hops.proofs.Table.{any_state}
use Rattle.hx_gen.proofs.steps.has_state.Goals as goal

pub returns-clause-has : goal.returns-clause-has
returns-clause-has c = c.is_among.ensures ∙ ap (list_any (λ s. s.0 == c.args.state.0)) c.states.ensures.states ∙ any_state c.args.state.0 c.args.model.now.states
