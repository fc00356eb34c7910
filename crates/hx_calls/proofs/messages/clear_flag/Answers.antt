use Rattle.std.proofs.Common.{rules}
use Rattle.std.proofs.lemmas.Fn.{filter_same}
use Rattle.hx_calls.proofs.messages.clear_flag.Goals as goal

pub returns : goal.returns
returns c = filter_same _ _ _ (λ x b f' t. search rules) _ _ c.retain.ensures
