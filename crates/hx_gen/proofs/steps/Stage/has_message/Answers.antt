use Rattle.std.proofs.Common.{◌≡◌, ◌∙◌, ap, subst, List, Option}
use Rattle.std.specs.Option.{is_some}
use Rattle.hx_cluster.specs.declared.state.Message.{Message}
use Rattle.hx_cluster.specs.Ends.{message_of}
use Rattle.hx_parts.proofs.Narrow.{message-at, message-same}
use Rattle.hx_gen.specs.Stage.{Stage}
use Rattle.hx_gen.proofs.steps.Stage.has_message.Goals as goal

pub returns : goal.returns
returns c =
    let s = c.args.target.now.session in
    let p = c.args.target.now.part in
    subst (λ (x : Stage). c.is_some.result ≡ is_some (message_of x.view.mail s p)) c.self.view_is
    (c.is_some.ensures ∙ ap (λ (o : Option Message). is_some o) (c.message_on.ensures ∙ ap (λ (mail : List Message). message_of mail s p) c.at.ensures
    ∙ message-at c.self.inside.mail s p ∙ message-same c.self.inside.view.now.mail c.self.inside.mail c.self.invariant.by_part s p))
