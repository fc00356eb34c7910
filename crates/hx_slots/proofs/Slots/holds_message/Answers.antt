use Rattle.std.proofs.Common.{◌==◌, ◌&&◌, List, ap, ◌∙◌}
use Rattle.std.specs.List.{list_any}
use Rattle.hx_cluster.specs.declared.state.Message.{Message}
use Rattle.hx_slots.specs.Kept.{Kept}
use Rattle.hx_slots.proofs.Calls.{holds_mail}
use Rattle.hx_slots.proofs.Slots.holds_message.Goals as goal

pub loop-message-init : goal.loop-message-init
loop-message-init c =
    ap (λ (ms : List Message). list_any (λ m. m.part.resource.0 == c.args.resource.0) ms) (c.into_iter-message-iterator.ensures.into_iter_gives ∙ c.owned-message-items.ensures)
    ∙ holds_mail c.self.inside.slots c.args.session c.args.resource.0 c.self.inside.mail c.self.invariant.0.each_message
    ∙ ap (λ (x : Kept). list_any (λ m. (m.part.resource.0 == c.args.resource.0) && (m.session.0 == c.args.session.0)) x.mail) c.self.view_is
