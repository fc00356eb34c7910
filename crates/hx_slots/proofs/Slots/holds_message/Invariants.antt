use Rattle.std.proofs.Common.{◌≡◌, ◌==◌, ◌&&◌}
use Rattle.std.specs.List.{list_any}
use Rattle.hx_slots.proofs.Slots.holds_message.Given as goal

abbrev pub invariant-loop-message : goal.invariant-loop-message
invariant-loop-message l =
    list_any (λ m. m.part.resource.0 == l.resource.0) l.message-iterator ≡ list_any (λ m. (m.part.resource.0 == l.resource.0) && (m.session.0 == l.fn.session.0)) l.fn.self.mail
