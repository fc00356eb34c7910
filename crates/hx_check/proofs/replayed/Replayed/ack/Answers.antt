use Rattle.std.proofs.Common.{refl}
use Rattle.hx_cluster.specs.declared.happenings.Event.TheVariants as events
use Rattle.hx_cluster.specs.Marks.{ack_refusal}
use Rattle.hx_check.proofs.Replaying.{room_led, led_marked, made_so}
use Rattle.hx_check.proofs.replayed.Replayed.ack.Goals as goal

pub ack-requires-clause-room : goal.ack-requires-clause-room
ack-requires-clause-room c = room_led c.self.inside.records c.self.inside.weight c.self.invariant

pub invariant_of-self : goal.invariant_of-self
invariant_of-self c = led_marked (λ x. ack_refusal x c.args.session c.args.id) (events.Ack c.args.session c.args.id) _ _ _ c.ack.result (λ may. may) refl c.self.invariant c.ack.ensures.refused c.ack.ensures.ok c.ack.ensures.err

pub returns : goal.returns
returns c = made_so (λ x. ack_refusal x c.args.session c.args.id) c.ack.result _ _ _ (events.Ack c.args.session c.args.id) _ c.self.view_is c.is_ok.ensures.value c.ack.ensures.refused c.ack.ensures.ok c.ack.ensures.err
