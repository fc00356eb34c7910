use Rattle.std.proofs.Common.{refl}
use Rattle.hx_cluster.specs.declared.happenings.Event.TheVariants as events
use Rattle.hx_cluster.specs.Marks.{take_refusal}
use Rattle.hx_check.proofs.Replaying.{room_led, led_marked, made_so}
use Rattle.hx_check.proofs.replayed.Replayed.take.Goals as goal

pub take-requires : goal.take-requires
take-requires c = room_led c.self.inside.records c.self.inside.weight c.self.invariant

pub invariant_of-self : goal.invariant_of-self
invariant_of-self c = led_marked (λ x. take_refusal x c.args.session c.args.id) (events.Take c.args.session c.args.id) _ _ _ c.take.result (λ may. may) refl c.self.invariant c.take.ensures.refused c.take.ensures.ok c.take.ensures.err

pub returns : goal.returns
returns c = made_so (λ x. take_refusal x c.args.session c.args.id) c.take.result _ _ _ (events.Take c.args.session c.args.id) _ c.self.view_is c.is_ok.ensures.value c.take.ensures.refused c.take.ensures.ok c.take.ensures.err
