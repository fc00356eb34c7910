use Rattle.std.proofs.Common.{refl}
use Rattle.hx_cluster.specs.declared.happenings.Event.TheVariants as events
use Rattle.hx_cluster.specs.Marks.{write_refusal}
use Rattle.hx_check.proofs.Replaying.{room_led, led_marked, made_so}
use Rattle.hx_check.proofs.replayed.Replayed.write.Goals as goal

pub write-requires-clause-room : goal.write-requires-clause-room
write-requires-clause-room c = room_led c.self.inside.records c.self.inside.weight c.self.invariant

pub invariant_of-self : goal.invariant_of-self
invariant_of-self c = led_marked (λ x. write_refusal x c.args.session c.args.id) (events.Write c.args.session c.args.id c.args.outcome) _ _ _ c.write.result (λ may. may) refl c.self.invariant c.write.ensures.refused c.write.ensures.ok c.write.ensures.err

pub returns : goal.returns
returns c = made_so (λ x. write_refusal x c.args.session c.args.id) c.write.result _ _ _ (events.Write c.args.session c.args.id c.args.outcome) _ c.self.view_is c.is_ok.ensures.value c.write.ensures.refused c.write.ensures.ok c.write.ensures.err
