use Rattle.std.proofs.Common.{◌≡◌, refl, sym, subst, arith}
use Rattle.hx_cluster.specs.declared.state.Cluster.{Cluster}
use Rattle.hx_cluster.specs.declared.happenings.Event.TheVariants as events
use Rattle.std.specs.Prelude.{Some}
use Rattle.hx_cluster.specs.Steps.{did_of}
use Rattle.hx_check.specs.Judging.{answer_of, IsLedTo}
use Rattle.hx_check.proofs.Replaying.{led_on, room_led}
use Rattle.hx_check.proofs.Judged.{step_free}
use Rattle.hx_check.proofs.replayed.Replayed.make.Goals as goal

pub make-requires-clause-room : goal.make-requires-clause-room
make-requires-clause-room c = room_led c.self.inside.records c.self.inside.weight c.self.invariant

pub invariant_of-self-2 : goal.invariant_of-self-2
invariant_of-self-2 c =
    let a = c.self.inside in
    let step = c.args.step.now in
    let P : Cluster → Type 0 = λ x. answer_of x step ≡ Some c.args.did.now in
    let free = step_free a.records step c.args.did.now (subst P (sym c.self.view_is) c.requires) in
    let led = led_on a.records a.weight c.in_ok-weight.weight (events.Admin step (did_of a.records step)) c.self.invariant (free.range, free.free, refl) (omega (arith, c.in_ok-weight.ensures.0, c.items_of.ensures)) c.in_ok-weight.ensures.1 in
    subst (λ (x : Cluster). IsLedTo x c.in_ok-weight.weight) (sym c.in_ok-make.ensures.ok) led
