use Rattle.std.proofs.Common.{◌≡◌, true, sym, subst, arith}
use Rattle.hx_cluster.specs.declared.state.Cluster.{Cluster}
use Rattle.hx_cluster.specs.declared.happenings.Event.TheVariants as events
use Rattle.hx_cluster.specs.Steps.{has_controller, is_leader}
use Rattle.hx_check.specs.Judging.{IsLedTo}
use Rattle.hx_check.proofs.Replaying.{led_on, room_led}
use Rattle.hx_check.proofs.replayed.Replayed.begin.Goals as goal

pub begin-begun-requires : goal.begin-begun-requires
begin-begun-requires c = room_led c.self.inside.records c.self.inside.weight c.self.invariant

pub invariant_of-self : goal.invariant_of-self
invariant_of-self c =
    let a = c.self.inside in
    let P : Cluster → Type 0 = λ x. has_controller x c.args.controller ≡ true in
    let Q : Cluster → Type 0 = λ x. is_leader c.args.controller x.leader ≡ true in
    let there : has_controller a.records c.args.controller ≡ true = subst P (sym c.self.view_is) c.requires.there in
    let leads : is_leader c.args.controller a.records.leader ≡ true = subst Q (sym c.self.view_is) c.requires.leads in
    let led = led_on a.records a.weight c.in_ok-weight.weight (events.Begin c.args.controller c.begin-begun.result) c.self.invariant (there, leads, c.begin-begun.ensures.begun) (omega (arith, c.in_ok-weight.ensures.0)) c.in_ok-weight.ensures.1 in
    subst (λ (x : Cluster). IsLedTo x c.in_ok-weight.weight) (sym c.begin-begun.ensures.after) led
