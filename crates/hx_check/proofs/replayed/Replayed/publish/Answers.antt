use Rattle.std.proofs.Common.{◌≡◌, true, sym, subst, arith}
use Rattle.hx_ids.specs.declared.ControllerId.{ControllerId}
use Rattle.hx_cluster.specs.declared.state.Cluster.{Cluster}
use Rattle.hx_cluster.specs.declared.happenings.Event.TheVariants as events
use Rattle.std.specs.List.{list_all}
use Rattle.hx_cluster.specs.Events.{is_postable}
use Rattle.hx_check.specs.Judging.{IsLedTo}
use Rattle.hx_check.proofs.Replaying.{own_epoch, led_on, ranged_led, some_controller}
use Rattle.hx_check.proofs.replayed.Replayed.publish.Goals as goal

pub invariant_of-self-2 : goal.invariant_of-self-2
invariant_of-self-2 c =
    let a = c.self.inside in
    let k : ControllerId = record { 0 = 0 } in
    let P : Cluster → Type 0 = λ x. list_all (is_postable x) c.args.rows.now ≡ true in
    let each : list_all (is_postable a.records) c.args.rows.now ≡ true = subst P (sym c.self.view_is) c.requires in
    let led = led_on a.records a.weight c.in_ok-weight.weight (events.Post k a.records.epoch c.args.rows.now) c.self.invariant (some_controller a.records (ranged_led a.records a.weight c.self.invariant), each, own_epoch a.records) (omega (arith, c.in_ok-weight.ensures.0)) c.in_ok-weight.ensures.1 in
    subst (λ (x : Cluster). IsLedTo x c.in_ok-weight.weight) (sym c.in_ok-publish.ensures.ok) led
