use Rattle.std.proofs.Common.{◌≡◌, true, refl, sym, subst, arith}
use Rattle.hx_cluster.specs.declared.state.Cluster.{Cluster}
use Rattle.hx_cluster.specs.declared.happenings.Event.TheVariants as events
use Rattle.std.specs.List.{list_all}
use Rattle.hx_cluster.specs.Steps.{has_controller}
use Rattle.hx_cluster.specs.Reads.{pass_of}
use Rattle.hx_cluster.specs.Events.{is_proposable, is_pass, dispatched_of}
use Rattle.hx_check.specs.Judging.{IsLedTo}
use Rattle.hx_check.proofs.Replaying.{own_epoch, own_pass, led_on, room_led}
use Rattle.hx_check.proofs.replayed.Replayed.dispatch.Goals as goal

pub dispatch-requires-clause-range : goal.dispatch-requires-clause-range
dispatch-requires-clause-range c =
    let R : Cluster → Type 0 = λ x. list_all (is_proposable x) c.args.proposals.now ≡ true in
    subst R (sym c.self.view_is) c.requires.range

pub dispatch-requires-clause-room : goal.dispatch-requires-clause-room
dispatch-requires-clause-room c = room_led c.self.inside.records c.self.inside.weight c.self.invariant

pub invariant_of-self-2 : goal.invariant_of-self-2
invariant_of-self-2 c =
    let a = c.self.inside in
    let k = c.args.controller in
    let qs = c.args.proposals.now in
    let P : Cluster → Type 0 = λ x. has_controller x k ≡ true in
    let R : Cluster → Type 0 = λ x. list_all (is_proposable x) qs ≡ true in
    let there : has_controller a.records k ≡ true = subst P (sym c.self.view_is) c.requires.there in
    let each : list_all (is_proposable a.records) qs ≡ true = subst R (sym c.self.view_is) c.requires.range in
    let now : is_pass a.records k (pass_of a.records k) ≡ true = own_pass a.records k there in
    let led = led_on a.records a.weight c.in_ok-weight.weight (events.Dispatch k a.records.epoch (pass_of a.records k) qs (dispatched_of a.records k qs)) c.self.invariant (each, own_epoch a.records, now, refl) (omega (arith, c.in_ok-weight.ensures.0)) c.in_ok-weight.ensures.1 in
    subst (λ (x : Cluster). IsLedTo x c.in_ok-weight.weight) (sym c.in_ok-answer.ensures.after) led
