use Rattle.std.proofs.Common.{◌≡◌, true, sym, subst, arith}
use Rattle.hx_cluster.specs.declared.state.Cluster.{Cluster}
use Rattle.hx_cluster.specs.declared.happenings.Event.TheVariants as events
use Rattle.hx_cluster.specs.Events.{is_later}
use Rattle.hx_check.specs.Judging.{IsLedTo}
use Rattle.hx_check.proofs.Replaying.{led_on}
use Rattle.hx_check.proofs.replayed.Replayed.take_line.Goals as goal

pub invariant_of-self : goal.invariant_of-self
invariant_of-self c =
    let a = c.self.inside in
    let P : Cluster → Type 0 = λ x. is_later x.line c.args.line ≡ true in
    let later : is_later a.records.line c.args.line ≡ true = subst P (sym c.self.view_is) c.requires in
    let led = led_on a.records a.weight c.in_ok-weight.weight (events.Line c.args.line) c.self.invariant later (omega (arith, c.in_ok-weight.ensures.0)) c.in_ok-weight.ensures.1 in
    subst (λ (x : Cluster). IsLedTo x c.in_ok-weight.weight) (sym c.take_line.ensures) led
