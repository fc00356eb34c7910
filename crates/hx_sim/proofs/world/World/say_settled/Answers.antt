use Rattle.std.proofs.Common.{refl}
use Rattle.hx_worlds.specs.Settles.{say_report}
use Rattle.hx_scene.proofs.Reaching.{does_err, does_then_deed, ends_then, nothing_done, fails_inside_deed}
use Rattle.hx_sim.proofs.world.World.say_settled.Goals as goal

pub returns-in_err-say_settle : goal.returns-in_err-say_settle
returns-in_err-say_settle g c =
    rw (← c.self.view_is) (does_err _ _ _ _ _ _ _ _ c.from_residual.ensures.1 (fails_inside_deed _ _ _ _ _ _ c.in_err-say_settle.ensures (λ y. say_report c.args.settled.now.report y)))

pub returns-in-Some : goal.returns-in-Some
returns-in-Some g c =
    rw (← c.self.view_is) (does_then_deed c.in_ok-say_settle.ensures (λ y. say_report c.args.settled.now.report y) _ _ _ _ (rw c.in-Some.is c.say_entries.ensures))

pub returns-in-None : goal.returns-in-None
returns-in-None g c =
    rw (← c.self.view_is) (ends_then c.in_ok-say_settle.ensures (λ y. say_report c.args.settled.now.report y) (rw c.in-None.is (nothing_done _ tt _ _ (λ a. refl))))
