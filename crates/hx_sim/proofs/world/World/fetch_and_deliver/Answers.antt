use Rattle.std.proofs.Common.{◌≡◌, refl, ap, sym, ◌∙◌}
use Rattle.hx_cluster.specs.Reads.{fetched}
use Rattle.hx_worlds.specs.declared.Voice.TheVariants.{Quiet}
use Rattle.hx_worlds.specs.Runs.{and_then, for_each}
use Rattle.hx_worlds.specs.Jobs.{deliver, do_fetch}
use Rattle.hx_scene.specs.Scenes.{at}
use Rattle.hx_scene.proofs.Reaching.{does_err, does_as, does_then_deed, fails_as, fails_inside_deed}
use Rattle.hx_sim.proofs.Lasting.{instance_lasts}
use Rattle.hx_sim.proofs.world.World.fetch_and_deliver.Goals as goal

pub returns-in_err-messages : goal.returns-in_err-messages
returns-in_err-messages g c =
    let i = c.args.instance in
    let s = c.self.inside.scene in
    rw (← c.self.view_is)
    (does_err _ _ _ _ _ _ _ _ c.from_residual.ensures.1
    (fails_as _ (λ x. and_then (do_fetch i x) (λ y. for_each (deliver Quiet i) (fetched s.board.cluster i).messages y)) s (λ a. refl) _ _ _ _
    (fails_inside_deed _ _ _ _ _ _ c.in_err-messages.ensures.does (λ y. for_each (deliver Quiet i) (fetched s.board.cluster i).messages y))))

pub deliver_all-requires-clause-instance : goal.deliver_all-requires-clause-instance
deliver_all-requires-clause-instance g c κs within = instance_lasts c.in_ok-messages.ensures.does c.args.instance (rw (← c.self.view_is) at c.requires)

pub returns : goal.returns
returns g c =
    let i = c.args.instance in
    let s = c.self.inside.scene in
    let ms = c.deref.result.now in
    let same : ms ≡ (fetched s.board.cluster i).messages = c.deref.ensures.value ∙ c.in_ok-messages.ensures.messages in
    rw (← c.self.view_is)
    (does_as _ (λ x. and_then (do_fetch i x) (λ y. for_each (λ m z. deliver Quiet i m z) ms y)) s
    (λ a. ap (λ l. and_then (do_fetch i (at s a)) (λ y. for_each (deliver Quiet i) l y)) (sym same)) _ _ _ _ _
    (does_then_deed c.in_ok-messages.ensures.does (λ y. for_each (λ m z. deliver Quiet i m z) ms y) _ _ _ _ c.deliver_all.ensures))
