use Rattle.std.proofs.Common.{ap}
use Rattle.hx_worlds.specs.Runs.{done}
use Rattle.hx_worlds.specs.Scripts.{do_what}
use Rattle.hx_scene.specs.Scenes.{at}
use Rattle.hx_scene.proofs.Reaching.{does_as, does_err, fails_as, fails_inside, reaches_as, then_on}
use Rattle.hx_sim.proofs.Asking.{IsAsking, asks_alone}
use Rattle.hx_sim.proofs.Standing.{instance_in, instance_and, controller_in, same_in}
use Rattle.hx_sim.proofs.Words.{does_same}
use Rattle.hx_sim.proofs.world.World.what.Goals as goal

pub work-requires-after_bounds : goal.work-requires-after_bounds
work-requires-after_bounds g c κs within = rw (← c.self.view_is) (instance_in c.self.inside.scene c.board.ensures.scene _ (same_in c.self.inside.scene (rw (← c.self.view_is) at c.requires) c.in-Work.is))

pub returns-in_ok-pass-in-Pass : goal.returns-in_ok-pass-in-Pass
returns-in_ok-pass-in-Pass g c =
    let s = c.args.self.now in
    reaches_as (λ a. ap (λ w. do_what c.args.voice w (at s a)) c.in-Pass.is) (then_on c.in_ok-pass-in-Pass.ensures (λ _ z. done z))

pub returns-in-Take : goal.returns-in-Take
returns-in-Take g c = rw (← c.self.view_is) (does_same (do_what c.args.voice) c.in-Take.is _ _ _ _ _ _ c.take.ensures)

pub call_if-requires-in-Post-after_bounds : goal.call_if-requires-in-Post-after_bounds
call_if-requires-in-Post-after_bounds g c κs within = rw (← c.self.view_is) (controller_in c.self.inside.scene c.board.ensures.scene _ (same_in c.self.inside.scene (rw (← c.self.view_is) at c.requires) c.in-Post.is))

pub returns-in-Work : goal.returns-in-Work
returns-in-Work g c = does_same (do_what c.args.voice) c.in-Work.is _ _ _ _ _ _ c.work.ensures

pub read-requires-after_bounds : goal.read-requires-after_bounds
read-requires-after_bounds g c κs within = rw (← c.self.view_is) (controller_in c.self.inside.scene c.board.ensures.scene _ (same_in c.self.inside.scene (rw (← c.self.view_is) at c.requires) c.in-Read.is))

pub returns-in_err-pass-in-Pass : goal.returns-in_err-pass-in-Pass
returns-in_err-pass-in-Pass g c =
    let s = c.args.self.now in
    does_err _ _ _ _ _ _ _ _ c.from_residual.ensures.1
    (fails_as _ _ s (λ a. ap (λ w. do_what c.args.voice w (at s a)) c.in-Pass.is) _ _ _ _ (fails_inside _ _ _ _ _ _ c.in_err-pass-in-Pass.ensures (λ _ z. done z)))

pub pass-requires-after_bounds : goal.pass-requires-after_bounds
pass-requires-after_bounds g c κs within = rw (← c.self.view_is) (controller_in c.self.inside.scene c.board.ensures.scene _ (same_in c.self.inside.scene (rw (← c.self.view_is) at c.requires) c.in-Pass.is))

pub returns-in_default : goal.returns-in_default
returns-in_default g c =
    let s = c.args.self.now in
    let asking : IsAsking c.args.what.now = record {
      die = c.in_default.not-Die;
      begin = c.in_default.not-Begin;
      read = c.in_default.not-Read;
      send = c.in_default.not-Send;
      post = c.in_default.not-Post;
      pass = c.in_default.not-Pass;
      fetch = c.in_default.not-Fetch;
      deliver = c.in_default.not-Deliver;
      take = c.in_default.not-Take;
      write = c.in_default.not-Write;
      ack = c.in_default.not-Ack;
      work = c.in_default.not-Work;
      settle = c.in_default.not-Settle;
      view = c.in_default.not-View;
      route = c.in_default.not-Route;
      summary = c.in_default.not-Summary;
    } in
    does_as _ _ s (λ a. asks_alone c.args.voice c.args.what.now (at s a) asking) _ _ _ _ _ c.asked_step.ensures

pub returns-in-Route : goal.returns-in-Route
returns-in-Route g c = does_same (do_what c.args.voice) c.in-Route.is _ _ _ _ _ _ c.route.ensures

pub deliver-requires-after_bounds : goal.deliver-requires-after_bounds
deliver-requires-after_bounds g c κs within = rw (← c.self.view_is) (instance_and c.self.inside.scene c.board.ensures.scene _ _ (same_in c.self.inside.scene (rw (← c.self.view_is) at c.requires) c.in-Deliver.is))

pub returns-in_err-fetch-in-Fetch : goal.returns-in_err-fetch-in-Fetch
returns-in_err-fetch-in-Fetch g c =
    let s = c.self.inside.scene in
    rw (← c.self.view_is)
    (does_err _ _ _ _ _ _ _ _ c.from_residual-in_err-fetch-in-Fetch.ensures.1
    (fails_as _ _ s (λ a. ap (λ w. do_what c.args.voice w (at s a)) c.in-Fetch.is) _ _ _ _ c.in_err-fetch-in-Fetch.ensures.does))

pub take-requires-after_bounds : goal.take-requires-after_bounds
take-requires-after_bounds g c κs within = instance_and c.self.inside.scene c.board.ensures.scene _ _ (same_in c.self.inside.scene (rw (← c.self.view_is) at c.requires) c.in-Take.is)

pub returns-in-View : goal.returns-in-View
returns-in-View g c = does_same (do_what c.args.voice) c.in-View.is _ _ _ _ _ _ c.view.ensures

pub write-requires-after_bounds : goal.write-requires-after_bounds
write-requires-after_bounds g c κs within = instance_and c.self.inside.scene c.board.ensures.scene _ _ (same_in c.self.inside.scene (rw (← c.self.view_is) at c.requires) c.in-Write.is)

pub returns-in-Post : goal.returns-in-Post
returns-in-Post g c = does_same (do_what c.args.voice) c.in-Post.is _ _ _ _ _ _ c.call_if-in-Post.ensures

pub begin-requires-after_bounds : goal.begin-requires-after_bounds
begin-requires-after_bounds g c κs within = rw (← c.self.view_is) (controller_in c.self.inside.scene c.board.ensures.scene _ (same_in c.self.inside.scene (rw (← c.self.view_is) at c.requires) c.in-Begin.is))

pub returns-in-Ack : goal.returns-in-Ack
returns-in-Ack g c = rw (← c.self.view_is) (does_same (do_what c.args.voice) c.in-Ack.is _ _ _ _ _ _ c.ack.ensures)

pub returns-in-Deliver : goal.returns-in-Deliver
returns-in-Deliver g c = does_same (do_what c.args.voice) c.in-Deliver.is _ _ _ _ _ _ c.deliver.ensures

pub returns-in-Summary : goal.returns-in-Summary
returns-in-Summary g c = does_same (do_what c.args.voice) c.in-Summary.is _ _ _ _ _ _ c.summary.ensures

pub fetch-requires-after_bounds : goal.fetch-requires-after_bounds
fetch-requires-after_bounds g c κs within = instance_in c.self.inside.scene c.board.ensures.scene _ (same_in c.self.inside.scene (rw (← c.self.view_is) at c.requires) c.in-Fetch.is)

pub die-requires-after_bounds : goal.die-requires-after_bounds
die-requires-after_bounds g c κs within = instance_in c.self.inside.scene c.board.ensures.scene _ (same_in c.self.inside.scene (rw (← c.self.view_is) at c.requires) c.in-Die.is)

pub call_if-requires-after_bounds : goal.call_if-requires-after_bounds
call_if-requires-after_bounds g c κs within = rw (← c.self.view_is) (controller_in c.self.inside.scene c.board.ensures.scene _ (same_in c.self.inside.scene (rw (← c.self.view_is) at c.requires) c.in-Send.is))

pub returns-in-Send : goal.returns-in-Send
returns-in-Send g c = does_same (do_what c.args.voice) c.in-Send.is _ _ _ _ _ _ c.call_if.ensures

pub returns-in-Begin : goal.returns-in-Begin
returns-in-Begin g c = does_same (do_what c.args.voice) c.in-Begin.is _ _ _ _ _ _ c.begin.ensures

pub ack-requires-after_bounds : goal.ack-requires-after_bounds
ack-requires-after_bounds g c κs within = instance_and c.self.inside.scene c.board.ensures.scene _ _ (same_in c.self.inside.scene (rw (← c.self.view_is) at c.requires) c.in-Ack.is)

pub returns-in_ok-fetch-in-Fetch : goal.returns-in_ok-fetch-in-Fetch
returns-in_ok-fetch-in-Fetch g c =
    let s = c.self.inside.scene in
    rw (← c.self.view_is) (reaches_as (λ a. ap (λ w. do_what c.args.voice w (at s a)) c.in-Fetch.is) c.in_ok-fetch-in-Fetch.ensures.does)

pub returns-in-Die : goal.returns-in-Die
returns-in-Die g c = rw (← c.self.view_is) (does_same (do_what c.args.voice) c.in-Die.is _ _ _ _ _ _ c.die.ensures)

pub returns-in-Read : goal.returns-in-Read
returns-in-Read g c = does_same (do_what c.args.voice) c.in-Read.is _ _ _ _ _ _ c.read.ensures

pub returns-in-Write : goal.returns-in-Write
returns-in-Write g c = rw (← c.self.view_is) (does_same (do_what c.args.voice) c.in-Write.is _ _ _ _ _ _ c.write.ensures)

pub returns-in-Settle : goal.returns-in-Settle
returns-in-Settle g c = does_same (do_what c.args.voice) c.in-Settle.is _ _ _ _ _ _ c.settle_aloud.ensures
