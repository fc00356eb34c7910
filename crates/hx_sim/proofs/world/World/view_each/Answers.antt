use Rattle.std.proofs.Common.{◌≡◌, ap, sym, ◌∙◌, subst}
use Rattle.std.specs.Prelude.{slice_index_or}
use Rattle.hx_cluster.specs.declared.state.Cluster.{Cluster}
use Rattle.hx_board.specs.declared.faults.RoomFault.TheVariants as rooms
use Rattle.hx_ids.specs.declared.PartId.{PartId}
use Rattle.hx_print.specs.Texts.{view_of_part, view_line}
use Rattle.hx_worlds.specs.World.{State}
use Rattle.hx_worlds.specs.Runs.{Deed}
use Rattle.hx_worlds.specs.Scripts.{say_view_of}
use Rattle.hx_scene.specs.Scenes.{at}
use Rattle.hx_scene.proofs.Reaching.{here, reaches_as, fails_as, does_err, fails_after, cut_here, each_more, each_fails}
use Rattle.hx_sim.specs.Viewing.{IsViewOf}
use Rattle.hx_sim.proofs.Each.{no_part}
use Rattle.hx_sim.proofs.Saying.{said_cluster}
use Rattle.hx_sim.proofs.world.World.view_each.Goals as goal

abbrev said : PartId → State → Deed
said p y = say_view_of p (view_of_part y.world.cluster p) y

pub loop-part-init : goal.loop-part-init
loop-part-init g c = record {
  reaches = rw (← c.self.view_is) (here _ _ _);
  view = rw (← c.self.view_is) at c.requires;
}

pub returns-in_err-holders : goal.returns-in_err-holders
returns-in_err-holders g c = does_err _ _ _ _ _ _ _ _ c.from_residual.ensures.1 (fails_after c.loop-part.invariant.reaches rooms.OutOfMemory _ _ (cut_here _ _ _))

pub returns-in_err-say_view : goal.returns-in_err-say_view
returns-in_err-say_view g c =
    let s = c.loop-part.self-inside.scene in
    let p = slice_index_or c.args.parts.now c.loop-part.part-index no_part in
    let same : c.deref.result.now ≡ view_of_part s.board.cluster p = c.deref.ensures.value ∙ c.in_ok-holders.ensures ∙ c.loop-part.invariant.view p in
    does_err _ _ _ _ _ _ _ _ c.from_residual-in_err-say_view.ensures.1
    (each_fails said c.args.parts.now c.loop-part.part-index no_part _ _ _ c.loop-part-test.true c.loop-part.invariant.reaches
    (fails_as (said p) _ s (λ a. ap (λ hs. say_view_of p hs (at s a)) (sym same)) _ _ _ _ c.in_err-say_view.ensures))

pub loop-part-preserved : goal.loop-part-preserved
loop-part-preserved g c =
    let s = c.loop-part.self-inside.scene in
    let p = slice_index_or c.args.parts.now c.loop-part.part-index no_part in
    let same : c.deref.result.now ≡ view_of_part s.board.cluster p = c.deref.ensures.value ∙ c.in_ok-holders.ensures ∙ c.loop-part.invariant.view p in
    record {
      reaches = each_more said c.args.parts.now c.loop-part.part-index no_part c.loop-part-test.true c.loop-part.invariant.reaches
          (reaches_as (λ a. ap (λ hs. say_view_of p hs (at s a)) (sym same)) c.in_ok-say_view.ensures);
      view = subst (λ (b : Cluster). IsViewOf c.args.rows.now b)
          (sym (said_cluster _ (λ x. view_line x.world.spec x.world.cluster.resources p c.deref.result.now) c.in_ok-say_view.ensures)) c.loop-part.invariant.view;
    }
