use Rattle.std.proofs.Common.{ap, ◌∙◌}
use Rattle.hx_worlds.specs.Jobs.{put_all as all_put}
use Rattle.hx_scene.proofs.Bags.{put_both}
use Rattle.hx_scene.proofs.bag.Bag.put_all.Goals as goal

pub returns : goal.returns
returns c =
    let bag = c.self.inside in
    rw (← c.self.view_is)
    (ap (all_put bag.numbered.items) (rw c.unwrap.ensures at c.extend_from_slice.ensures.items)
    ∙ put_both bag.numbered.items bag.recent.items c.args.messages.now)
