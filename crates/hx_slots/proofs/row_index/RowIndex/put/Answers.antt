use Rattle.std.proofs.Common.{refl}
use Rattle.hx_slots.specs.Index.{put_in}
use Rattle.hx_slots.proofs.Mirroring.{can_put, written}
use Rattle.hx_slots.proofs.row_index.RowIndex.put.Goals as goal

pub put-requires : goal.put-requires
put-requires c = can_put c.args.part c.args.had c.args.session c.in-Some.kept.now c.self.inside.lists.entries c.args.self.now c.self.view_is c.in-Some.ensures.value c.requires

pub returns : goal.returns
returns c =
    let w = c.put.new.self in
    written (put_in c.args.part c.args.had c.args.row) c.args.session c.in-Some.kept.now w c.self.inside.lists.entries (c.get_mut.follows.lender w).entries c.args.self.now c.self.view_is c.in-Some.ensures.value c.put.ensures
    ((c.get_mut.follows.holds w).3 (rw (← c.in-Some.ensures.value) refl)).0
