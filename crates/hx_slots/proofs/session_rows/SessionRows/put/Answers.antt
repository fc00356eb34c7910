use Rattle.hx_slots.proofs.Ready.{looked_at}
use Rattle.hx_slots.proofs.session_rows.SessionRows.put.Goals as goal

pub place_of-place-requires : goal.place_of-place-requires
place_of-place-requires c = (looked_at c.args.part c.args.had c.self.inside.slots c.self.inside.rows.items c.deref.result.now c.args.self.now c.self.view_is c.deref.ensures.value c.requires).ordered
