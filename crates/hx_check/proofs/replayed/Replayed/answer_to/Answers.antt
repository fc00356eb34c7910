use Rattle.hx_check.proofs.Replaying.{room_led}
use Rattle.hx_check.proofs.replayed.Replayed.answer_to.Goals as goal

pub refuses-requires-clause-numbered : goal.refuses-requires-clause-numbered
refuses-requires-clause-numbered c = (room_led c.self.inside.records c.self.inside.weight c.self.invariant).ids

pub answer_to-requires-clause-room : goal.answer_to-requires-clause-room
answer_to-requires-clause-room c = room_led c.self.inside.records c.self.inside.weight c.self.invariant
