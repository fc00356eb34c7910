use Rattle.std.proofs.Common.{refl, arith}
use Rattle.hx_cluster.specs.declared.happenings.Event.TheVariants as events
use Rattle.hx_board.proofs.Told.{told}
use Rattle.hx_board.proofs.Growing.{room_of, none-is, owed_ack, paid_room, paid}
use Rattle.hx_board.proofs.Reaching.{reached_of}
use Rattle.hx_board.proofs.board.Board.ack.Goals as goal

pub ack-requires : goal.ack-requires
ack-requires c = record { reached = reached_of c.self.inside c.self.invariant; room = room_of c.self.inside c.self.invariant }

pub record-requires : goal.record-requires
record-requires c = paid_room c.self.inside _ c.self.invariant (owed_ack c.self.inside.records c.args.session c.args.id c.in_ok-ack.ensures.refused)

pub invariant_of-self-2 : goal.invariant_of-self-2
invariant_of-self-2 c = paid c.self.inside _ _ (events.Ack c.args.session c.args.id) c.self.invariant (none-is _ c.in_ok-ack.ensures.refused) refl refl c.in_ok-ack.ensures.ok (owed_ack c.self.inside.records c.args.session c.args.id c.in_ok-ack.ensures.refused) c.record.ensures

pub returns-clause-ok : goal.returns-clause-ok
returns-clause-ok c = told c.self.inside _ _ c.self.inside.history c.record.new.history _ (events.Ack c.args.session c.args.id) c.self.view_is c.in_ok-ack.ensures.ok refl c.record.ensures.items refl

pub overflow_sub-self : goal.overflow_sub-self
overflow_sub-self c = omega (arith, owed_ack c.self.inside.records c.args.session c.args.id c.in_ok-ack.ensures.refused, c.self.invariant.owed)
