use Rattle.std.proofs.Common.{refl, arith}
use Rattle.hx_cluster.specs.declared.happenings.Event.TheVariants as events
use Rattle.hx_board.proofs.Told.{told}
use Rattle.hx_board.proofs.Growing.{room_of, none-is, owed_write, paid_room, paid}
use Rattle.hx_board.proofs.Reaching.{reached_of}
use Rattle.hx_board.proofs.board.Board.write.Goals as goal

pub write-requires : goal.write-requires
write-requires c = record { reached = reached_of c.self.inside c.self.invariant; room = room_of c.self.inside c.self.invariant }

pub record-requires : goal.record-requires
record-requires c = paid_room c.self.inside _ c.self.invariant (owed_write c.self.inside.records c.args.session c.args.id c.args.outcome c.in_ok-write.ensures.refused)

pub invariant_of-self-2 : goal.invariant_of-self-2
invariant_of-self-2 c = paid c.self.inside _ _ (events.Write c.args.session c.args.id c.args.outcome) c.self.invariant (none-is _ c.in_ok-write.ensures.refused) refl refl c.in_ok-write.ensures.ok (owed_write c.self.inside.records c.args.session c.args.id c.args.outcome c.in_ok-write.ensures.refused) c.record.ensures

pub overflow_sub-self : goal.overflow_sub-self
overflow_sub-self c = omega (arith, owed_write c.self.inside.records c.args.session c.args.id c.args.outcome c.in_ok-write.ensures.refused, c.self.invariant.owed)

pub returns-clause-ok : goal.returns-clause-ok
returns-clause-ok c = told c.self.inside _ _ c.self.inside.history c.record.new.history _ (events.Write c.args.session c.args.id c.args.outcome) c.self.view_is c.in_ok-write.ensures.ok refl c.record.ensures.items refl
