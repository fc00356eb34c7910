use Rattle.std.proofs.Common.{refl, sym, ◌∙◌}
use Rattle.hx_cluster.specs.declared.happenings.Event.TheVariants as events
use Rattle.hx_board.proofs.Told.{told}
use Rattle.hx_board.proofs.Growing.{roomy, shown}
use Rattle.hx_board.proofs.Reaching.{reached_of}
use Rattle.hx_board.proofs.board.Board.read_live.Goals as goal

pub read_live-requires : goal.read_live-requires
read_live-requires c = reached_of c.self.inside c.self.invariant

pub invariant_of-self : goal.invariant_of-self
invariant_of-self c = roomy c.self.inside c.make_room.new.history c.self.invariant c.in_err-make_room.ensures.items c.in_err-make_room.ensures.spare

pub invariant_of-self-in_err-shown : goal.invariant_of-self-in_err-shown
invariant_of-self-in_err-shown c = roomy c.self.inside c.make_room.new.history c.self.invariant c.in_ok-make_room.ensures.items c.in_ok-make_room.ensures.spare

pub invariant_of-self-2 : goal.invariant_of-self-2
invariant_of-self-2 c = shown c.self.inside _ _ _ _ c.args.pass (events.Live c.args.c c.args.pass) c.self.invariant c.self.view_is c.requires (sym c.read_fault.ensures ∙ c.in_default.is) (λ now. now) refl refl refl c.in_ok-make_room.ensures c.record.ensures

pub returns-clause-ok : goal.returns-clause-ok
returns-clause-ok c = told c.self.inside _ _ c.make_room.new.history c.record.new.history _ (events.Live c.args.c c.args.pass) c.self.view_is refl c.in_ok-make_room.ensures.items c.record.ensures.items refl
