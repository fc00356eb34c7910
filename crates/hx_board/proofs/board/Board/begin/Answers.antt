use Rattle.std.proofs.Common.{refl, sym, ap, ◌∙◌}
use Rattle.hx_cluster.specs.declared.happenings.Event.TheVariants as events
use Rattle.hx_cluster.specs.Events.{begun_of}
use Rattle.hx_board.specs.Board.{Held}
use Rattle.hx_board.proofs.Free.{begin_free}
use Rattle.hx_board.proofs.Told.{told}
use Rattle.hx_board.proofs.Growing.{roomy, room_of, owed_raised, recorded}
use Rattle.hx_board.proofs.board.Board.begin.Goals as goal

pub begin-begun-requires : goal.begin-begun-requires
begin-begun-requires c = room_of c.self.inside c.self.invariant

pub invariant_of-self : goal.invariant_of-self
invariant_of-self c = roomy c.self.inside c.make_room.new.history c.self.invariant c.in_err-make_room.ensures.items c.in_err-make_room.ensures.spare

pub invariant_of-self-2 : goal.invariant_of-self-2
invariant_of-self-2 c =
    let k = c.args.c in
    let free = begin_free c.args.self.now k (sym c.begin_fault.ensures ∙ c.in_default.is) in
    let begun = c.begin-begun.ensures.begun ∙ ap (λ (v : Held). begun_of v.cluster k) c.self.view_is in
    recorded c.self.inside _ _ _ _ _ _ (events.Begin k c.begin-begun.result) c.self.invariant c.self.view_is (c.requires, free.leads, begun) refl c.begin-begun.ensures.after (owed_raised c.self.inside.records k) refl free.fits
    c.in_ok-make_room.ensures c.record.ensures refl

pub returns-clause-ok : goal.returns-clause-ok
returns-clause-ok c = told c.self.inside _ _ c.make_room.new.history c.record.new.history _ (events.Begin c.args.c c.begin-begun.result) c.self.view_is c.begin-begun.ensures.after c.in_ok-make_room.ensures.items c.record.ensures.items refl
