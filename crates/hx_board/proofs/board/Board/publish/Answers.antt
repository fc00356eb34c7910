use Rattle.std.proofs.Common.{◌+◌, ◌≤◌, length, refl, sym, ap, ◌∙◌, subst, arith}
use Rattle.hx_board.specs.Board.{Held, held, weight_at}
use Rattle.hx_cluster.specs.declared.state.Cluster.{Cluster}
use Rattle.hx_cluster.specs.declared.happenings.Event.TheVariants as events
use Rattle.hx_board.proofs.Free.{post_free}
use Rattle.hx_board.proofs.Told.{told}
use Rattle.hx_board.proofs.Growing.{roomy, still, recorded}
use Rattle.hx_board.proofs.board.Board.publish.Goals as goal
use Rattle.hx_board.proofs.board.Board.publish.Goals.{In_default}

-- there is room for the post
fits : (c : In_default) → weight_at (held c.self.inside) + (1 + length c.args.rows.now) ≤ c.self.inside.limit
fits c =
    let rows = c.args.rows.now in
    subst (λ (v : Held). weight_at v + (1 + length rows) ≤ v.limit) (sym c.self.view_is)
    (post_free c.args.self.now c.args.epoch rows (sym c.post_fault.ensures ∙ c.in_default.is)).fits

pub invariant_of-self : goal.invariant_of-self
invariant_of-self c = roomy c.self.inside c.make_room.new.history c.self.invariant c.in_err-make_room.ensures.items c.in_err-make_room.ensures.spare

pub invariant_of-self-in_err-publish : goal.invariant_of-self-in_err-publish
invariant_of-self-in_err-publish c = still c.self.inside c.publish.new.self c.make_room.new.history c.self.invariant c.in_err-publish.ensures.err c.in_ok-make_room.ensures.items c.in_ok-make_room.ensures.spare

pub invariant_of-self-2 : goal.invariant_of-self-2
invariant_of-self-2 c =
    let rows = c.args.rows.now in
    let free = post_free c.args.self.now c.args.epoch rows (sym c.post_fault.ensures ∙ c.in_default.is) in
    recorded c.self.inside _ _ _ _ _ _ (events.Post c.args.c c.args.epoch rows) c.self.invariant c.self.view_is (c.requires.controller, c.requires.rows, free.now) refl c.in_ok-publish.ensures.ok refl refl free.fits
    c.in_ok-make_room.ensures c.record.ensures (ap (events.Post c.args.c c.args.epoch) (c.posted_rows-posted.ensures ∙ ap (λ (d : Cluster). d.posted) c.in_ok-publish.ensures.ok))

pub overflow_add-self : goal.overflow_add-self
overflow_add-self c = omega (arith, fits (goal.at.overflow_add-self c).In_default, c.self.invariant.limited)

pub overflow_add-self-2 : goal.overflow_add-self-2
overflow_add-self-2 c = omega (arith, fits (goal.at.overflow_add-self-2 c).In_default, c.self.invariant.weighs, c.self.invariant.limited)

pub returns-clause-ok : goal.returns-clause-ok
returns-clause-ok c = told c.self.inside _ _ c.make_room.new.history c.record.new.history _ (events.Post c.args.c c.args.epoch c.args.rows.now) c.self.view_is c.in_ok-publish.ensures.ok c.in_ok-make_room.ensures.items c.record.ensures.items (ap (events.Post c.args.c c.args.epoch) (c.posted_rows-posted.ensures ∙ ap (λ (d : Cluster). d.posted) c.in_ok-publish.ensures.ok))
