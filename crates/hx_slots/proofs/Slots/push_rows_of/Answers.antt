use Rattle.std.proofs.Common.{◌≡◌, ◌++◌, ◌==◌, List, filter, ap, ◌∙◌, subst}
use Rattle.std.specs.Prelude.{OnOk}
use Rattle.hx_cluster.specs.declared.state.Row.{Row}
use Rattle.hx_slots.specs.Kept.{Kept}
use Rattle.hx_slots.proofs.Mirroring.{mirrored_rows}
use Rattle.hx_slots.proofs.Slots.push_rows_of.Goals as goal

pub returns-in-Some-clause-ok : goal.returns-in-Some-clause-ok
returns-in-Some-clause-ok c =
    let rows =
    mirrored_rows c.self.inside.changes c.args.session c.in-Some.kept.now c.self.inside.slots c.self.inside.index c.self.invariant.0.each_slot c.self.invariant.1 c.in-Some.ensures
    ∙ ap (λ (x : Kept). filter (λ r. r.session.0 == c.args.session.0) x.rows) c.self.view_is in
    let Pushed : List Row → Type 0 = λ xs. OnOk c.push_to.result (c.push_to.new.rows ≡ c.args.rows.now ++ xs) in
    subst Pushed rows c.push_to.ensures.ok
