use Rattle.std.proofs.Common.{◌≡◌, ◌∙◌, ap, sym, refl, Some, None}
use Rattle.hx_cluster.specs.declared.planning.Target.{Target}
use Rattle.hx_cluster.specs.declared.planning.View.{View}
use Rattle.hx_cluster.specs.Ends.{session_in}
use Rattle.hx_best.specs.Places.{Placing, rows_at}
use Rattle.hx_best.proofs.Meeting.{noted_on}
use Rattle.hx_best.proofs.Standing.{eligible_is}
use Rattle.hx_best.proofs.Putting.{entry_put, entry_none, none_eligible}
use Rattle.hx_best.proofs.marks.Shown.put_entry.Goals as goal
use Rattle.hx_best.proofs.marks.Shown.put_entry.Goals.{In-Some, In-None}

on_session : (c : In-Some) → Some c.in-Some.session ≡ session_in c.args.self.now.0.view.live c.args.instance
on_session c = c.in-Some.ensures ∙ ap (λ (view : View). session_in view.live c.args.instance) (c.index-index.ensures ∙ ap (λ (x : Placing). x.view) c.places.ensures)

on_none : (c : In-None) → None ≡ session_in c.args.self.now.0.view.live c.args.instance
on_none c = c.in-None.ensures ∙ ap (λ (view : View). session_in view.live c.args.instance) (c.index-index.ensures ∙ ap (λ (x : Placing). x.view) c.places.ensures)

pub returns-then-not-branch-clause-noted : goal.returns-then-not-branch-clause-noted
returns-then-not-branch-clause-noted c =
    noted_on c.args.self.now.0.view.live c.args.instance c.in-Some.session (rows_at c.args.self.now.0 c.args.self.now.1) c.args.met.now c.entry_target-target.new.met
    (on_session (goal.at.returns-then-not-branch-clause-noted c).In-Some) c.entry_target-target.ensures.noted

pub returns-else-not-branch-clause-noted : goal.returns-else-not-branch-clause-noted
returns-else-not-branch-clause-noted c =
    noted_on c.args.self.now.0.view.live c.args.instance c.in-Some.session (rows_at c.args.self.now.0 c.args.self.now.1) c.args.met.now c.entry_target-target.new.met
    (on_session (goal.at.returns-else-not-branch-clause-noted c).In-Some) c.entry_target-target.ensures.noted

pub returns-else-not-branch-clause-put : goal.returns-else-not-branch-clause-put
returns-else-not-branch-clause-put c =
    let x = c.args.self.now.0 in
    let p = c.args.self.now.1 in
    let i = c.args.instance in
    let s = c.in-Some.session in
    let on = on_session (goal.at.returns-else-not-branch-clause-put c).In-Some in
    let is = c.entry_target-target.ensures.target in
    let has = ap (λ (t : Target). t.state) is in (
      c.takes_state-eligible.ensures ∙ sym (eligible_is x p i s on c.entry_target-target.result.state has),
      entry_put x p c.args.first i c.args.wanted c.args.place c.args.found.now.items c.put.new.found.items s c.entry_target-target.result on is
          (c.in_ok-put-in-Some.ensures.yes c.if-not-branch.false),
    )

pub returns-in-None-clause-put : goal.returns-in-None-clause-put
returns-in-None-clause-put c =
    let x = c.args.self.now.0 in
    let p = c.args.self.now.1 in
    let none = on_none (goal.at.returns-in-None-clause-put c).In-None in (
      none_eligible x p c.args.instance none,
      entry_none x p c.args.first c.args.instance c.args.wanted c.args.place c.args.found.now.items c.args.found.now.items none refl,
    )
