use Rattle.std.proofs.Common.{◌≡◌, ◌∙◌, ap, sym, Some}
use Rattle.hx_cluster.specs.declared.planning.View.{View}
use Rattle.hx_cluster.specs.Ends.{session_in, state_of}
use Rattle.hx_cluster.specs.Steps.{is_drained, is_error}
use Rattle.hx_best.specs.Places.{Placing}
use Rattle.hx_best.proofs.Meeting.{state_met}
use Rattle.hx_best.proofs.Standing.{entry_done, open_eligible, failed_eligible}
use Rattle.hx_best.proofs.marks.Shown.entry.Goals as goal
use Rattle.hx_best.proofs.marks.Shown.entry.Goals.{After-meet-state}

has_state : (c : After-meet-state) → c.meet-state.result ≡ state_of c.args.self.now.0.view.rows c.in-Some.session c.args.self.now.1
has_state c = c.meet-state.ensures.state ∙ state_met c.args.self.now.0 c.args.self.now.1 c.in-Some.session c.rows.result.now c.rows.ensures

view_is : (c : After-meet-state) → c.index-index.result.now ≡ c.args.self.now.0.view
view_is c = c.index-index.ensures ∙ ap (λ (x : Placing). x.view) c.places.ensures

on_session : (c : After-meet-state) → Some c.in-Some.session ≡ session_in c.args.self.now.0.view.live c.args.instance
on_session c = c.in-Some.ensures ∙ ap (λ (view : View). session_in view.live c.args.instance) (view_is c)

pub goal_on-requires : goal.goal_on-requires
goal_on-requires c = ap is_error (has_state (goal.at.goal_on-requires c).After-meet-state)

pub returns-then-not-is_error-clause-stands : goal.returns-then-not-is_error-clause-stands
returns-then-not-is_error-clause-stands c =
    let b = (goal.at.returns-then-not-is_error-clause-stands c).After-meet-state in
    let x = c.args.self.now.0 in
    let p = c.args.self.now.1 in
    let there = sym c.is_there.ensures ∙ c.if-not-is_there.false in (
      entry_done x p c.args.instance c.in-Some.session (on_session b) c.meet-state.result (has_state b) c.args.wanted c.goal_on.result c.goal_on.ensures there,
      open_eligible x p c.args.instance c.in-Some.session (on_session b) c.meet-state.result (has_state b) c.is_drained.result (sym c.is_error.ensures ∙ c.if-not-is_error.true)
          (c.is_drained.ensures ∙ ap (λ (view : View). is_drained view.ideals.drained c.args.instance) (view_is b)),
    )

pub returns-else-not-is_error-clause-stands : goal.returns-else-not-is_error-clause-stands
returns-else-not-is_error-clause-stands c =
    let b = (goal.at.returns-else-not-is_error-clause-stands c).After-meet-state in
    let x = c.args.self.now.0 in
    let p = c.args.self.now.1 in (
      entry_done x p c.args.instance c.in-Some.session (on_session b) c.meet-state.result (has_state b) c.args.wanted c.goal_on.result c.goal_on.ensures (sym c.is_there.ensures ∙ c.if-not-is_there.false),
      failed_eligible x p c.args.instance c.in-Some.session (on_session b) c.meet-state.result (has_state b) c.is_error.result c.is_error.ensures c.if-not-is_error.false,
    )
