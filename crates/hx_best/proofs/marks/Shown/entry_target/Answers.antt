use Rattle.std.proofs.Common.{◌≡◌, ◌∙◌, ap}
use Rattle.hx_cluster.specs.Ends.{state_of}
use Rattle.hx_cluster.specs.Steps.{is_error}
use Rattle.hx_best.proofs.Meeting.{state_met}
use Rattle.hx_best.proofs.marks.Shown.entry_target.Goals as goal
use Rattle.hx_best.proofs.marks.Shown.entry_target.Goals.{After-meet-state}

has_state : (c : After-meet-state) → c.meet-state.result ≡ state_of c.args.self.now.0.view.rows c.args.session c.args.self.now.1
has_state c = c.meet-state.ensures.state ∙ state_met c.args.self.now.0 c.args.self.now.1 c.args.session c.rows.result.now c.rows.ensures

pub goal_on-requires : goal.goal_on-requires
goal_on-requires c = ap is_error (has_state (goal.at.goal_on-requires c).After-meet-state)

pub returns-clause-target : goal.returns-clause-target
returns-clause-target c = λ j. record {
  session = c.args.session;
  instance = c.args.instance;
  part = c.part.ensures j;
  state = has_state (goal.at.returns-clause-target c).After-meet-state j;
  goal = c.goal_on.ensures j;
  place = c.args.place;
}
