use Rattle.hx_best.proofs.Gathered.{all_visited}
use Rattle.hx_best.proofs.marks.Shown.visits.Goals as goal

pub returns : goal.returns
returns c = all_visited c.args.self.now.0 c.args.self.now.1 c.mark.new.visits c.visit_rows.new.visits c.in_ok-past.past c.in_ok-past.ensures c.in_ok-visit_rows.ensures
