use Rattle.std.proofs.Common.{map}
use Rattle.hx_parts.proofs.Found.{none_counted}
use Rattle.hx_parts.proofs.views.count_over.Goals as goal

pub returns-then-has_none : goal.returns-then-has_none
returns-then-has_none c = none_counted (map (λ e. e.0) c.args.live.now) c.args.rows.now c.args.mail.now c.args.part c.args.state (c.has_none.ensures c.if-has_none.true c.args.part)
