use Rattle.std.proofs.Common.{ap, ◌∙◌, ◌-◌, if◌then◌else◌}
use Rattle.hx_counts.specs.Tally.{Numbers, ends_of, is_end}
use Rattle.hx_counts.proofs.Kept.{end_is, ends_tell, lowered}
use Rattle.hx_counts.proofs.Counts.lower_end.Goals as goal

pub returns-clause-ends : goal.returns-clause-ends
returns-clause-ends c =
    λ p s. lowered end_is ends_tell (c.args.part, c.args.state) (p, s) c.self.inside.ends.entries c.lower.new.numbers.entries (c.lower.ensures.less (p, s))
    ∙ ap (λ (t : Numbers). ends_of t p s - (if is_end p s (c.args.part, c.args.state) then 1 else 0)) c.self.view_is
