use Rattle.std.proofs.Common.{ap, ◌∙◌, ◌-◌, if◌then◌else◌}
use Rattle.hx_counts.specs.Tally.{Numbers, loads_of, is_load}
use Rattle.hx_counts.proofs.Kept.{load_is, loads_tell, lowered}
use Rattle.hx_counts.proofs.Counts.lower_load.Goals as goal

pub returns-clause-loads : goal.returns-clause-loads
returns-clause-loads c =
    λ r k. lowered load_is loads_tell (c.args.rule, c.args.key) (r, k) c.self.inside.loads.entries c.lower.new.numbers.entries (c.lower.ensures.less (r, k))
    ∙ ap (λ (t : Numbers). loads_of t r k - (if is_load r k (c.args.rule, c.args.key) then 1 else 0)) c.self.view_is
