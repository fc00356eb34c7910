use Rattle.std.proofs.Common.{ap, ◌∙◌, ◌+◌, if◌then◌else◌}
use Rattle.std.proofs.lemmas.Result.{IfOk-weaker}
use Rattle.hx_counts.specs.Tally.{Numbers, loads_of, is_load}
use Rattle.hx_counts.proofs.Kept.{load_is, loads_tell, raised}
use Rattle.hx_counts.proofs.Counts.raise_load.Goals as goal

pub returns-clause-loads : goal.returns-clause-loads
returns-clause-loads c =
    IfOk-weaker c.raise.result _ _ (λ _ h. λ r k. raised load_is loads_tell (c.args.rule, c.args.key) (r, k) c.self.inside.loads.entries c.raise.new.numbers.entries (h (r, k))
    ∙ ap (λ (t : Numbers). loads_of t r k + (if is_load r k (c.args.rule, c.args.key) then 1 else 0)) c.self.view_is) c.raise.ensures.ok
