use Rattle.std.proofs.Common.{ap, ◌∙◌, ◌+◌, if◌then◌else◌}
use Rattle.std.proofs.lemmas.Result.{IfOk-weaker}
use Rattle.hx_counts.specs.Tally.{Numbers, ends_of, is_end}
use Rattle.hx_counts.proofs.Kept.{end_is, ends_tell, raised}
use Rattle.hx_counts.proofs.Counts.raise_end.Goals as goal

pub returns-clause-ends : goal.returns-clause-ends
returns-clause-ends c =
    IfOk-weaker c.raise.result _ _ (λ _ h. λ p s. raised end_is ends_tell (c.args.part, c.args.state) (p, s) c.self.inside.ends.entries c.raise.new.numbers.entries (h (p, s))
    ∙ ap (λ (t : Numbers). ends_of t p s + (if is_end p s (c.args.part, c.args.state) then 1 else 0)) c.self.view_is) c.raise.ensures.ok
