use Rattle.std.proofs.Common.{◌≡◌, ◌∙◌, ap}
use Rattle.hx_counts.specs.Tally.{loads_of}
use Rattle.hx_records.proofs.Gated.{load_here}
use Rattle.hx_records.proofs.Records.load.Goals as goal

pub returns : goal.returns
returns c =
    let a = c.self.inside in
    let key = ap (λ k. loads_of a.counts c.args.place k) c.key_on.ensures in
    c.load.ensures ∙ key ∙ load_here a c.args.self.now c.args.proposal.now c.args.rule.now c.args.instance c.args.place c.self.view_is c.self.invariant c.requires.rule c.requires.instance
