use Rattle.std.proofs.Common.{ℕ, replicate, refl, ap, ◌∙◌}
use Rattle.hx_cluster.specs.declared.state.Cluster.{Cluster}
use Rattle.hx_records.proofs.Insides.{nobody, opened_records}
use Rattle.hx_records.proofs.Records.at_opening.Goals as goal

pub invariant_of-result : goal.invariant_of-result
invariant_of-result c =
    opened_records c.args.spec.now _ c.in_ok-at_opening.ensures c.new.ensures.live c.new.ensures.next refl
    (c.in_ok-seats.ensures ∙ ap (λ (n : ℕ). replicate n nobody) c.len.ensures.len)
    c.new-2.ensures.rows c.new-2.ensures.mail c.new-3.ensures.ends c.new-3.ensures.loads

pub returns : goal.returns
returns c =
    (λ i. let d : Cluster = record (c.in_ok-at_opening.ensures i) { live = c.new.ensures.live i; rows = c.new-2.ensures.rows i; mail = c.new-2.ensures.mail i } in d)
