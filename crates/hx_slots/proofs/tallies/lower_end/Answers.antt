use Rattle.std.proofs.Common.{◌∙◌, ◌-◌, ℕ, List, ap, arith}
use Rattle.std.specs.Prelude.{unwrap_or}
use Rattle.std.specs.Map.{lookup}
use Rattle.hx_counts.specs.Tally.{ends_of, is_load}
use Rattle.hx_slots.proofs.Moving.{end_counts}
use Rattle.hx_slots.proofs.tallies.lower_end.Goals as goal

pub returns : goal.returns
returns c =
    let adds = end_counts c.args.cluster.now c.args.part c.args.has c.args.state (grind (arith, c.stands_at.ensures, c.if-stands_at.false)) (grind (arith, c.is_limited.ensures, c.if-not-is_limited.false)) in
    record {
      ends = λ p t. c.lower_end.ensures.ends p t ∙ ap (λ (x : ℕ). ends_of c.args.counts.now p t - x) (adds p t);
      loads = λ n key. ap (λ (ls : List ((ℕ × ℕ) × ℕ)). unwrap_or (lookup (is_load n key) ls) 0) c.lower_end.ensures.loads;
    }
