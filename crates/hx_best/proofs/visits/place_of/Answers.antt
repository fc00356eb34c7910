use Rattle.std.proofs.Common.{arith, rules}
use Rattle.std.specs.Prelude.{nat_lt}
use Rattle.std.proofs.lemmas.Bool.Decides.{nat_tests}
use Rattle.std.proofs.lemmas.List.Sorted.{IsPartitionPoint-from_clause, IsPartitionedBy-ltb}
use Rattle.hx_best.proofs.Spanning.{last_above}
use Rattle.hx_best.proofs.Visiting.{in_order}
use Rattle.hx_best.proofs.visits.place_of.Goals as goal

pub returns-in-Some-clause-point : goal.returns-in-Some-clause-point
returns-in-Some-clause-point c =
    IsPartitionPoint-from_clause (λ v. nat_lt v.number c.args.number) _ _ c.partition_point.ensures.partitioned
    (IsPartitionedBy-ltb (λ v. v.number) _ c.args.number (in_order 0 c.args.visits.now c.requires)) (λ a r f' k. search rules)

pub returns-in_default-clause-point : goal.returns-in_default-clause-point
returns-in_default-clause-point c = (
  (λ k d ge lt. let low = last_above (λ v. v.number) c.args.visits.now c.in-Some.last.now (in_order 0 c.args.visits.now c.requires) c.in-Some.ensures.value k d lt in
      let test = c.if-last-number.false in
      grind (arith, nat_tests, low, test)),
  (λ k d ge lt. absurd (omega arith)),
)
