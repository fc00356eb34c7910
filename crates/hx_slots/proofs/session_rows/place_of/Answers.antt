use Rattle.std.proofs.Common.{rules}
use Rattle.std.proofs.lemmas.Fn.{always_returns_same}
use Rattle.hx_cluster.specs.Ends.{part_before}
use Rattle.hx_slots.proofs.Ready.{place_is}
use Rattle.hx_slots.proofs.session_rows.place_of.Goals as goal

pub returns-clause-place : goal.returns-clause-place
returns-clause-place c =
    place_is c.args.part c.args.rows.now c.partition_point.result c.partition_point.ensures.bound
    (c.partition_point.ensures.partitioned (λ y. part_before y.part c.args.part) (always_returns_same _ _ _ (λ a r f' k. search rules)) c.requires)
