use Rattle.std.proofs.Common.{◌≡◌, ℕ, suc, ◌-◌, ◌≤◌, length, take, sym, subst, arith}
use Rattle.std.proofs.lemmas.Grind.{common_steps}
use Rattle.hx_cluster.specs.declared.state.Cluster.{Cluster}
use Rattle.hx_cluster.specs.Messages.{after_proposals}
use Rattle.hx_records.specs.Records.{IsPlacedFrom}
use Rattle.hx_records.proofs.Placing.{placed_less}
use Rattle.hx_records.proofs.Records.unsend_all.Goals as goal

pub unsend_one-requires : goal.unsend_one-requires
unsend_one-requires c =
    let qs = c.args.proposals.now in
    let placed = c.args.placed.now in
    let now = c.loop-left.self in
    let left = c.loop-left.left - 1 in
    let start = c.requires.0 in
    let old = c.loop-left.invariant in
    let test = c.loop-left-test.true in
    let more : c.loop-left.left ≡ suc left = omega (arith, test) in
    let here = subst (λ (n : ℕ). IsPlacedFrom start qs (take n placed) now) more (old.back start c.requires.1) in
    (after_proposals start (take left qs), (placed_less start qs placed now left _ _ (omega (arith, test, old.few)) c.requires.1.few here).last)

pub loop-left-preserved : goal.loop-left-preserved
loop-left-preserved c =
    let qs = c.args.proposals.now in
    let placed = c.args.placed.now in
    let now = c.loop-left.self in
    let left = c.loop-left.left - 1 in
    let old = c.loop-left.invariant in
    let test = c.loop-left-test.true in
    let more : c.loop-left.left ≡ suc left = omega (arith, test) in
    record {
      few = omega (arith, old.few);
      back = λ x h.
          let here = subst (λ (n : ℕ). IsPlacedFrom x qs (take n placed) now) more (old.back x h) in
          let was = placed_less x qs placed now left _ _ (omega (arith, test, old.few)) h.few here in
          subst (λ (d : Cluster). IsPlacedFrom x qs (take left placed) d) (sym (c.unsend_one.ensures (after_proposals x (take left qs)) was.last)) was.before;
    }

pub loop-left-init : goal.loop-left-init
loop-left-init c = grind (arith, common_steps)
