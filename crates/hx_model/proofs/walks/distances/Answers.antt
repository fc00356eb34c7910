use Rattle.std.proofs.Common.{◌≡◌, ℕ, ◌+◌, length, ap, ◌∙◌, subst, arith}
use Rattle.hx_ids.specs.declared.StateId.{StateId}
use Rattle.hx_model.specs.Model.{error}
use Rattle.hx_model.proofs.Distances.{IsShort, first_reached, first_short, round_step, round_end, dist_is}
use Rattle.hx_model.proofs.walks.distances.Goals as goal

pub loop-round-init : goal.loop-round-init
loop-round-init c =
    let first = c.first_distances-dists in
    record {
      end = omega (arith, c.len.ensures);
      reached = first_reached c.args.parts.now c.args.goal first.result first.ensures.room first.ensures.goal (λ s lt ne. first.ensures.rest s lt ne ∙ ap (λ n. n + 2) c.len.ensures);
      short = first_short c.args.parts.now c.args.goal first.result first.ensures.goal;
    }

pub loop-step-preserved : goal.loop-step-preserved
loop-step-preserved c =
    let none : StateId × StateId = (error, error) in
    record {
      end = c.loop-step.invariant.end;
      round =
          round_step
          c.args.parts.now
          c.args.goal
          c.loop-round.dists
          c.loop-step.dists
          c.shorten.new.dists
          c.as_slice-step-items.result.now
          c.loop-step.step-index
          none
          c.as_slice-step-items.ensures
          c.loop-step-test.true
          c.shorten.ensures.bytes.0
          c.shorten.ensures.bytes.1
          c.shorten.ensures.dists
          c.loop-step.invariant.round;
    }

pub loop-round-preserved : goal.loop-round-preserved
loop-round-preserved c =
    let last = c.shorten-in-loop-round in
    let ended =
    round_end
    c.args.parts.now
    c.args.goal
    c.loop-round.dists
    c.loop-step.dists
    last.new.dists
    c.loop-step.step-index
    c.loop-round._round
    (omega (arith, c.loop-step-test.false, ap length c.as_slice-step-items.ensures))
    last.ensures.bytes.1
    last.ensures.dists
    (omega arith)
    c.loop-round.invariant.short
    c.loop-step.invariant.round in
    record { end = c.loop-round.invariant.end; reached = ended.0; short = ended.1 }

pub returns-clause-dists : goal.returns-clause-dists
returns-clause-dists c s lt =
    let P : ℕ → Type 0 = λ k. IsShort c.args.parts.now c.args.goal k c.loop-round.dists in
    let end : c.loop-round._round ≡ length c.args.parts.now.states + 2 = omega (arith, c.loop-round.invariant.end) in
    dist_is c.args.parts.now c.args.goal c.loop-round.dists s lt c.loop-round.invariant.reached (subst P end c.loop-round.invariant.short)
