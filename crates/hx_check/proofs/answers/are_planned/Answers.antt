use Rattle.hx_check.specs.Answers.{proposal_of}
use Rattle.hx_check.specs.Judge.{same_proposal}
use Rattle.hx_check.proofs.Pairs.{left_differs, left_on}
use Rattle.hx_check.proofs.answers.are_planned.Goals as goal

pub returns-then-not-same_proposal : goal.returns-then-not-same_proposal
returns-then-not-same_proposal c = left_differs same_proposal proposal_of c.args.moves.now c.args.planned.now c.loop-place.place _ _ c.proposal_of.result c.same_proposal.result _ c.loop-place.invariant.all c.loop-place.invariant.long c.loop-place-test.true c.proposal_of.ensures c.same_proposal.ensures c.if-not-same_proposal.true

pub loop-place-preserved : goal.loop-place-preserved
loop-place-preserved c = record {
  all = left_on same_proposal proposal_of c.args.moves.now c.args.planned.now c.loop-place.place _ _ c.proposal_of.result c.same_proposal.result _ c.loop-place.invariant.all c.loop-place.invariant.long c.loop-place-test.true c.proposal_of.ensures c.same_proposal.ensures c.if-not-same_proposal.false;
  long = c.loop-place.invariant.long;
}
