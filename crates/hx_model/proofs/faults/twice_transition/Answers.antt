use Rattle.std.proofs.Common.{◌∙◌, take, get_or, refl, sym}
use Rattle.hx_ids.specs.declared.StateId.{StateId}
use Rattle.hx_lists.proofs.First.{answer_behind-more}
use Rattle.hx_model.specs.Model.{error, is_between}
use Rattle.hx_model.proofs.Pairs.{pairs_none, pairs_more, length-pairs}
use Rattle.hx_model.proofs.Places.{new_item}
use Rattle.hx_model.proofs.faults.twice_transition.Goals as goal

pub loop-place-init : goal.loop-place-init
loop-place-init c = record { told = refl; pairs = pairs_none }

pub loop-place-preserved : goal.loop-place-preserved
loop-place-preserved c =
    let d : StateId × StateId = (error, error) in
    let ts = c.args.transitions.now in
    let i = c.loop-place.place in
    let none = sym c.lists.ensures.found ∙ c.if-lists.false in
    record {
      told = answer_behind-more _ ts i d c.loop-place-test.true (new_item (λ t b. is_between t.0 t.1 b) (take i ts) (get_or ts i d) none) ∙ c.loop-place.invariant.told;
      pairs = pairs_more ts i d c.loop-place-test.true c.loop-place.invariant.pairs c.lists.ensures.bytes.0 c.lists.ensures.bytes.1 none;
    }

pub returns-clause-few : goal.returns-clause-few
returns-clause-few c _ = length-pairs c.args.transitions.now c.loop-place.place c.loop-place.auto.place-end c.loop-place-test.false c.loop-place.invariant.pairs
