use Rattle.std.proofs.Common.{◌∙◌, ◌+◌, ℕ, List, length, sym, ap, arith}
use Rattle.std.specs.Prelude.{slice_get}
use Rattle.std.proofs.lemmas.Option.{slice_get-get_or}
use Rattle.hx_cluster.specs.declared.description.Rule.{Rule}
use Rattle.hx_counts.specs.Tally.{loads_of}
use Rattle.hx_slots.specs.Tallies.{load_added}
use Rattle.hx_slots.proofs.Moving.{rule_counts, none_past, raised_more, raised_all}
use Rattle.hx_slots.proofs.tallies.raise_loads.Goals as goal

pub loop-place-preserved : goal.loop-place-preserved
loop-place-preserved c =
    let place = c.loop-place.place in
    let cluster = c.args.cluster.now in
    let here = sym (ap (λ (rs : List Rule). slice_get rs place) c.as_slice-rule-items.ensures) ∙ slice_get-get_or c.as_slice-rule-items.result.now place _ c.loop-place-test.true in
    let this = c.in_default.ensures.ok in
    record {
      ends = λ p t. this.ends p t ∙ c.loop-place.invariant.ends p t;
      loads = λ n key. raised_more n place (load_added cluster c.args.instance c.args.message.now n key) _ _ _ (c.loop-place.invariant.loads n key)
          (this.loads n key ∙ ap (λ (x : ℕ). loads_of c.loop-place.counts n key + x) (rule_counts cluster.rules _ place c.args.instance c.args.message.now n key here));
    }

pub returns-clause-ok : goal.returns-clause-ok
returns-clause-ok c =
    let place = c.loop-place.place in
    let cluster = c.args.cluster.now in
    let all = ap (λ (rs : List Rule). length rs) c.as_slice-rule-items.ensures in
    record {
      ends = c.loop-place.invariant.ends;
      loads = λ n key. raised_all n place (load_added cluster c.args.instance c.args.message.now n key) _ _
          (λ past. none_past cluster.rules c.args.instance c.args.message.now n key (omega (arith, past, all, c.loop-place-test.false))) (c.loop-place.invariant.loads n key);
    }
