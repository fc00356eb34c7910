use Rattle.std.proofs.Common.{◌∙◌, ◌-◌, ℕ, List, length, sym, ap, arith}
use Rattle.std.specs.Prelude.{slice_get}
use Rattle.std.proofs.lemmas.Option.{slice_get-get_or}
use Rattle.hx_cluster.specs.declared.description.Rule.{Rule}
use Rattle.hx_counts.specs.Tally.{Numbers, ends_of, loads_of}
use Rattle.hx_slots.specs.Tallies.{load_added}
use Rattle.hx_slots.proofs.Moving.{rule_counts, none_past, lowered_more, lowered_same, lowered_all}
use Rattle.hx_slots.proofs.tallies.lower_loads.Goals as goal
use Rattle.hx_slots.proofs.tallies.lower_loads.Goals.{then-place-rules, else-place-rules}

pub loop-place-preserved : goal.loop-place-preserved
loop-place-preserved c =
    let place = c.loop-place.place in
    let cluster = c.args.cluster.now in
    let here = sym (ap (λ (rs : List Rule). slice_get rs place) c.as_slice-rule-items.ensures) ∙ slice_get-get_or c.as_slice-rule-items.result.now place _ c.loop-place-test.true in
    elim c.if-place-rules.branch [
      | then-place-rules w ↦ record {
        ends = λ p t. ap (λ (k : Numbers). ends_of k p t) w.counts-is ∙ w.lower_rule.ensures.ends p t ∙ c.loop-place.invariant.ends p t;
        loads = λ n key.
            ap (λ (k : Numbers). loads_of k n key) w.counts-is
            ∙ lowered_more n place c.args.rules (load_added cluster c.args.instance c.args.message.now n key) _ _ _ w.if-place-rules.true (c.loop-place.invariant.loads n key)
            (w.lower_rule.ensures.loads n key ∙ ap (λ (x : ℕ). loads_of c.loop-place.counts n key - x) (rule_counts cluster.rules _ place c.args.instance c.args.message.now n key here));
      }
      | else-place-rules w ↦ record {
        ends = λ p t. ap (λ (k : Numbers). ends_of k p t) w.counts-is ∙ c.loop-place.invariant.ends p t;
        loads = λ n key.
            ap (λ (k : Numbers). loads_of k n key) w.counts-is
            ∙ lowered_same n place c.args.rules (load_added cluster c.args.instance c.args.message.now n key) _ _ w.if-place-rules.false (c.loop-place.invariant.loads n key);
      }
    ]

pub returns : goal.returns
returns c =
    let place = c.loop-place.place in
    let cluster = c.args.cluster.now in
    let all = ap (λ (rs : List Rule). length rs) c.as_slice-rule-items.ensures in
    record {
      ends = c.loop-place.invariant.ends;
      loads = λ n key. lowered_all n place c.args.rules (load_added cluster c.args.instance c.args.message.now n key) _ _
          (λ past. none_past cluster.rules c.args.instance c.args.message.now n key (omega (arith, past, all, c.loop-place-test.false))) (c.loop-place.invariant.loads n key);
    }
