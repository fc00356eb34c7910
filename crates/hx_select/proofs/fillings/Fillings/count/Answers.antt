use Rattle.std.proofs.Common.{◌∙◌, sym}
use Rattle.std.specs.BTreeMap.{get}
use Rattle.hx_parts.specs.Index.{count_in}
use Rattle.hx_select.specs.Fillings.{end_cmp}
use Rattle.hx_select.proofs.Filling.{counted_anew}
use Rattle.hx_select.proofs.fillings.Fillings.count.Goals as goal

pub returns-in_ok-insert-in-None-clause-kept : goal.returns-in_ok-insert-in-None-clause-kept
returns-in_ok-insert-in-None-clause-kept c = λ models accepted are. record {
  counted = λ p t limited.
      counted_anew (count_in c.args.index.now) (λ q u. get end_cmp c.args.self.now.counts (q, u)) (λ q u. get end_cmp c.insert.new.self (q, u)) c.args.part c.args.state c.count_of-count.result
      (sym c.get.ensures.value ∙ sym c.copied.ensures ∙ c.in-None.is) c.count_of-count.ensures (λ q u. c.in_ok-insert-in-None.ensures.updates.0 (q, u)) p t
      ∙ are.counted p t limited;
  held = are.held;
}
