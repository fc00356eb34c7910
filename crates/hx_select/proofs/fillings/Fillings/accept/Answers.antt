use Rattle.std.specs.BTreeMap.{get}
use Rattle.std.specs.BTreeSet.{contains}
use Rattle.hx_parts.specs.Index.{count_in}
use Rattle.hx_select.specs.Fillings.{end_cmp, taken_cmp}
use Rattle.hx_select.proofs.Filling.{counted_more, held_more}
use Rattle.hx_select.proofs.fillings.Fillings.accept.Goals as goal

pub returns : goal.returns
returns c = λ models view accepted are is. record {
  counted = λ p t limited.
      counted_more view accepted c.args.candidate.now c.args.count (count_in view p t) (get end_cmp c.args.self.now.counts (p, t)) _ p t
      is (c.in_ok-insert.ensures.updates.0 (p, t)) (are.counted p t limited);
  held = λ p t s limited.
      held_more accepted c.args.candidate.now (contains taken_cmp c.args.self.now.taken (p, t, s)) _ p t s (c.in_ok-insert-2.ensures.updates.0 (p, t, s)) (are.held p t s limited);
}
