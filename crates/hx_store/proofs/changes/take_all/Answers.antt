use Rattle.std.proofs.Common.{ℕ, ap, ◌∙◌}
use Rattle.std.proofs.lemmas.List.{nil_from_length}
use Rattle.std.specs.VecDeque.Iter.{deque_iter_rest}
use Rattle.std.specs.declared.collections.vec_deque.Iter.{Iter}
use Rattle.hx_store.proofs.Together.{taking_rest_start, taking_rest_more, taking_rest_end}
use Rattle.hx_store.proofs.changes.take_all.Goals as goal

pub loop-key-init : goal.loop-key-init
loop-key-init g c = taking_rest_start _ _ _ (ap (λ (it : Iter ℕ). deque_iter_rest it) c.into_iter-key-iterator.ensures.into_iter_gives ∙ c.iter-key-items.ensures.rest) c.requires

pub loop-key-preserved : goal.loop-key-preserved
loop-key-preserved g c = taking_rest_more _ _ _ _ _ _ c.in-Some.key.now c.loop-key.invariant c.in-Some.ensures.steps c.take.ensures.new c.take.ensures.ordered

pub loop-key-preserved-in-Some : goal.loop-key-preserved-in-Some
loop-key-preserved-in-Some g c = taking_rest_more _ _ _ _ _ _ c.in-Some.key.now c.loop-key.invariant c.in-Some.ensures.steps c.take.ensures.new c.take.ensures.ordered

pub returns-clause-rest : goal.returns-clause-rest
returns-clause-rest g c = taking_rest_end _ _ _ _ c.loop-key.invariant (nil_from_length _ c.in-None.ensures.steps.0)
