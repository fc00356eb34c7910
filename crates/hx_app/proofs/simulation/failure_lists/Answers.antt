use Rattle.std.proofs.Common.{ℕ, List, [], ◌∷◌, ◌++◌, map, sym, ap, ap₂, ◌∙◌, arith}
use Rattle.std.proofs.lemmas.List.{map-append}
use Rattle.hx_cluster.specs.declared.description.Failure.{Failure}
use Rattle.hx_replicas.specs.Participants.{failures_on}
use Rattle.hx_lists.proofs.Numbers.{map-numbers_below_more}
use Rattle.hx_app.proofs.simulation.failure_lists.Goals as goal

pub loop-instance-preserved : goal.loop-instance-preserved
loop-instance-preserved c = record {
  lists =
      ap (λ lists. map (λ list. list.items) lists) c.push_reserved.ensures.items
      ∙ map-append (λ list. list.items) c.loop-instance.lists.items (c.in_ok-failures_on.field-0 ∷ [])
      ∙ ap₂ (λ (made : List (List Failure)) (more : List Failure). made ++ more ∷ []) c.loop-instance.invariant.lists
      (c.in_ok-failures_on.ensures ∙ ap (failures_on (record { 0 = c.loop-instance.instance })) c.as_slice.ensures)
      ∙ sym (map-numbers_below_more (λ (i : ℕ). failures_on (record { 0 = i }) c.args.spec.now.failures) c.loop-instance.instance);
  len = omega (arith, c.loop-instance.invariant.len, c.push_reserved.ensures.len);
  room = omega (arith, c.loop-instance.invariant.room, c.push_reserved.ensures.capacity);
}
