use Rattle.std.proofs.Common.{List, subst, arith}
use Rattle.hx_ids.specs.declared.PartId.{PartId}
use Rattle.hx_ids.specs.declared.SessionId.{SessionId}
use Rattle.hx_cluster.specs.declared.state.Row.{Row}
use Rattle.hx_cluster.specs.declared.state.Message.{Message}
use Rattle.hx_parts.specs.Parts.{HasSameAt}
use Rattle.hx_parts.proofs.views.ViewIndex.new.Goals as goal

pub invariant_of-result : goal.invariant_of-result
invariant_of-result c = record {
  few = omega (arith, c.len.ensures);
  rows = let P : List Row → Type 0 = λ xs. HasSameAt (λ r. r.part) xs c.in_ok-new.field-0 in subst P c.as_slice.ensures c.in_ok-new.ensures;
  mail = let P : List Message → Type 0 = λ xs. HasSameAt (λ m. m.part) xs c.in_ok-new-2.field-0 in subst P c.as_slice-2.ensures c.in_ok-new-2.ensures;
  resets = let P : List (SessionId × PartId) → Type 0 = λ xs. HasSameAt (λ f. f.1) xs c.in_ok-new-3.field-0 in subst P c.as_slice-3.ensures c.in_ok-new-3.ensures;
}
