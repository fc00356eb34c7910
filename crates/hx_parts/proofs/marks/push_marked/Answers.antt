use Rattle.std.proofs.Common.{◌≤◌, ◌++◌, List, length, ap, arith}
use Rattle.hx_ids.specs.declared.PartId.{PartId}
use Rattle.hx_parts.proofs.Cells.{free_parts, marked_more, marked_done}
use Rattle.hx_parts.proofs.marks.push_marked.Goals as goal

pub loop-place-init : goal.loop-place-init
loop-place-init c =
    let next = c.next_marked-place in record {
      found = next.ensures.found;
      all = ap (λ (parts : List PartId). c.args.parts.now.items ++ parts)
          (free_parts c.args.resource 0 next.result c.args.cells.now (omega arith) next.ensures.skipped);
    }

pub loop-place-preserved : goal.loop-place-preserved
loop-place-preserved c =
    let next = c.next_marked-place-in-loop-place in record {
      found = next.ensures.found;
      all = marked_more c.args.resource c.loop-place.place c.in_ok-index.index next.result c.args.cells.now c.loop-place-test.true c.in_ok-index.ensures
          (c.loop-place.invariant.found c.loop-place-test.true) next.ensures.behind next.ensures.skipped
          c.loop-place.parts.items c.push.new.self.items _ c.loop-place.invariant.all c.in_ok-push.ensures.items;
    }

pub returns : goal.returns
returns c =
    let all : length c.args.cells.now ≤ c.loop-place.place = omega (arith, c.loop-place-test.false) in
    marked_done c.args.resource c.loop-place.place c.args.cells.now all c.loop-place.parts.items _ c.loop-place.invariant.all
