use Rattle.std.proofs.Common.{subst}
use Rattle.hx_lists.specs.Log.{Log}
use Rattle.hx_cluster.specs.declared.happenings.Event.{Event}
use Rattle.hx_history.specs.Counted.{IsCountedBy}
use Rattle.hx_history.proofs.Counting.{counted_by}
use Rattle.hx_history.proofs.entries.Entries.counted.Goals as goal

pub returns : goal.returns
returns c =
    let a = c.self.inside in
    let P : Log Event → Type 0 = λ l. IsCountedBy l.items c.as_slice.result.now c.writes_of.result c.writes_of-2.result in
    subst P c.self.view_is
    (counted_by a.kinds.items c.as_slice-kinds.result.now a.words.items a.whole.items c.as_slice.result.now c.writes_of.result c.writes_of-2.result c.self.invariant.fit c.as_slice-kinds.ensures c.as_slice.ensures c.writes_of.ensures
    c.writes_of-2.ensures)
